-- `corpus::judge` meets its contract: the words before k are good.
-- Assumes nothing.
use Rattle.corpus.specs.Corpus.{GoodWords}
use Rattle.corpus.proofs.judge.Given as goal

abbrev pub invariant-loop-k : goal.invariant-loop-k
invariant-loop-k l = GoodWords l.text l.words l.frequencies l.k
