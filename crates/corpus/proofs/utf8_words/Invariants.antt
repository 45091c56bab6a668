-- `corpus::utf8_words` meets its contract: the fronts hold what was chosen so far.
-- Assumes nothing.
use Rattle.corpus.proofs.Keeps.{Choosing}
use Rattle.corpus.proofs.utf8_words.Given as goal

abbrev pub invariant-loop-k : goal.invariant-loop-k
invariant-loop-k l = Choosing l.text l.words l.frequencies l.initial.kept l.initial.counts l.kept l.counts l.r l.k
