use Rattle.spans.specs.Check.{AllGood}
use Rattle.spans.proofs.check.Given as goal

abbrev pub invariant-loop-k : goal.invariant-loop-k
invariant-loop-k l = AllGood l.text l.spans l.most l.k
