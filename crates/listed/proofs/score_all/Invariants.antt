use Rattle.listed.proofs.Scored.{Scored}
use Rattle.listed.proofs.score_all.Given as goal

abbrev pub invariant-loop-i : goal.invariant-loop-i
invariant-loop-i l = Scored l.counts l.initial.scores l.sum l.i l.scores
