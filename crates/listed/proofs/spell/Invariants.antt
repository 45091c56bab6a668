use Rattle.listed.proofs.Turns.{Upto}
use Rattle.listed.proofs.spell.Given as goal

abbrev pub invariant-loop-i : goal.invariant-loop-i
invariant-loop-i l = Upto l.words l.places l.n l.initial.pieces l.i l.pieces
