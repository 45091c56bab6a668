-- `em::rescore` meets its contract. The invariant is `Filled`: the new scores so far stand in front.
-- Assumes nothing.
use Rattle.expectations.proofs.Filled.{Filled}
use Rattle.em.proofs.Turns.{new_to}
use Rattle.em.proofs.rescore.Given as goal

abbrev pub invariant-loop-piece : goal.invariant-loop-piece
invariant-loop-piece l = Filled (new_to l.sum l.expected l.piece) l.initial.scores l.piece l.scores
