-- `losses::losses` meets its contract. The invariant: the losses up to the one at hand are put.
-- Assumes nothing.
use Rattle.losses.proofs.Filling.{Put}
use Rattle.losses.proofs.losses.Given as goal

abbrev pub invariant-loop-id : goal.invariant-loop-id
invariant-loop-id l = Put l.text l.pieces l.setting l.scores l.uses l.initial.bits l.id l.bits
