-- `prune::turn` meets its contract. The invariant: the losses up to the one at hand are turned.
-- Assumes nothing.
use Rattle.prune.proofs.Filled.{Turning}
use Rattle.prune.proofs.turn.Given as goal

abbrev pub invariant-loop-loss : goal.invariant-loop-loss
invariant-loop-loss l = Turning l.initial.losses l.losses l.loss-index
