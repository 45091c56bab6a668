-- `prune::mark` meets its contract. The invariant: the survivors up to the one at hand are marked.
-- Assumes nothing.
use mathlib.Core.Path.{◌≡◌}
use lib.ListN.{take}
use Rattle.prune.specs.Steps.{marked}
use Rattle.prune.proofs.mark.Given as goal

abbrev pub invariant-loop-id : goal.invariant-loop-id
invariant-loop-id l = l.remap ≡ marked (take l.id-index l.survivors) l.initial.remap
