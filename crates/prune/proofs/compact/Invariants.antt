-- `prune::compact` meets its contract. The invariant: the items up to the one at hand have closed up.
-- Assumes nothing.
use Rattle.prune.specs.Compact.{spread}
use Rattle.prune.proofs.Closing.{Closing}
use Rattle.prune.proofs.compact.Given as goal

abbrev pub invariant-loop-item : goal.invariant-loop-item
invariant-loop-item g l = Closing (spread g.row.WIDTH l.remap) l.initial.items l.items l.write l.item
