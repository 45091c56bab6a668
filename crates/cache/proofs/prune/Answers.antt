use Rattle.cache.proofs.Bridge.{taken, has_room, pruned}
use Rattle.cache.proofs.prune.Goals as goal

pub retain_core-count-requires : goal.retain_core-count-requires
retain_core-count-requires c = taken _ _ _ _ _ _ c.requires

pub clear-requires : goal.clear-requires
clear-requires c = has_room _ _ _ _ _ _ c.requires _ _ _ _ _ _ c.retain_core-count.ensures c.offsets_before-ends.ensures

pub returns : goal.returns
returns c = pruned _ _ _ _ _ _ c.requires _ _ _ _ _ _ c.retain_core-count.ensures c.offsets_before-ends.ensures _ _ _ _ c.clear.ensures
