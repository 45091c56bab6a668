use Rattle.shrink.proofs.Narrowed.{pruning, pieces_room, scores_room, cached, narrowed}
use Rattle.shrink.proofs.narrow.Goals as goal

pub survivors-left-requires : goal.survivors-left-requires
survivors-left-requires c = pruning _ _ _ (record { pieces = c.args.pieces.now; scores = c.args.scores.now; offsets = c.args.offsets.now; starts = c.args.starts.now; ids = c.args.ids.now; spans = c.args.spans.now }) c.args.bits.now c.args.ranked.now c.args.remap.now c.requires.1

pub compact_pieces-requires : goal.compact_pieces-requires
compact_pieces-requires c = pieces_room _ _ _ (record { pieces = c.args.pieces.now; scores = c.args.scores.now; offsets = c.args.offsets.now; starts = c.args.starts.now; ids = c.args.ids.now; spans = c.args.spans.now }) c.args.bits.now c.args.ranked.now c.args.remap.now c.requires.1 _ _ c.survivors-left.ensures.remap_after

pub compact_scores-requires : goal.compact_scores-requires
compact_scores-requires c = scores_room _ _ _ (record { pieces = c.args.pieces.now; scores = c.args.scores.now; offsets = c.args.offsets.now; starts = c.args.starts.now; ids = c.args.ids.now; spans = c.args.spans.now }) c.args.bits.now c.args.ranked.now c.args.remap.now c.requires.1 _ _ c.survivors-left.ensures.remap_after

pub retain_core-edges-requires : goal.retain_core-edges-requires
retain_core-edges-requires c = cached _ _ _ (record { pieces = c.args.pieces.now; scores = c.args.scores.now; offsets = c.args.offsets.now; starts = c.args.starts.now; ids = c.args.ids.now; spans = c.args.spans.now }) c.args.bits.now c.args.ranked.now c.args.remap.now c.requires.1 _ _ c.survivors-left.ensures.remap_after

pub returns : goal.returns
returns c = narrowed _ _ _ (record { pieces = c.args.pieces.now; scores = c.args.scores.now; offsets = c.args.offsets.now; starts = c.args.starts.now; ids = c.args.ids.now; spans = c.args.spans.now }) c.args.bits.now c.args.ranked.now c.args.remap.now c.requires.1 _ c.survivors-left.new.remap c.survivors-left.ensures.remap_after _ _ (record { offsets = c.retain_core-edges.new.offsets; starts = c.retain_core-edges.new.starts; ids = c.retain_core-edges.new.ids; spans = c.retain_core-edges.new.spans }) c.survivors-left.result c.retain_core-edges.result c.survivors-left.ensures.value c.compact_pieces.ensures.pieces_after c.compact_scores.ensures.scores_after c.retain_core-edges.ensures
