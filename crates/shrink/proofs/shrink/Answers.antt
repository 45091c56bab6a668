use Rattle.shrink.proofs.Cut.{cut_long, front_in, in_starts, in_ids, weighing, bits_long, narrowing, shrunk}
use Rattle.shrink.proofs.shrink.Goals as goal

pub slice_bounds-weigh-end-2 : goal.slice_bounds-weigh-end-2
slice_bounds-weigh-end-2 c = cut_long _ c.args.state.now.pieces.now c.requires.at.in_pieces

pub slice_bounds-weigh-end-4 : goal.slice_bounds-weigh-end-4
slice_bounds-weigh-end-4 c = cut_long _ c.args.state.now.scores.now c.requires.at.in_scores

pub slice_bounds-weigh-end-6 : goal.slice_bounds-weigh-end-6
slice_bounds-weigh-end-6 c = cut_long _ c.args.work.now.expected.now c.requires.room.in_used

pub slice_bounds-weigh-end-8 : goal.slice_bounds-weigh-end-8
slice_bounds-weigh-end-8 c = cut_long _ c.args.work.now.bits.now c.requires.room.in_bits

pub slice_bounds-weigh-end-9 : goal.slice_bounds-weigh-end-9
slice_bounds-weigh-end-9 c = in_starts c.requires.at

pub slice_bounds-weigh-end-10 : goal.slice_bounds-weigh-end-10
slice_bounds-weigh-end-10 c = cut_long _ c.args.state.now.starts.now (in_starts c.requires.at)

pub slice_bounds-weigh-end-11 : goal.slice_bounds-weigh-end-11
slice_bounds-weigh-end-11 c = in_ids c.requires.at

pub slice_bounds-weigh-end-12 : goal.slice_bounds-weigh-end-12
slice_bounds-weigh-end-12 c = cut_long _ c.args.state.now.ids.now (in_ids c.requires.at)

pub weigh-requires : goal.weigh-requires
weigh-requires c = weighing _ _ _ _ _ _ _ (record { pieces = c.args.state.now.pieces.now; scores = c.args.state.now.scores.now; offsets = c.args.state.now.offsets.now; starts = c.args.state.now.starts.now; ids = c.args.state.now.ids.now; spans = c.args.state.now.spans.now }) c.args.work.now.expected.now c.args.work.now.bits.now c.args.work.now.ranked.now c.args.work.now.remap.now _ _ c.requires

pub slice_bounds-narrow-end : goal.slice_bounds-narrow-end
slice_bounds-narrow-end c = c.requires.at.in_pieces

pub slice_bounds-narrow-end-2 : goal.slice_bounds-narrow-end-2
slice_bounds-narrow-end-2 c = cut_long _ c.args.state.now.pieces.now c.requires.at.in_pieces

pub slice_bounds-narrow-end-3 : goal.slice_bounds-narrow-end-3
slice_bounds-narrow-end-3 c = c.requires.at.in_scores

pub slice_bounds-narrow-end-4 : goal.slice_bounds-narrow-end-4
slice_bounds-narrow-end-4 c = cut_long _ c.args.state.now.scores.now c.requires.at.in_scores

pub slice_bounds-narrow-end-5 : goal.slice_bounds-narrow-end-5
slice_bounds-narrow-end-5 c = front_in _ c.weigh.new.bits _ (bits_long _ _ _ _ _ _ _ (record { pieces = c.args.state.now.pieces.now; scores = c.args.state.now.scores.now; offsets = c.args.state.now.offsets.now; starts = c.args.state.now.starts.now; ids = c.args.state.now.ids.now; spans = c.args.state.now.spans.now }) c.args.work.now.expected.now c.args.work.now.bits.now c.args.work.now.ranked.now c.args.work.now.remap.now _ _ c.requires c.weigh.new.bits c.weigh.auto.bits)

pub slice_bounds-narrow-end-6 : goal.slice_bounds-narrow-end-6
slice_bounds-narrow-end-6 c = cut_long _ _ (front_in _ c.weigh.new.bits _ (bits_long _ _ _ _ _ _ _ (record { pieces = c.args.state.now.pieces.now; scores = c.args.state.now.scores.now; offsets = c.args.state.now.offsets.now; starts = c.args.state.now.starts.now; ids = c.args.state.now.ids.now; spans = c.args.state.now.spans.now }) c.args.work.now.expected.now c.args.work.now.bits.now c.args.work.now.ranked.now c.args.work.now.remap.now _ _ c.requires c.weigh.new.bits c.weigh.auto.bits))

pub slice_bounds-narrow-end-7 : goal.slice_bounds-narrow-end-7
slice_bounds-narrow-end-7 c = c.requires.room.in_ranked

pub slice_bounds-narrow-end-8 : goal.slice_bounds-narrow-end-8
slice_bounds-narrow-end-8 c = cut_long _ c.args.work.now.ranked.now c.requires.room.in_ranked

pub slice_bounds-narrow-end-9 : goal.slice_bounds-narrow-end-9
slice_bounds-narrow-end-9 c = c.requires.room.in_remap

pub slice_bounds-narrow-end-10 : goal.slice_bounds-narrow-end-10
slice_bounds-narrow-end-10 c = cut_long _ c.args.work.now.remap.now c.requires.room.in_remap

pub slice_bounds-narrow-end-11 : goal.slice_bounds-narrow-end-11
slice_bounds-narrow-end-11 c = in_starts c.requires.at

pub slice_bounds-narrow-end-12 : goal.slice_bounds-narrow-end-12
slice_bounds-narrow-end-12 c = cut_long _ c.args.state.now.starts.now (in_starts c.requires.at)

pub slice_bounds-narrow-end-13 : goal.slice_bounds-narrow-end-13
slice_bounds-narrow-end-13 c = in_ids c.requires.at

pub slice_bounds-narrow-end-14 : goal.slice_bounds-narrow-end-14
slice_bounds-narrow-end-14 c = cut_long _ c.args.state.now.ids.now (in_ids c.requires.at)

pub narrow-requires : goal.narrow-requires
narrow-requires c = narrowing _ _ _ _ _ _ _ (record { pieces = c.args.state.now.pieces.now; scores = c.args.state.now.scores.now; offsets = c.args.state.now.offsets.now; starts = c.args.state.now.starts.now; ids = c.args.state.now.ids.now; spans = c.args.state.now.spans.now }) c.args.work.now.expected.now c.args.work.now.bits.now c.args.work.now.ranked.now c.args.work.now.remap.now _ _ c.requires c.weigh.new.bits c.weigh.auto.bits _

pub returns-clause-shrinks : goal.returns-clause-shrinks
returns-clause-shrinks c = shrunk _ _ _ _ _ _ _ (record { pieces = c.args.state.now.pieces.now; scores = c.args.state.now.scores.now; offsets = c.args.state.now.offsets.now; starts = c.args.state.now.starts.now; ids = c.args.state.now.ids.now; spans = c.args.state.now.spans.now }) c.args.work.now.expected.now c.args.work.now.bits.now c.args.work.now.ranked.now c.args.work.now.remap.now _ _ c.requires c.weigh.new.bits c.weigh.auto.bits _ _ (record { pieces = c.narrow.new.pieces; scores = c.narrow.new.scores; offsets = c.narrow.new.offsets; starts = c.narrow.new.starts; ids = c.narrow.new.ids; spans = c.narrow.new.spans }) c.narrow.result c.weigh.ensures c.narrow.ensures _ _ _ _
