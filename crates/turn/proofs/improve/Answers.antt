use Rattle.turn.proofs.Improved.{given, improves}
use Rattle.shrink.proofs.Cut.{cut_long}
use Rattle.turn.proofs.improve.Goals as goal

pub slice_bounds-em_many-end : goal.slice_bounds-em_many-end
slice_bounds-em_many-end c = cut_long _ c.args.starts.now c.requires.in_starts

pub slice_bounds-em_many-end-2 : goal.slice_bounds-em_many-end-2
slice_bounds-em_many-end-2 c = cut_long _ c.args.ids.now c.requires.in_ids

pub slice_bounds-em_many-end-4 : goal.slice_bounds-em_many-end-4
slice_bounds-em_many-end-4 c = cut_long _ c.args.scores.now c.requires.in_scores

pub slice_bounds-em_many-end-6 : goal.slice_bounds-em_many-end-6
slice_bounds-em_many-end-6 c = cut_long _ c.args.expected.now c.requires.in_expected

pub em_many-requires : goal.em_many-requires
em_many-requires c = given _ _ _ _ c.args.scores.now c.args.expected.now c.args.offsets.now c.args.starts.now c.args.ids.now c.args.spans.now c.requires

pub returns : goal.returns
returns c = improves _ _ _ _ c.args.scores.now c.args.expected.now c.args.offsets.now c.args.starts.now c.args.ids.now c.args.spans.now c.requires c.args.iterations _ c.em_many.ensures
