use Rattle.shrink.proofs.Weighed.{fronts, in_keys, in_ends, cut_keys, cut_ends, losses_given, uses_given, weighed}
use Rattle.fresh.specs.Build.{smaller}
use Prim.Native.Nat.{ℕ}
use mathlib.Core.Path.{refl, ap, ◌∙◌}
use Rattle.shrink.proofs.weigh.Goals as goal

pub index_front-requires : goal.index_front-requires
index_front-requires c = fronts _ _ _ _ (record { pieces = c.args.pieces.now; scores = c.args.scores.now; offsets = c.args.offsets.now; starts = c.args.starts.now; ids = c.args.ids.now; spans = c.args.spans.now }) _ _ c.args.keys.now c.args.ends.now c.requires (c.min-places.ensures ∙ ap (λ (n : ℕ). smaller n 4294967295) c.min.ensures)

pub uses-requires : goal.uses-requires
uses-requires c = (uses_given _ _ _ _ (record { pieces = c.args.pieces.now; scores = c.args.scores.now; offsets = c.args.offsets.now; starts = c.args.starts.now; ids = c.args.ids.now; spans = c.args.spans.now }) _ _ _ _ c.requires, c.requires.in_used)

pub slice_bounds-losses-end : goal.slice_bounds-losses-end
slice_bounds-losses-end c = in_keys _ _ _ _ (record { pieces = c.args.pieces.now; scores = c.args.scores.now; offsets = c.args.offsets.now; starts = c.args.starts.now; ids = c.args.ids.now; spans = c.args.spans.now }) _ _ c.args.keys.now c.args.ends.now c.requires (c.min-places.ensures ∙ ap (λ (n : ℕ). smaller n 4294967295) c.min.ensures) c.index_front.new.keys c.index_front.new.ends c.index_front.auto.keys c.index_front.auto.ends

pub slice_bounds-losses-end-2 : goal.slice_bounds-losses-end-2
slice_bounds-losses-end-2 c = cut_keys _ _ _ _ (record { pieces = c.args.pieces.now; scores = c.args.scores.now; offsets = c.args.offsets.now; starts = c.args.starts.now; ids = c.args.ids.now; spans = c.args.spans.now }) _ _ c.args.keys.now c.args.ends.now c.requires (c.min-places.ensures ∙ ap (λ (n : ℕ). smaller n 4294967295) c.min.ensures) c.index_front.new.keys c.index_front.new.ends c.index_front.auto.keys c.index_front.auto.ends

pub slice_bounds-losses-end-3 : goal.slice_bounds-losses-end-3
slice_bounds-losses-end-3 c = in_ends _ _ _ _ (record { pieces = c.args.pieces.now; scores = c.args.scores.now; offsets = c.args.offsets.now; starts = c.args.starts.now; ids = c.args.ids.now; spans = c.args.spans.now }) _ _ c.args.keys.now c.args.ends.now c.requires (c.min-places.ensures ∙ ap (λ (n : ℕ). smaller n 4294967295) c.min.ensures) c.index_front.new.keys c.index_front.new.ends c.index_front.auto.keys c.index_front.auto.ends

pub slice_bounds-losses-end-4 : goal.slice_bounds-losses-end-4
slice_bounds-losses-end-4 c = cut_ends _ _ _ _ (record { pieces = c.args.pieces.now; scores = c.args.scores.now; offsets = c.args.offsets.now; starts = c.args.starts.now; ids = c.args.ids.now; spans = c.args.spans.now }) _ _ c.args.keys.now c.args.ends.now c.requires (c.min-places.ensures ∙ ap (λ (n : ℕ). smaller n 4294967295) c.min.ensures) c.index_front.new.keys c.index_front.new.ends c.index_front.auto.keys c.index_front.auto.ends

pub losses-requires : goal.losses-requires
losses-requires c = losses_given _ _ _ _ (record { pieces = c.args.pieces.now; scores = c.args.scores.now; offsets = c.args.offsets.now; starts = c.args.starts.now; ids = c.args.ids.now; spans = c.args.spans.now }) _ _ c.args.keys.now c.args.ends.now c.requires (c.min-places.ensures ∙ ap (λ (n : ℕ). smaller n 4294967295) c.min.ensures) c.index_front.new.keys c.index_front.new.ends c.index_front.auto.keys c.index_front.auto.ends c.index_front.result c.index_front.ensures _ _ c.uses.auto.uses refl

pub returns : goal.returns
returns c = weighed _ _ _ _ (record { pieces = c.args.pieces.now; scores = c.args.scores.now; offsets = c.args.offsets.now; starts = c.args.starts.now; ids = c.args.ids.now; spans = c.args.spans.now }) c.requires.exact c.uses.new.uses _ c.uses.ensures c.losses.ensures
