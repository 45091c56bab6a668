use Rattle.shape.proofs.Listed.{kept_in, frequencies_in, spans_in, in_order, refused, shaped, rounding, asked_own, asked_of}
use Rattle.shrink.specs.Lent.{cache_of}
use Rattle.shrink.proofs.Cut.{cut_long}
use Rattle.shrink.proofs.Lent.{same_state_on, same_work_on}
use Rattle.std.proofs.lemmas.Result.{err_from_is_err_and}
use native.Mathlib.Omega.{arith}
use Rattle.shape.proofs.shape.Goals as goal

pub slice_bounds-lay-end : goal.slice_bounds-lay-end
slice_bounds-lay-end c = cut_long _ c.args.kept.now (kept_in c.args.settings c.args.target c.args.text.now c.args.kept.now c.args.counts.now c.args.seeded.words c.args.seeded.pieces c.args.seeded.required c.args.state.now.pieces.now c.args.state.now.scores.now c.requires.here)

pub lay-requires-clause-few : goal.lay-requires-clause-few
lay-requires-clause-few c = spans_in c.args.settings c.args.target c.args.text.now c.args.kept.now c.args.counts.now c.args.seeded.words c.args.seeded.pieces c.args.seeded.required c.args.state.now.pieces.now c.args.state.now.scores.now c.requires.here

pub lay-requires-clause-in_order : goal.lay-requires-clause-in_order
lay-requires-clause-in_order c = in_order c.args.settings c.args.target c.args.text.now c.args.kept.now c.args.counts.now c.args.seeded.words c.args.seeded.pieces c.args.seeded.required c.args.state.now.pieces.now c.args.state.now.scores.now c.requires.here (asked_own c.args.settings c.args.target c.args.text.now c.args.kept.now c.args.counts.now c.args.seeded.words c.args.seeded.pieces c.args.seeded.required c.args.state.now.pieces.now c.args.state.now.scores.now _ _ _ _ c.requires) c.args.work.now.keys.now c.args.work.now.ends.now

pub returns-in_err-edges-clause-shapes : goal.returns-in_err-edges-clause-shapes
returns-in_err-edges-clause-shapes c = let p = err_from_is_err_and c.from_residual.result c.from_residual.ensures.1 in λ texts specials h e. rw (p.1, p.2) (refused c.args.settings c.args.target c.args.text.now c.args.kept.now c.args.counts.now c.args.seeded.words c.args.seeded.pieces c.args.seeded.required c.args.state.now.pieces.now c.args.state.now.scores.now h (asked_of c.args.settings c.args.target c.args.text.now c.args.kept.now c.args.counts.now c.args.seeded.words c.args.seeded.pieces c.args.seeded.required c.args.state.now.pieces.now c.args.state.now.scores.now c.requires.asked h e) c.args.work.now.keys.now c.args.work.now.ends.now (cache_of c.args.state.now) (cache_of c.lay.new.state) _ c.lay.result c.in_err-edges.was c.lay.ensures.follows)

pub rounds-requires : goal.rounds-requires
rounds-requires c =
    let w = c.lay.ensures.same_work in
    rw (c.lay.ensures.pieces_kept, c.lay.ensures.scores_kept)
    (rounding c.args.settings c.args.target c.args.text.now c.args.kept.now c.args.counts.now c.args.seeded.words c.args.seeded.pieces c.args.seeded.required c.args.state.now.pieces.now c.args.state.now.scores.now c.requires.here (asked_own c.args.settings c.args.target c.args.text.now c.args.kept.now c.args.counts.now c.args.seeded.words c.args.seeded.pieces c.args.seeded.required c.args.state.now.pieces.now c.args.state.now.scores.now _ _ _ _ c.requires) c.args.work.now.keys.now c.args.work.now.ends.now (cache_of c.args.state.now) (cache_of c.lay.new.state) _ c.lay.result c.in_ok-edges.was c.lay.ensures.follows c.requires.target_is _ _ _ _ (omega (arith, c.requires.in_expected, w.expected_long)) (omega (arith, c.requires.in_ranks, w.bits_long)) (omega (arith, c.requires.in_order, w.ranked_long)) (omega (arith, c.requires.in_work, w.remap_long)) c.lay.new.work.keys.now c.lay.new.work.ends.now w.keys_long w.ends_long)

pub returns-clause-shapes : goal.returns-clause-shapes
returns-clause-shapes c = λ texts specials h e. shaped c.args.settings c.args.target c.args.text.now c.args.kept.now c.args.counts.now c.args.seeded.words c.args.seeded.pieces c.args.seeded.required c.args.state.now.pieces.now c.args.state.now.scores.now h (asked_of c.args.settings c.args.target c.args.text.now c.args.kept.now c.args.counts.now c.args.seeded.words c.args.seeded.pieces c.args.seeded.required c.args.state.now.pieces.now c.args.state.now.scores.now c.requires.asked h e) c.args.work.now.keys.now c.args.work.now.ends.now (cache_of c.args.state.now) (cache_of c.lay.new.state) _ c.lay.result c.in_ok-edges.was c.lay.ensures.follows e c.rounds.new.state.pieces.now c.rounds.new.state.scores.now _ (rw (c.lay.ensures.pieces_kept, c.lay.ensures.scores_kept) at c.rounds.ensures.rounds)
