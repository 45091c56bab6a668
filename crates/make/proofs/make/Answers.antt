use Rattle.make.proofs.Made.{required_small, specials_few, refuse_vocab, refuse_shape, in_pieces, in_scores, left_few, concluding, makes, shaping}
use Rattle.settings.specs.Settings.{target_of}
use Rattle.shrink.proofs.Cut.{cut_long}
use Rattle.shrink.specs.Lent.{cache_of}
use Prim.Native.Nat.{ℕ, ◌+◌}
use Rattle.std.proofs.lemmas.Result.{err_from_is_err_and}
use native.Mathlib.Omega.{arith}
use mathlib.Core.Path.{refl, ap, ◌∙◌}
use Rattle.make.proofs.make.Goals as goal

pub overflow_add-result : goal.overflow_add-result
overflow_add-result c = let a = required_small c.args.settings c.args.texts.now c.args.specials.now c.args.text.now c.args.kept.now c.args.counts.now c.args.seeded.words c.args.seeded.pieces c.args.seeded.required c.args.state.now.pieces.now c.args.state.now.scores.now c.args.work.now.keys.now c.args.work.now.ends.now (cache_of c.args.state.now) (record { bytes = c.args.bytes.now; tokens = c.args.tokens.now; scores = c.args.token_scores.now }) (c.target-target.ensures ∙ ap (λ (n : ℕ). target_of c.args.settings n) c.count-many.ensures) c.requires.here in let b = specials_few c.args.settings c.args.texts.now c.args.specials.now c.args.text.now c.args.kept.now c.args.counts.now c.args.seeded.words c.args.seeded.pieces c.args.seeded.required c.args.state.now.pieces.now c.args.state.now.scores.now c.args.work.now.keys.now c.args.work.now.ends.now (cache_of c.args.state.now) (record { bytes = c.args.bytes.now; tokens = c.args.tokens.now; scores = c.args.token_scores.now }) (c.target-target.ensures ∙ ap (λ (n : ℕ). target_of c.args.settings n) c.count-many.ensures) c.requires.here in let d = c.count-many.ensures in omega (arith, c.well_formed)

pub returns-then-target-required-clause-makes : goal.returns-then-target-required-clause-makes
returns-then-target-required-clause-makes c = λ h. refuse_vocab c.args.settings c.args.texts.now c.args.specials.now c.args.text.now c.args.kept.now c.args.counts.now c.args.seeded.words c.args.seeded.pieces c.args.seeded.required c.args.state.now.pieces.now c.args.state.now.scores.now c.args.work.now.keys.now c.args.work.now.ends.now (cache_of c.args.state.now) (record { bytes = c.args.bytes.now; tokens = c.args.tokens.now; scores = c.args.token_scores.now }) (c.target-target.ensures ∙ ap (λ (n : ℕ). target_of c.args.settings n) c.count-many.ensures) h _ _ (ap (λ (n : ℕ). c.args.seeded.required + n) c.count-many.ensures) c.if-target-required.true refl

pub shape-requires : goal.shape-requires
shape-requires c = shaping c.args.settings c.args.texts.now c.args.specials.now c.args.text.now c.args.kept.now c.args.counts.now c.args.seeded.words c.args.seeded.pieces c.args.seeded.required c.args.state.now.pieces.now c.args.state.now.scores.now c.args.work.now.keys.now c.args.work.now.ends.now (cache_of c.args.state.now) (record { bytes = c.args.bytes.now; tokens = c.args.tokens.now; scores = c.args.token_scores.now }) (c.target-target.ensures ∙ ap (λ (n : ℕ). target_of c.args.settings n) c.count-many.ensures) _ _ _ _ c.requires c.if-target-required.false

pub overflow_mul-numbers : goal.overflow_mul-numbers
overflow_mul-numbers c = let a = left_few c.args.settings c.args.texts.now c.args.specials.now c.args.text.now c.args.kept.now c.args.counts.now c.args.seeded.words c.args.seeded.pieces c.args.seeded.required c.args.state.now.pieces.now c.args.state.now.scores.now c.args.work.now.keys.now c.args.work.now.ends.now (cache_of c.args.state.now) (record { bytes = c.args.bytes.now; tokens = c.args.tokens.now; scores = c.args.token_scores.now }) (c.target-target.ensures ∙ ap (λ (n : ℕ). target_of c.args.settings n) c.count-many.ensures) c.requires.here c.if-target-required.false c.shape.new.state.pieces.now c.shape.new.state.scores.now _ c.shape.result c.in_ok-left.was c.shape.ensures.shapes in omega arith

pub slice_bounds-conclude-end : goal.slice_bounds-conclude-end
slice_bounds-conclude-end c = cut_long _ c.shape.new.state.pieces.now (in_pieces c.args.settings c.args.texts.now c.args.specials.now c.args.text.now c.args.kept.now c.args.counts.now c.args.seeded.words c.args.seeded.pieces c.args.seeded.required c.args.state.now.pieces.now c.args.state.now.scores.now c.args.work.now.keys.now c.args.work.now.ends.now (cache_of c.args.state.now) (record { bytes = c.args.bytes.now; tokens = c.args.tokens.now; scores = c.args.token_scores.now }) (c.target-target.ensures ∙ ap (λ (n : ℕ). target_of c.args.settings n) c.count-many.ensures) c.requires.here c.if-target-required.false c.shape.new.state.pieces.now c.shape.new.state.scores.now _ c.shape.result c.in_ok-left.was c.shape.ensures.shapes)

pub slice_bounds-conclude-end-2 : goal.slice_bounds-conclude-end-2
slice_bounds-conclude-end-2 c = cut_long _ c.shape.new.state.scores.now (in_scores c.args.settings c.args.texts.now c.args.specials.now c.args.text.now c.args.kept.now c.args.counts.now c.args.seeded.words c.args.seeded.pieces c.args.seeded.required c.args.state.now.pieces.now c.args.state.now.scores.now c.args.work.now.keys.now c.args.work.now.ends.now (cache_of c.args.state.now) (record { bytes = c.args.bytes.now; tokens = c.args.tokens.now; scores = c.args.token_scores.now }) (c.target-target.ensures ∙ ap (λ (n : ℕ). target_of c.args.settings n) c.count-many.ensures) c.requires.here c.if-target-required.false c.shape.new.state.pieces.now c.shape.new.state.scores.now _ c.shape.result c.in_ok-left.was c.shape.ensures.shapes)

pub conclude-requires : goal.conclude-requires
conclude-requires c = concluding c.args.settings c.args.texts.now c.args.specials.now c.args.text.now c.args.kept.now c.args.counts.now c.args.seeded.words c.args.seeded.pieces c.args.seeded.required c.args.state.now.pieces.now c.args.state.now.scores.now c.args.work.now.keys.now c.args.work.now.ends.now (cache_of c.args.state.now) (record { bytes = c.args.bytes.now; tokens = c.args.tokens.now; scores = c.args.token_scores.now }) (c.target-target.ensures ∙ ap (λ (n : ℕ). target_of c.args.settings n) c.count-many.ensures) c.requires.here c.if-target-required.false c.shape.new.state.pieces.now c.shape.new.state.scores.now _ c.shape.result c.in_ok-left.was c.shape.ensures.shapes

pub returns-in_err-left-clause-makes : goal.returns-in_err-left-clause-makes
returns-in_err-left-clause-makes c = let p = err_from_is_err_and c.from_residual.result c.from_residual.ensures.1 in λ h. rw (p.1, p.2) (refuse_shape c.args.settings c.args.texts.now c.args.specials.now c.args.text.now c.args.kept.now c.args.counts.now c.args.seeded.words c.args.seeded.pieces c.args.seeded.required c.args.state.now.pieces.now c.args.state.now.scores.now c.args.work.now.keys.now c.args.work.now.ends.now (cache_of c.args.state.now) (record { bytes = c.args.bytes.now; tokens = c.args.tokens.now; scores = c.args.token_scores.now }) (c.target-target.ensures ∙ ap (λ (n : ℕ). target_of c.args.settings n) c.count-many.ensures) h c.if-target-required.false c.shape.new.state.pieces.now c.shape.new.state.scores.now _ c.shape.result c.in_err-left.was c.shape.ensures.shapes)

pub returns-clause-makes : goal.returns-clause-makes
returns-clause-makes c = λ h. makes c.args.settings c.args.texts.now c.args.specials.now c.args.text.now c.args.kept.now c.args.counts.now c.args.seeded.words c.args.seeded.pieces c.args.seeded.required c.args.state.now.pieces.now c.args.state.now.scores.now c.args.work.now.keys.now c.args.work.now.ends.now (cache_of c.args.state.now) (record { bytes = c.args.bytes.now; tokens = c.args.tokens.now; scores = c.args.token_scores.now }) (c.target-target.ensures ∙ ap (λ (n : ℕ). target_of c.args.settings n) c.count-many.ensures) h c.if-target-required.false c.shape.new.state.pieces.now c.shape.new.state.scores.now _ c.shape.result c.in_ok-left.was c.shape.ensures.shapes (record { bytes = c.conclude.new.bytes; tokens = c.conclude.new.tokens; scores = c.conclude.new.token_scores }) c.conclude.result c.conclude.ensures
