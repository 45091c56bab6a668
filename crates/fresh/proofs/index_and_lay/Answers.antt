use Rattle.std.proofs.lemmas.Result.{err_from_is_err_and}
use Rattle.fresh.proofs.Building.{no_places, follows, placed, unplaced}
use Rattle.fresh.specs.Steps.{Fronted}
use Rattle.fresh.specs.Build.{smaller}
use Prim.Native.Nat.{ℕ}
use mathlib.Core.Path.{ap, ◌∙◌, subst}
use Rattle.fresh.proofs.index_and_lay.Goals as goal

pub returns-in_err-ok_or : goal.returns-in_err-ok_or
returns-in_err-ok_or c =
    let (none, full) = unplaced c.index_front.result c.in_err-ok_or.field-0.0 c.in_err-ok_or.ensures.value in
    let p = err_from_is_err_and c.from_residual.result c.from_residual.ensures.1 in
    rw (p.1, p.2) (no_places (record { setting = c.args.setting; text = c.args.text.now; words = c.args.words.now; spellings = c.args.spellings.now; pieces = c.args.pieces.now }) (record { offsets = c.args.offsets.now; starts = c.args.starts.now; ids = c.args.ids.now; spans = c.args.spans.now }) c.args.keys.now c.args.ends.now (c.min-places.ensures ∙ ap (λ (n : ℕ). smaller n 4294967295) c.min.ensures) c.index_front.new.keys c.index_front.new.ends full none c.index_front.ensures)

pub returns : goal.returns
returns c =
    let index = subst (Fronted c.args.keys.now c.min-places.result c.args.spellings.now c.args.pieces.now c.index_front.new.keys c.index_front.new.ends) (placed c.index_front.result c.in_ok-ok_or.field-0 c.in_ok-ok_or.ensures.value) c.index_front.ensures in
    follows (record { setting = c.args.setting; text = c.args.text.now; words = c.args.words.now; spellings = c.args.spellings.now; pieces = c.args.pieces.now }) (record { offsets = c.args.offsets.now; starts = c.args.starts.now; ids = c.args.ids.now; spans = c.args.spans.now }) c.args.keys.now c.args.ends.now (c.min-places.ensures ∙ ap (λ (n : ℕ). smaller n 4294967295) c.min.ensures) c.index_front.new.keys c.index_front.new.ends c.index_front.auto.keys c.index_front.auto.ends (record { offsets = c.lay.new.offsets; starts = c.lay.new.starts; ids = c.lay.new.ids; spans = c.lay.new.spans }) c.lay.result index c.lay.ensures
