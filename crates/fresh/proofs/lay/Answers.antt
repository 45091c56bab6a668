use Rattle.fresh.specs.Slots.{Room, Cleared}
use Rattle.fresh.proofs.Building.{lay_building, lay_room, lay_laid}
use Prim.Native.Nat.{ℕ}
use mathlib.Core.Path.{sym, subst}
use Rattle.fresh.proofs.lay.Goals as goal

pub build_words-all-requires-clause-building : goal.build_words-all-requires-clause-building
build_words-all-requires-clause-building c = lay_building c.requires (record { offsets = c.args.offsets.now; starts = c.args.starts.now; ids = c.args.ids.now; spans = c.args.spans.now }) c.enough.result c.enough.ensures c.if-not-enough.false

pub clear-requires : goal.clear-requires
clear-requires c = subst (λ (n : ℕ). Room c.build_words-all.new.offsets c.build_words-all.new.starts c.build_words-all.new.ids c.build_words-all.new.spans c.build_words-all.result.ends c.build_words-all.result.edges n) (sym c.count-many.ensures) (lay_room c.requires (record { offsets = c.args.offsets.now; starts = c.args.starts.now; ids = c.args.ids.now; spans = c.args.spans.now }) c.enough.result c.enough.ensures c.if-not-enough.false c.build_words-all.ensures)

pub returns : goal.returns
returns c = lay_laid c.requires (record { offsets = c.args.offsets.now; starts = c.args.starts.now; ids = c.args.ids.now; spans = c.args.spans.now }) c.enough.result c.enough.ensures c.if-not-enough.false c.build_words-all.ensures (record { offsets = c.clear.new.offsets; starts = c.clear.new.starts; ids = c.clear.new.ids; spans = c.clear.new.spans }) c.build_words-all.auto.offsets c.build_words-all.auto.starts c.build_words-all.auto.ids c.build_words-all.auto.spans (subst (λ (n : ℕ). Cleared c.build_words-all.new.offsets c.build_words-all.new.starts c.build_words-all.new.ids c.build_words-all.new.spans c.build_words-all.result.ends c.build_words-all.result.edges n c.clear.new.offsets c.clear.new.starts c.clear.new.ids c.clear.new.spans) c.count-many.ensures c.clear.ensures)
