-- One round: a pruning, and EM over what is left. Assumes nothing.
use mathlib.Core.Path.{◌≡◌}
use mathlib.Core.List.{List}
use Prim.Native.Nat.{ℕ, ◌≤◌}
use native.Mathlib.Omega.{arith}
use lib.Ieee.{Float}
use Rattle.model.specs.Model.{Model, Task, pruned_to}
use Rattle.model.proofs.Kept.{pruned_kept}
use Rattle.shrink.specs.declared.Shrunk.{Shrunk}
use Rattle.shrink.specs.At.{Slices, At}
use Rattle.shrink.specs.Steps.{Shrinking, Shrinks}
use Rattle.turn.specs.Steps.{Improving, Improves, Turns}
use Rattle.turn.proofs.Improved.{at_count, improving, improved_at}

module _ (setting : ℕ) (text : List ℕ) (words : ℕ) (frequencies : List ℕ) (required keep count edges : ℕ) (s : Slices) (used bits ranked remap keys ends : ℕ)
    (w : Shrinking setting text words frequencies required count edges s used bits ranked remap keys ends) (s' : Slices) (r : Shrunk) (h : Shrinks setting text words frequencies required keep count edges s s' r) where
  -- no more than there were
  no_more : (t : Task) (m : Model) → t.required ≡ required → At t text m s count edges → At t text (pruned_to t keep m) s' r.pieces r.edges → r.pieces ≤ count
  no_more t m e at after =
      let a = at_count at in
      let b = at_count after in
      let c = w.there in
      let d = w.room.few in
      let k = pruned_kept t m (omega arith) (omega arith) keep in
      omega arith

  pub improving_next : (expected : ℕ) → expected ≡ used → Improving words frequencies r.pieces r.edges s'.scores expected s'.offsets s'.starts s'.ids s'.spans
  improving_next expected e =
      let after = h w.t w.m w.fixed w.required_are w.at in
      improving w.fixed after expected (let a = no_more w.t w.m w.required_are w.at after in let b = w.room.in_used in omega arith)

  pub turned : (iterations : ℕ) (scores' : List Float) → Improves words frequencies iterations r.pieces r.edges s'.scores s'.offsets s'.starts s'.ids s'.spans scores'
      → Turns setting text words frequencies iterations required keep count edges s (record { pieces = s'.pieces; scores = scores'; offsets = s'.offsets; starts = s'.starts; ids = s'.ids; spans = s'.spans }) r
  turned iterations scores' e t m fixed i q at = improved_at fixed (h t m fixed q at) iterations e i
