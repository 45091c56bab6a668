-- Slices whose fronts are written and whose rests are cleared: they hold the lattices, with zeros behind. Assumes nothing.
use mathlib.Core.Path.{◌≡◌, ap, ◌∙◌}
use mathlib.Core.List.{List, ◌++◌}
use Prim.Native.Nat.{ℕ, ◌-◌, ◌*◌, ◌≤◌}
use native.Mathlib.Omega.{arith}
use lib.ListN.{length, drop, replicate, length-append}
use Rattle.lattice.specs.Lattice.{Edge}
use Rattle.lattice.specs.Layout.{flat}
use Rattle.lattice.specs.Written.{over, Written}
use Rattle.retain.specs.Cleared.{cleared}
use Rattle.retain.proofs.Held.{same_many, column}
use Rattle.fresh.specs.Slots.{filled, Holds, Room, Cleared}

fits : (front l : List ℕ) {l' : List ℕ} → l' ≡ over front l → length front ≤ length l'
fits front l e = let a = ap length e in let b = length-append front (drop (length front) l) in omega arith

fill : (front l : List ℕ) {l' : List ℕ} {count : ℕ} → count ≡ length front → l' ≡ over front l → length l' ≡ length l → cleared count l' ≡ filled front (length l)
fill front l c e n = column front l c e n ∙ ap (λ (k : ℕ). front ++ replicate (length l - k) 0) c

module _ (lattices : List (List (List Edge))) (offsets starts ids spans : List ℕ) {o s i p : List ℕ} {ends count : ℕ} (words : ℕ) (written : Written lattices offsets starts ids spans o s i p count) (ends_many : ends ≡ length (flat lattices).ends)
    (spans_many : 4 * words ≡ length (flat lattices).spans) where
  starts_many : count ≡ length (flat lattices).starts
  starts_many = written.edges ∙ same_many lattices

  pub written_room : Room o s i p ends count words
  written_room =
      let a = fits (flat lattices).ends offsets written.offsets_are in
      let b = fits (flat lattices).starts starts written.starts_are in
      let c = fits (flat lattices).ids ids written.ids_are in
      let d = fits (flat lattices).spans spans written.spans_are in
      let z = starts_many in
      let w = written.edges in
      record { in_offsets = omega arith; in_starts = omega arith; in_ids = omega arith; in_spans = omega arith }

  pub written_holds : {o' s' i' p' : List ℕ} → length o ≡ length offsets → length s ≡ length starts → length i ≡ length ids → length p ≡ length spans → Cleared o s i p ends count words o' s' i' p' → Holds lattices offsets starts ids spans o' s' i' p' count
  written_holds lo ls li lp clear =
      record {
        edges = written.edges;
        offsets_are = clear.offsets_are ∙ fill (flat lattices).ends offsets ends_many written.offsets_are lo;
        starts_are = clear.starts_are ∙ fill (flat lattices).starts starts starts_many written.starts_are ls;
        ids_are = clear.ids_are ∙ fill (flat lattices).ids ids written.edges written.ids_are li;
        spans_are = clear.spans_are ∙ fill (flat lattices).spans spans spans_many written.spans_are lp;
      }
