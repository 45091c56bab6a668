-- Slices whose fronts hold the flat lists of lattices. Definitions only.
use Rattle.std.specs.Prelude.{◌≡◌, List, ◌++◌, ℕ, length, drop}
use Rattle.lattice.specs.Lattice.{Edge}
use Rattle.lattice.specs.Layout.{flat}

-- a list whose front is written over
abbrev pub over : List ℕ → List ℕ → List ℕ
over front l = front ++ drop (length front) l

-- the slices begin with the flat lists of these lattices, whatever stands behind
pub record Begins (lattices : List (List (List Edge))) (offsets starts ids spans : List ℕ) : Type 0 where
  pub offsets_begin : offsets ≡ over (flat lattices).ends offsets
  pub starts_begin : starts ≡ over (flat lattices).starts starts
  pub ids_begin : ids ≡ over (flat lattices).ids ids
  pub spans_begin : spans ≡ over (flat lattices).spans spans

-- the flat lists of these lattices, of `count` edges, are written over the slices' fronts, and what stands behind is as it was
pub record Written (lattices : List (List (List Edge))) (offsets starts ids spans offsets' starts' ids' spans' : List ℕ) (count : ℕ) : Type 0 where
  pub edges : count ≡ length (flat lattices).ids
  pub offsets_are : offsets' ≡ over (flat lattices).ends offsets
  pub starts_are : starts' ≡ over (flat lattices).starts starts
  pub ids_are : ids' ≡ over (flat lattices).ids ids
  pub spans_are : spans' ≡ over (flat lattices).spans spans
