-- The lattices that a cache's slices hold, one for each word. Definitions only.
use Rattle.std.specs.Prelude.{◌≡◌, List, [], ◌∷◌, ℕ, length, take}
use Rattle.lattice.specs.Lattice.{Edge}
use Rattle.lattice.specs.Layout.{flat}
use Rattle.formed.specs.Held.{Rows}

-- the rows of each lattice: one for each position of its word, 0 too
abbrev pub Lattices : ℕ → List (List (List Edge)) → Type 0
Lattices pieces [] = Unit
Lattices pieces ([] ∷ lattices) = ⊥
Lattices pieces ((row ∷ rows) ∷ lattices) = Rows pieces 0 (row ∷ rows) × Lattices pieces lattices

-- a slice begins with a list
abbrev pub Begins : List ℕ → List ℕ → Type 0
Begins xs front = take (length front) xs ≡ front

-- the slices begin with the flat lists of these lattices
pub record Held (starts ids ends spans : List ℕ) (pieces words : ℕ) (lattices : List (List (List Edge))) : Type 0 where
  pub many : length lattices ≡ words
  pub starts_are : Begins starts (flat lattices).starts
  pub ids_are : Begins ids (flat lattices).ids
  pub ends_are : Begins ends (flat lattices).ends
  pub spans_are : Begins spans (flat lattices).spans
  pub rows : Lattices pieces lattices
