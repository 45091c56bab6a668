-- What retain is given and what it leaves, by the lattices that the slices hold. Definitions only.
use Rattle.std.specs.Prelude.{◌≡◌, List, [], ℕ, ◌<◌, length, get_or}
use Rattle.lattice.specs.Lattice.{Edge}
use Rattle.lattice.specs.Layout.{flat}
use Rattle.lattice.specs.Written.{Begins}

-- The slices hold a cache of so many words. A lattice has a row of edges for each position of its word, 0 too, and "each
-- piece id has .. (for retain, a remap entry)".
pub record Laid (words : ℕ) (remap offsets starts ids spans : List ℕ) (lattices : List (List (List Edge))) : Type 0 where
  pub many : length lattices ≡ words
  pub rows : (word : ℕ) → word < words → 0 < length (get_or lattices word [])
  pub begins : Begins lattices offsets starts ids spans
  pub entries : (edge : ℕ) → edge < length (flat lattices).ids → get_or ids edge 0 < length remap

-- and that is all that `retain_core` requires: that there are such lattices
abbrev pub Cached : ℕ → List ℕ → List ℕ → List ℕ → List ℕ → List ℕ → Type 0
Cached words remap offsets starts ids spans = (lattices : List (List (List Edge))) × Laid words remap offsets starts ids spans lattices
