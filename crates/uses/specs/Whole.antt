-- What uses are as numbers: whole, and no more than the words weigh. Document 01: "W, the sum of frequency times characters", "is at most 2^48". Definitions only.
use Rattle.std.specs.Prelude.{ℕ, zero, suc, ◌+◌, ◌*◌, ◌^◌, ◌<◌, ◌≤◌, List, [], length, slice_index, slice_index_or, Float}
use Rattle.std.specs.Float.{nan}
use Rattle.rounding.specs.Units.{Is}
use Rattle.lattice.specs.Lattice.{Edge}
use Rattle.lattice.specs.Layout.{char_count}

-- the float is a whole number, finite and not negative, and at most so much
pub record Whole (x : Float) (bound : ℕ) : Type 0 where
  pub count : ℕ
  pub is : Is x (count * 2 ^ 1074)
  pub most : count ≤ bound

abbrev pub AllWhole : List Float → ℕ → Type 0
AllWhole uses bound = (id : ℕ) → id < length uses → Whole (slice_index_or uses id nan) bound

-- what the first words weigh
abbrev pub weight : List (List (List Edge)) → List ℕ → ℕ → ℕ
weight lattices frequencies zero = 0
weight lattices frequencies (suc word) = weight lattices frequencies word + slice_index frequencies word * char_count (slice_index_or lattices word [])
