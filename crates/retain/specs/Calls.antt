-- Calls of retain, one and many, as the theorems speak of them. Definitions only.
use Rattle.std.specs.Prelude.{List, [], ◌∷◌, ℕ}
use Rattle.lattice.specs.Lattice.{Edge}
use Rattle.lattice.specs.Pruning.{retained}
use Rattle.lattice.specs.Written.{Begins, Written}
use Rattle.retain.specs.Retain.{Laid}
use Rattle.retain.specs.Cleared.{cleared}

-- what the four slices hold
pub record Slices : Type 0 where
  pub offsets : List ℕ
  pub starts : List ℕ
  pub ids : List ℕ
  pub spans : List ℕ

abbrev pub Holds : List (List (List Edge)) → Slices → Type 0
Holds lattices x = Begins lattices x.offsets x.starts x.ids x.spans

-- a call of `retain_core`, which takes x and leaves y, by the words of its contract
abbrev pub Takes : ℕ → List ℕ → Slices → List (List (List Edge)) → Type 0
Takes words remap x lattices = Laid words remap x.offsets x.starts x.ids x.spans lattices

abbrev pub Leaves : List (List (List Edge)) → Slices → Slices → ℕ → Type 0
Leaves lattices x y count = Written lattices x.offsets x.starts x.ids x.spans y.offsets y.starts y.ids y.spans count

abbrev pub Call : ℕ → List ℕ → Slices → Slices → ℕ → Type 0
Call words remap x y count = (lattices : List (List (List Edge))) → Takes words remap x lattices → Leaves (retained remap lattices) x y count

-- after `clear`, with the count that a call answers
abbrev pub cleared_at : ℕ → Slices → Slices
cleared_at count x = record { offsets = x.offsets; starts = cleared count x.starts; ids = cleared count x.ids; spans = x.spans }

-- a call for each remap, one after the other, with or without `clear` after it
pub data Calls (words : ℕ) : List (List ℕ) → Slices → Slices → Type 0 where
  no_call : {x : Slices} → Calls words [] x x
  one_call : {remap : List ℕ} {remaps : List (List ℕ)} {x y z : Slices} {count : ℕ} → Call words remap x y count → Calls words remaps y z → Calls words (remap ∷ remaps) x z
  call_and_clear : {remap : List ℕ} {remaps : List (List ℕ)} {x y z : Slices} {count : ℕ} → Call words remap x y count → Calls words remaps (cleared_at count y) z → Calls words (remap ∷ remaps) x z
