-- Texts put one after the other: their bytes, and a span for each. Definitions only.
use Rattle.std.specs.Prelude.{◌≡◌, List, [], ◌∷◌, ℕ, ◌+◌, ◌*◌, ◌≤◌, length}
use Rattle.std.proofs.lemmas.List.Edits.{sets}
use Rattle.lattice.specs.Layout.{joined}

-- where the bytes of each text begin, and how many they are; the texts follow each other
abbrev pub spans_from : ℕ → List (List ℕ) → List ℕ
spans_from at [] = []
spans_from at (text ∷ rest) = at ∷ length text ∷ spans_from (at + length text) rest

-- ---- one text: there is room for the bytes and for the two numbers, each of 32 bits
pub record Putting (text bytes spans : List ℕ) (slot at : ℕ) : Type 0 where
  pub byte_room : at + length text ≤ length bytes
  pub slot_room : 2 * slot + 2 ≤ length spans
  pub narrow : at + length text ≤ 4294967295

-- its bytes and its two numbers are stored, and the next text's bytes begin at r
pub record Puts (text bytes spans : List ℕ) (slot at : ℕ) (bytes' spans' : List ℕ) (r : ℕ) : Type 0 where
  pub bytes_are : bytes' ≡ sets bytes at text
  pub span_is : spans' ≡ sets spans (2 * slot) (at ∷ length text ∷ [])
  pub next : r ≡ at + length text

-- ---- a list of texts
pub record PutsAll (list : List (List ℕ)) (bytes spans : List ℕ) (slot at : ℕ) (bytes' spans' : List ℕ) (r : ℕ) : Type 0 where
  pub bytes_are : bytes' ≡ sets bytes at (joined list)
  pub spans_are : spans' ≡ sets spans (2 * slot) (spans_from at list)
  pub next : r ≡ at + length (joined list)
