-- Pieces, and which of them spells some characters. A word and a piece are lists of characters, and a piece's id is its position in the list. Definitions only.
use Rattle.std.specs.Prelude.{Bool, true, false, ◌&&◌, ℕ, suc, eqb}
use mathlib.Core.List.{List, [], ◌∷◌, Memᴰ}
use Rattle.std.proofs.Math.Option.{Option, none, some}

-- the same characters
abbrev pub same : List ℕ → List ℕ → Bool
same [] [] = true
same [] (d ∷ ds) = false
same (c ∷ cs) [] = false
same (c ∷ cs) (d ∷ ds) = eqb c d && same cs ds

-- the id of the piece that these characters spell. "on a repeated spelling the later id wins"
abbrev pub later : Option ℕ → Bool → Option ℕ
later (some k) here = some (suc k)
later none true = some 0
later none false = none

abbrev pub id_of : List (List ℕ) → List ℕ → Option ℕ
id_of [] chars = none
id_of (p ∷ ps) chars = later (id_of ps chars) (same p chars)

-- no spelling stands twice
pub data Distinct : List (List ℕ) → Type 0 where
  no_piece : Distinct []
  one_more : {p : List ℕ} {ps : List (List ℕ)} → (Memᴰ p ps → ⊥) → Distinct ps → Distinct (p ∷ ps)
