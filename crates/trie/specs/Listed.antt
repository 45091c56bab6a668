-- Pieces in their list, and document 01's words on them: which prefixes they begin with, and which piece has a spelling.
-- Assumes nothing.
use Rattle.std.specs.Prelude.{◌≡◌, ◌⊎◌, false, List, [], ◌∷◌, ℕ, zero, suc, ◌+◌, ◌≤◌, ◌<◌, length}
use Rattle.std.proofs.Math.Option.{Option, none, some}
use Rattle.spans.specs.Spans.{many, chars_at}
use Rattle.trie.specs.Prefixes.{back, has}

-- the first n values of f, the newest first
abbrev pub newest_of : {A : Type 0} → (ℕ → A) → ℕ → List A
newest_of f zero = []
newest_of f (suc n) = f n ∷ newest_of f n

-- the pieces of a list by their characters, the newest first
abbrev pub newest : List ℕ → List ℕ → List (List ℕ)
newest text pieces = newest_of (chars_at text pieces) (many pieces)

-- q is a non-empty prefix of a piece
abbrev pub Begins : List (List ℕ) → List ℕ → Type 0
Begins [] q = ⊥
Begins (w ∷ older) q = ((k : ℕ) × (k < length w) × (back w (suc k) ≡ q)) ⊎ Begins older q

-- no prefix stands twice
abbrev pub Once : List (List ℕ) → Type 0
Once [] = Unit {0}
Once (p ∷ ps) = (has ps p ≡ false) × Once ps

-- Piece i is v: of pieces that are listed the newest first, a piece's id is the number of older ones, its position in the list.
pub data Is : List (List ℕ) → ℕ → List ℕ → Type 0 where
  is_newest : {v : List ℕ} {older : List (List ℕ)} → Is (v ∷ older) (length older) v
  is_older : {w v : List ℕ} {rest : List (List ℕ)} {i : ℕ} → Is rest i v → Is (w ∷ rest) i v

-- v has the id k, less 1: it is the last piece that is v, or there is none
pub record Last (pieces : List (List ℕ)) (v : List ℕ) (k : ℕ) : Type 0 where
  pub is : (i : ℕ) → k ≡ i + 1 → Is pieces i v
  pub later : (j : ℕ) → k ≤ j → Is pieces j v → ⊥

-- a piece's id as `ends` holds it: plus 1, or 0 where there is none
abbrev pub code : Option ℕ → ℕ
code none = 0
code (some i) = suc i
