-- Pieces, each a position and a length in characters, as spans of the text. Definitions only.
use Rattle.std.specs.Prelude.{◌≡◌, ℕ, ◌+◌, ◌-◌, ◌*◌, ◌<◌, ◌≤◌, cond, ◌&&◌, List, length, set, ◌==◌, nat_lt, slice_index, slice_set}
use Rattle.positions.specs.Positions.{at, word}
use Rattle.spans.specs.Spans.{many, from, bytes}

-- where a piece of l characters from position p on ends: where the position after it begins, if it is one of the same word;
-- else where the word ends
abbrev pub end_of : List ℕ → List ℕ → ℕ → ℕ → ℕ → ℕ
end_of words places n p l =
    cond (nat_lt (p + l) n && word places (p + l) == word places p)
    (at places (p + l))
    (from words (word places p) + bytes words (word places p))

-- a piece's position, and its length
abbrev pub position_of : List ℕ → ℕ → ℕ
position_of pieces i = slice_index pieces (2 * i)

abbrev pub length_of : List ℕ → ℕ → ℕ
length_of pieces i = slice_index pieces (2 * i + 1)

-- ---- what is asked for: n positions, each of a word, and an end that is not before its beginning
pub record Ending (words places : List ℕ) (n p l : ℕ) : Type 0 where
  pub placed : 3 * n ≤ length places
  pub within : p < n
  pub known : word places p < many words
  pub short : l < 4294967296
  pub few : n < 4294967296
  pub small : from words (word places p) + bytes words (word places p) < 4294967296

pub record Cutting (words places : List ℕ) (n : ℕ) (pieces : List ℕ) (i : ℕ) : Type 0 where
  pub in_pieces : 2 * i + 1 < length pieces
  pub ending : Ending words places n (position_of pieces i) (length_of pieces i)
  pub forward : at places (position_of pieces i) ≤ end_of words places n (position_of pieces i) (length_of pieces i)
  pub small : end_of words places n (position_of pieces i) (length_of pieces i) < 4294967296

pub record Spelling (words places : List ℕ) (n : ℕ) (pieces : List ℕ) : Type 0 where
  pub each : (i : ℕ) → i < many pieces → Cutting words places n pieces i

-- ---- what is written: where piece i's bytes begin, and how many they are
pub record Cut (words places : List ℕ) (n : ℕ) (pieces : List ℕ) (i : ℕ) (pieces' : List ℕ) : Type 0 where
  pub is : pieces' ≡ set (slice_set pieces (2 * i) (at places (position_of pieces i))) (2 * i + 1)
      (end_of words places n (position_of pieces i) (length_of pieces i) - at places (position_of pieces i))

pub record Spelled (words places : List ℕ) (n : ℕ) (pieces pieces' : List ℕ) : Type 0 where
  pub froms : (i : ℕ) → i < many pieces → from pieces' i ≡ at places (position_of pieces i)
  pub lengths : (i : ℕ) → i < many pieces
      → bytes pieces' i ≡ end_of words places n (position_of pieces i) (length_of pieces i) - at places (position_of pieces i)
