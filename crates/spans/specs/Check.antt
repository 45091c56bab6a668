-- Which words or pieces are refused: over so many bytes, outside the text, or not UTF-8. Definitions only.
use Rattle.std.specs.Prelude.{List, ℕ, ◌≤◌, ◌<◌, Result, Ok, Err}
use Rattle.utf8.specs.Encode.{Spells}
use Rattle.spans.specs.Spans.{many, bytes, Inside, octets, chars_at}

-- inside its text, of at most so many bytes, and UTF-8
pub record Good (text spans : List ℕ) (most k : ℕ) : Type 0 where
  pub inside : Inside text spans k
  pub short : bytes spans k ≤ most
  pub utf8 : Spells (octets text spans k) (chars_at text spans k)

abbrev pub AllGood : List ℕ → List ℕ → ℕ → ℕ → Type 0
AllGood text spans most n = (k : ℕ) → k < n → Good text spans most k

-- the first that is not
pub record FirstBad (text spans : List ℕ) (most k : ℕ) : Type 0 where
  pub within : k < many spans
  pub before : AllGood text spans most k
  pub bad : Good text spans most k → ⊥

abbrev pub Answers : List ℕ → List ℕ → ℕ → Result (Unit {0}) ℕ → Type 0
Answers text spans most (Ok _) = AllGood text spans most (many spans)
Answers text spans most (Err k) = FirstBad text spans most k
