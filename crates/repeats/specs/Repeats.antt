-- Words and pieces that stand twice: refusals 4, "equal bytes to an earlier word", and 15, "a spelling stands twice".
-- Definitions only.
use Rattle.std.specs.Prelude.{◌≡◌, List, ℕ, ◌*◌, ◌≤◌, ◌<◌, length, Option, Some, None}
use Rattle.spans.specs.Spans.{many, Inside, octets}

-- k's bytes stand at an earlier index too
abbrev pub Again : List ℕ → List ℕ → ℕ → Type 0
Again text spans k = (i : ℕ) × (i < k) × (octets text spans i ≡ octets text spans k)

-- the lowest such index
pub record Lowest (text spans : List ℕ) (k : ℕ) : Type 0 where
  pub within : k < many spans
  pub again : Again text spans k
  pub lowest : (j : ℕ) → j < k → Again text spans j → ⊥

abbrev pub Answers : List ℕ → List ℕ → Option ℕ → Type 0
Answers text spans None = (k : ℕ) → k < many spans → Again text spans k → ⊥
Answers text spans (Some k) = Lowest text spans k

-- what a call asks: spans inside their text, two entries of the table for each, and numbers that an entry can hold
pub record Repeating (text spans table : List ℕ) : Type 0 where
  pub inside : (k : ℕ) → k < many spans → Inside text spans k
  pub room : 2 * many spans ≤ length table
  pub few : many spans < 4294967295
