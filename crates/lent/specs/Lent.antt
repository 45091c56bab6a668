-- The scores, as a caller lends them: row 10 of document 01's table. Definitions only.
use Rattle.std.specs.Prelude.{List, ℕ, ◌<◌, length, get_or, Float, Result, Ok, Err}
use Rattle.std.specs.Float.{nan}
use Rattle.scores.specs.Floats.{ZeroOrBelow}

-- "a score is NaN, above zero": the scores before i are not, and i is
abbrev pub AllScored : List Float → ℕ → Type 0
AllScored scores n = (i : ℕ) → i < n → ZeroOrBelow (get_or scores i nan)

pub record FirstBad (scores : List Float) (i : ℕ) : Type 0 where
  pub within : i < length scores
  pub before : AllScored scores i
  pub bad : ZeroOrBelow (get_or scores i nan) → ⊥

abbrev pub Answers : List Float → Result (Unit {0}) ℕ → Type 0
Answers scores (Ok _) = AllScored scores (length scores)
Answers scores (Err i) = FirstBad scores i
