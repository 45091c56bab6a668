-- The outcome of a best cut as one value, worked out from the table. Definitions only.
use Rattle.std.specs.Prelude.{cond, List, ◌++◌, ℕ, length, drop, Float, Option, Some, None}
use Rattle.std.specs.Float.Ieee.Scale.{finite}
use Rattle.scores.specs.Cuts.{Lattice}
use Rattle.scores.specs.Table.{best, best_cut}
use Rattle.scores.specs.Floats.{f64s}
use Rattle.viterbi.specs.Walk.{spell}

-- the answer, how many ids it has, and the path's slots at exit
pub record Outcome : Type 0 where
  pub best : Option Float
  pub count : ℕ
  pub slots : List ℕ

-- for slots that held `before`
abbrev pub outcome : Lattice Float → List ℕ → ℕ → List ℕ → Outcome
outcome l ids n before =
    cond (finite (best f64s l n))
    (record { best = Some (best f64s l n); count = length (best_cut f64s l n); slots = spell ids (best_cut f64s l n) ++ drop (length (best_cut f64s l n)) before })
    (record { best = None; count = 0; slots = before })
