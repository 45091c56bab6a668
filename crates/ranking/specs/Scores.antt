-- The seed's scores. Document 01, port order 8: "Score: ln(count/total)". Each step is rounded, and ln is that of crate math.
-- Definitions only.
use Rattle.std.specs.Prelude.{List, [], ◌∷◌, map, ℕ, pos, Float}
use Rattle.std.specs.Float.{binary64}
use Rattle.std.specs.Float.Ieee.{of_int}
use Rattle.math.specs.Steps.{ln_steps, ◌⊕◌, ◌⊘◌, zero}

-- a count as a float
abbrev pub float : ℕ → Float
float count = of_int binary64 (pos count)

-- a sum so far, and the counts that are to come
abbrev pub sum_from : Float → List ℕ → Float
sum_from sum [] = sum
sum_from sum (count ∷ counts) = sum_from (sum ⊕ float count) counts

-- the total: the counts in the list's order, from +0
abbrev pub seed_total : List ℕ → Float
seed_total counts = sum_from zero counts

abbrev pub seed_score : Float → ℕ → Float
seed_score total count = ln_steps (float count ⊘ total)

abbrev pub seed_scores : List ℕ → List Float
seed_scores counts = map (seed_score (seed_total counts)) counts
