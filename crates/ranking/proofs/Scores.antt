-- The total under way. Assumes nothing.
use mathlib.Core.Path.{◌≡◌, refl}
use mathlib.Core.List.{List, [], ◌∷◌, ◌++◌}
use Prim.Native.Nat.{ℕ}
use lib.Ieee.{Float}
use Rattle.math.specs.Steps.{◌⊕◌}
use Rattle.ranking.specs.Scores.{float, sum_from}

-- one count more
pub sum_more : (sum : Float) (counts : List ℕ) (count : ℕ)
    → sum_from sum (counts ++ (count ∷ [])) ≡ sum_from sum counts ⊕ float count
sum_more sum [] count = refl
sum_more sum (c ∷ counts) count = sum_more (sum ⊕ float c) counts count
