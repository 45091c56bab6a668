-- The order of lists of numbers, lexicographic, a prefix first: of octets and of code points.
-- Assumes nothing.
use Rattle.std.specs.Prelude.{ℕ, ◌<◌, List, [], ◌∷◌}

pub data Before : List ℕ → List ℕ → Type 0 where
  shorter : {y : ℕ} {ys : List ℕ} → Before [] (y ∷ ys)
  here : {x y : ℕ} {xs ys : List ℕ} → x < y → Before (x ∷ xs) (y ∷ ys)
  later : {x : ℕ} {xs ys : List ℕ} → Before xs ys → Before (x ∷ xs) (x ∷ ys)
