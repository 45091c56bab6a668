-- Edges one after the other: none at first, then one more at each turn. Assumes nothing.
use mathlib.Core.Path.{◌≡◌, ap, ◌∙◌, refl}
use mathlib.Core.List.{[], ◌∷◌, ◌++◌}
use Prim.Native.Nat.{ℕ, zero, suc, ◌+◌, ◌-◌, ◌≤◌}
use native.Mathlib.Omega.{arith}
use lib.ListN.{length, length-append}
use lib.Ieee.{Float}
use Rattle.expectations.specs.Edges.{in_turn, over}

pub over_none : {A : Type 0} (step : A → ℕ → A) (a : A) (low : ℕ) → over step a low low ≡ a
over_none step a low = let z : low - low ≡ 0 = omega arith in ap (in_turn step a low) z

pub over_more : {A : Type 0} (step : A → ℕ → A) (a : A) (low k : ℕ) → low ≤ k → over step a low (k + 1) ≡ step (over step a low k) k
over_more step a low k l =
    let one : k + 1 - low ≡ suc (k - low) = omega arith in
    let here : low + (k - low) ≡ k = omega arith in
    ap (in_turn step a low) one ∙ ap (step (over step a low k)) here

-- a list that gets one element an edge
pub length_told : (f : ℕ → Float) (k n : ℕ) → length (in_turn (λ told j. told ++ (f j ∷ [])) [] k n) ≡ n
length_told f k zero = refl
length_told f k (suc n) = let a = length-append (in_turn (λ told j. told ++ (f j ∷ [])) [] k n) (f (k + n) ∷ []) in let b = length_told f k n in omega arith
