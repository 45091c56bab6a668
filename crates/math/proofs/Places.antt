-- Where the kernels' arguments lie on their grids, so that each index is one of the tables'. Assumes nothing.
use mathlib.Core.Path.{◌≡◌, refl, subst}
use Prim.Native.Nat.{ℕ, ◌-◌, ◌*◌, ◌^◌, ◌≤◌, ◌<◌}
use native.Mathlib.Nat.{lt_of_lt_of_le, lt_of_le_of_lt}
use native.Mathlib.Omega.{arith}
use mathlib.Core.Bool.{false}
use lib.IntN.{pos, negsuc}
use lib.Dec.{T, lit<, lit≤}
use lib.Ieee.{Float, fin, binary64, fits, of_bits, lt, le}
use lib.Ieee.Fits.{sub-fits}
use lib.Ieee.Positive.{positive, between}
use Rattle.rounding.specs.Units.{Is, Digits, Whole}
use Rattle.rounding.specs.Grid.{Sound, Placed, index}
use Rattle.rounding.proofs.Near.{sub_near}
use Rattle.rounding.proofs.Values.{plain_is, plain_positive, digits, one_number, lt_units, le_units, lt_le, under_top, positive_test}
use Rattle.rounding.proofs.Placed.{placed, index_small}
use Rattle.math.specs.Steps.{zero, half, one, end, grid64, grid128, ◌⊖◌}

pub sound64 : Sound grid64 1067 64
unfolding of_bits
sound64 = record { low = lit≤ tt; half_is = (refl, refl); far_is = (refl, refl); per_is = (refl, refl); all = refl }

pub sound128 : Sound grid128 1066 128
unfolding of_bits
sound128 = record { low = lit≤ tt; half_is = (refl, refl); far_is = (refl, refl); per_is = (refl, refl); all = refl }

-- ---- the constants
pub zero_is : Is zero 0
unfolding of_bits
zero_is = (refl, refl)

pub one_is : Is one (2 ^ 1074)
unfolding of_bits
one_is = (refl, refl)

pub half_is : Is half (2 ^ 1073)
unfolding of_bits
half_is = (refl, refl)

pub end_is : Is end (746 * 2 ^ 1074)
unfolding of_bits
end_is = (refl, refl)

-- ---- above zero, and at most something finite
pub positive_to : (x y : Float) (b : ℕ) → Is y b → T (lt zero x) → T (le x y) → T (positive x)
unfolding of_bits
positive_to x y b i h k = positive_test x h (under_top x y (plain_is y b i) k)

-- ---- exp: below 746 there are 47,744 steps
module _ (t : Float) (F : T (fits binary64 t)) (above : T (lt zero t)) (under : T (lt t end)) where
  pub exp_digits : Digits t
  exp_digits = digits t F (plain_positive t (positive_to t end (746 * 2 ^ 1074) end_is above (lt_le t end under)))

  abbrev pub exp_units : ℕ
  exp_units = exp_digits.m * 2 ^ exp_digits.s

  exp_top : exp_units < 47744 * 2 ^ 1068
  exp_top = lt_of_lt_of_le (lt_units t end exp_units (746 * 2 ^ 1074) exp_digits.is end_is under) (lit≤ tt)

  pub exp_placed : Placed grid64 1067 t exp_units
  exp_placed = placed grid64 1067 64 47744 sound64 (lit≤ tt) t exp_digits exp_top

  pub exp_index : index grid64 t < 47744
  exp_index = index_small grid64 1067 64 47744 sound64 (lit≤ tt) t exp_digits exp_top

-- ---- ln_1p: up to 1 there are 65 grid points
module _ (y : Float) (F : T (fits binary64 y)) (above : T (lt zero y)) (under : T (le y one)) where
  pub ln1p_digits : Digits y
  ln1p_digits = digits y F (plain_positive y (positive_to y one (2 ^ 1074) one_is above under))

  abbrev pub ln1p_units : ℕ
  ln1p_units = ln1p_digits.m * 2 ^ ln1p_digits.s

  pub ln1p_top : ln1p_units ≤ 2 ^ 1074
  ln1p_top = le_units y one ln1p_units (2 ^ 1074) ln1p_digits.is one_is under

  ln1p_few : ln1p_units < 65 * 2 ^ 1068
  ln1p_few = lt_of_le_of_lt ln1p_top (lit< tt)

  pub ln1p_placed : Placed grid64 1067 y ln1p_units
  ln1p_placed = placed grid64 1067 64 65 sound64 (lit≤ tt) y ln1p_digits ln1p_few

  pub ln1p_index : index grid64 y < 65
  ln1p_index = index_small grid64 1067 64 65 sound64 (lit≤ tt) y ln1p_digits ln1p_few

-- ---- -ln x, by v = 1 - x: from 0 to 1/2 there are 65 grid points
pub half_positive : (x : Float) → T (le half x) → T (le x one) → T (positive x)
unfolding of_bits
half_positive x above under = between (fin false 1 (negsuc 0)) x (fin false 1 (pos 0)) tt tt above under

module _ (x : Float) (F : T (fits binary64 x)) (above : T (le half x)) (under : T (le x one)) where
  pub half_digits : Digits x
  half_digits = digits x F (plain_positive x (half_positive x above under))

  abbrev pub half_units : ℕ
  half_units = half_digits.m * 2 ^ half_digits.s

  pub half_top : half_units ≤ 2 ^ 1074
  half_top = le_units x one half_units (2 ^ 1074) half_digits.is one_is under

  pub half_low : 2 ^ 1073 ≤ half_units
  half_low = le_units half x (2 ^ 1073) half_units half_is half_digits.is above

  room : (U x h : ℕ) → U ≡ h * 2 → h ≤ x → U - x ≤ h
  room U x h e l = omega arith

  pub gap : Whole (one ⊖ x) (2 ^ 1074 - half_units) 1073
  gap = sub_near one x (2 ^ 1074) half_units 1073 one_is half_digits.is half_top (lit< tt) (room (2 ^ 1074) half_units (2 ^ 1073) refl half_low)

  pub gap_digits : Digits (one ⊖ x)
  gap_digits = digits (one ⊖ x) (sub-fits binary64 one x) (plain_is (one ⊖ x) gap.v gap.is)

  abbrev pub gap_units : ℕ
  gap_units = gap_digits.m * 2 ^ gap_digits.s

  pub gap_same : gap.v ≡ gap_units
  gap_same = one_number (one ⊖ x) gap.v gap_units gap.is gap_digits.is

  pub gap_top : gap_units ≤ 2 ^ 1073
  gap_top = subst (λ (z : ℕ). z ≤ 2 ^ 1073) gap_same gap.top

  gap_few : gap_units < 65 * 2 ^ 1067
  gap_few = lt_of_le_of_lt gap_top (lit< tt)

  pub half_placed : Placed grid128 1066 (one ⊖ x) gap_units
  half_placed = placed grid128 1066 128 65 sound128 (lit≤ tt) (one ⊖ x) gap_digits gap_few

  pub half_index : index grid128 (one ⊖ x) < 65
  half_index = index_small grid128 1066 128 65 sound128 (lit≤ tt) (one ⊖ x) gap_digits gap_few
