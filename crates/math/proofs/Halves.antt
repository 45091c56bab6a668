-- A significand lies from 1/2 to 1; and the exponent's field of what ln takes apart. Assumes nothing.
use mathlib.Core.Path.{refl}
use Prim.Native.Nat.{ℕ, ◌+◌, ◌*◌, ◌%◌, ◌^◌, ◌≤◌, ◌<◌}
use native.Mathlib.Nat.{le_trans, le_of_lt, lt_of_le_of_lt, mul-le-mul_right}
use native.Mathlib.Omega.{arith}
use mathlib.Core.Logic.{inl, inr}
use mathlib.Core.Bool.{true, false, not}
use lib.Dec.{T, lit<, lit≤, ltb→lt, lt→ltb}
use lib.IntN.{pos}
use lib.Pow.{pow_pos}
use lib.Ieee.{Float, nan, inf, fin, binary64, up, down, fits, is_nan, lt, le, of_bits, to_bits}
use lib.Ieee.Order.{le_of_values}
use lib.Ieee.Positive.{positive, value_pos}
use Rattle.rounding.specs.Units.{Is, Digits, Times}
use Rattle.rounding.proofs.Near.{mul_near, mul_no_less}
use Rattle.rounding.proofs.Values.{lt_or_ge, plain_is, plain_positive, plain_number, digits, lt_units, lt_le, positive_test}
use Rattle.rounding.proofs.Fields.{significand_is, significand_low, significand_high, field_below, field_least}
use Rattle.math.specs.Steps.{zero, half, one, smallest, scale, field, significand, ◌⊗◌}
use Rattle.math.proofs.Places.{positive_to, half_is, one_is}

-- ---- a significand
pub low : (b : ℕ) → b % 4503599627370496 < 4503599627370496
low b = omega arith

pub significand_half : (b : ℕ) → T (le half (significand b))
significand_half b =
    let f = b % 4503599627370496 in
    le_of_values half (significand b) (2 ^ 1073) (2 ^ 1074) ((4503599627370496 + f) * 2 ^ 1021) (2 ^ 1074) (pow_pos 1074) (pow_pos 1074) half_is (significand_is f (low b)) (mul-le-mul_right (2 ^ 1074) (significand_low f))

pub significand_one : (b : ℕ) → T (le (significand b) one)
significand_one b =
    let f = b % 4503599627370496 in
    le_of_values (significand b) one ((4503599627370496 + f) * 2 ^ 1021) (2 ^ 1074) (2 ^ 1074) (2 ^ 1074) (pow_pos 1074) (pow_pos 1074) (significand_is f (low b)) one_is (mul-le-mul_right (2 ^ 1074) (significand_high f (low b)))

-- ---- constants
smallest_is : Is smallest (2 ^ 52)
unfolding of_bits
smallest_is = (refl, refl)

scale_is : Is scale (2 ^ 54 * 2 ^ 1074)
unfolding of_bits
scale_is = (refl, refl)

-- ---- x below 1/2: it is no NaN, and its field is below 1022
module _ (x : Float) (F : T (fits binary64 x)) (above : T (lt zero x)) (under : T (lt x half)) where
  below_digits : Digits x
  below_digits = digits x F (plain_positive x (positive_to x half (2 ^ 1073) half_is above (lt_le x half under)))

  abbrev below_units : ℕ
  below_units = below_digits.m * 2 ^ below_digits.s

  below_some : 1 ≤ below_units
  below_some = value_pos x below_units (2 ^ 1074) (positive_to x half (2 ^ 1073) half_is above (lt_le x half under)) (pow_pos 1074) below_digits.is

  pub below_number : T (not (is_nan x))
  below_number = plain_number x (plain_is x below_units below_digits.is)

  pub below_field : field (to_bits binary64 x) ≤ 1021
  below_field = field_below x below_units below_digits.is (lt_units x half below_units (2 ^ 1073) below_digits.is half_is under)

  -- a subnormal times 2 ^ 54: too
  module _ (tiny : T (le smallest x) → ⊥) where
    few : below_units ≤ 2 ^ 52
    few = elim (lt_or_ge below_units (2 ^ 52)) [
      | inl l ↦ le_of_lt l
      | inr l ↦ absurd (tiny (le_of_values smallest x (2 ^ 52) (2 ^ 1074) below_units (2 ^ 1074) (pow_pos 1074) (pow_pos 1074) smallest_is below_digits.is (mul-le-mul_right (2 ^ 1074) l)))
    ]

    scaled : Times (x ⊗ scale) below_units (2 ^ 54 * 2 ^ 1074) 106
    scaled = mul_near x scale below_units (2 ^ 54 * 2 ^ 1074) 106 below_digits.is scale_is (lit< tt) (le_trans (mul-le-mul_right (2 ^ 54 * 2 ^ 1074) few) (lit≤ tt))

    pub scaled_number : T (not (is_nan (x ⊗ scale)))
    scaled_number = plain_number (x ⊗ scale) (plain_is (x ⊗ scale) scaled.v scaled.is)

    -- 2 ^ 54 units or more: the field is 3 at least
    pub scaled_least : 2 < field (to_bits binary64 (x ⊗ scale))
    scaled_least = field_least (x ⊗ scale) scaled.v 2 scaled.is (mul_no_less x scale below_units (2 ^ 54 * 2 ^ 1074) scaled.v 1 54 below_digits.is scale_is scaled.is (lit< tt) (lit< tt) (mul-le-mul_right (2 ^ 54 * 2 ^ 1074) below_some))

    pub scaled_field : field (to_bits binary64 (x ⊗ scale)) ≤ 1021
    scaled_field = field_below (x ⊗ scale) scaled.v scaled.is (lt_of_le_of_lt scaled.top (lit< tt))

-- above 1 is above 0
over_zero : (x : Float) → T (lt one x) → T (lt (fin false 0 (pos 0)) x)
unfolding lt of_bits
over_zero nan h = absurd h
over_zero (inf true) h = absurd h
over_zero (inf false) h = tt
over_zero (fin true m e) h = absurd h
over_zero (fin false m e) h = lt→ltb (0 * 1 * down e) (m * up e * 1) (go (m * up e * 1) (down e) (ltb→lt (1 * 1 * down e) (m * up e * 1) h))
  where
    go : (a d : ℕ) → 1 * 1 * d < a → 0 * 1 * d < a
    go a d h = omega arith

-- ---- x above 1 and finite: its field is above 1022
module _ (x : Float) (F : T (fits binary64 x)) (above : T (lt one x)) (under : T (lt x (inf false))) where
  above_positive : T (positive x)
  above_positive = positive_test x (over_zero x above) under

  above_digits : Digits x
  above_digits = digits x F (plain_positive x above_positive)

  abbrev above_units : ℕ
  above_units = above_digits.m * 2 ^ above_digits.s

  pub above_number : T (not (is_nan x))
  above_number = plain_number x (plain_positive x above_positive)

  pub above_field : 1023 ≤ field (to_bits binary64 x)
  above_field = field_least x above_units 1022 above_digits.is (le_of_lt (lt_units one x (2 ^ 1074) above_units one_is above_digits.is above))
