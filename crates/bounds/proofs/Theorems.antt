-- Document 01, port order 2, of the definitions in rounded steps: the exact values, the bounds without slack, and those within 2 ^ -40. Every x and y is a value of binary64.
-- The code of `math` equals these definitions, so each theorem holds of the code. Assumes nothing.
use mathlib.Core.Path.{◌≡◌, refl, sym, ◌∙◌, subst}
use mathlib.Core.Logic.{inl, inr}
use Prim.Native.Nat.{ℕ, ◌*◌, ◌^◌, ◌≤◌}
use native.Mathlib.Nat.{le_trans, lt_of_le_of_lt, mul-le-mul_right}
use native.Mathlib.Omega.{arith}
use mathlib.Core.Bool.{Bool, true, false, cond}
use lib.Dec.{T, lit≤, lit<}
use lib.Pow.{pow_pos}
use lib.Ieee.{Float, nan, inf, binary64, fits, neg, div, lt, le, eq, of_bits, to_bits, to_unsigned, add, sub, mul}
use lib.Ieee.Bits.{is_true, of_bits-to_bits}
use lib.Ieee.Fits.{neg-fits, add-fits}
use lib.Ieee.Order.{le_of_values}
use lib.Ieee.Positive.{num, den}
use Rattle.rounding.specs.Units.{Sized, Minus}
use Rattle.rounding.specs.Grid.{cut, index, rest}
use Rattle.rounding.proofs.Values.{le_units}
use Rattle.tables.specs.Tables.{entry, mlogs}
use Rattle.math.specs.Steps.{zero, half as one-half, one, end, lit, grid128, exp_neg, exp_steps, ln_rise, ln_half, ln_below, ln_above, ln_positive, ln_steps, ln1p_unit, ln1p_steps, ◌⊖◌, ◌⊘◌}
use Rattle.math.proofs.Places.{zero_is, one_is, exp_digits, exp_units}
use Rattle.laws.proofs.Choices.{yes, no, never}
use Rattle.math.proofs.Tests.{neg_above, neg_under, from_half}
use Rattle.bounds.specs.Fraction.{Fraction, size, whole, half, Within, ◌⊞◌, ◌⊠◌, ◌≲◌}
use Rattle.bounds.specs.Bounds.{ExpNear, LnNear, Ln1pNear, floor}
use Rattle.bounds.proofs.Cases.{below_or_zero, above_or_zero, zero_size, zero_not_below, zero_not_above, not_above, half_above, half_not_under, top_sound, bottom_sound, nan_sound, neg_one, one_under_end, under_neg, neg_size}
use Rattle.bounds.proofs.Fractions.{frac}
use Rattle.bounds.proofs.ExpKernel.{exp_neg_unit, exp_neg_near}
use Rattle.bounds.proofs.LnKernel.{ln_half_is, ln_half_near}
use Rattle.bounds.proofs.LnSides.{Side, minus_is, minus_side, below_side, below_sound, half_sound, above_sound}
use Rattle.bounds.proofs.Ln1pKernel.{ln1p_unit_near}

-- ---- bits: a NaN's are 7ff8000000000000, and a float is what its bits say
pub nan_bits : to_bits binary64 nan ≡ 0x7ff8_0000_0000_0000
unfolding to_bits
nan_bits = refl

pub bits_back : (x : Float) → T (fits binary64 x) → of_bits binary64 (to_bits binary64 x) ≡ x
bits_back x F = of_bits-to_bits binary64 x F

-- ---- exp: exact values
pub exp_zero : exp_steps (lit 0) ≡ one
unfolding exp_steps lt eq of_bits
exp_zero = refl

pub exp_minus_zero : exp_steps (lit 0x8000_0000_0000_0000) ≡ one
unfolding exp_steps lt eq of_bits
exp_minus_zero = refl

pub exp_minus_infinity : exp_steps (inf true) ≡ lit 0
unfolding exp_steps lt neg of_bits
exp_minus_infinity = refl

pub exp_infinity : exp_steps (inf false) ≡ inf false
unfolding exp_steps lt of_bits
exp_infinity = refl

pub exp_nan : exp_steps nan ≡ nan
unfolding exp_steps lt eq of_bits
exp_nan = refl

-- ---- exp: from 0 to 1 for every x at or below zero, and near 1 + x from -1 to 0
step_below : (x : Float) → T (lt x zero) → T (lt (neg end) x) → exp_steps x ≡ exp_neg (neg x)
unfolding exp_steps
step_below x h k = simp (is_true (lt x zero) h, is_true (lt (neg end) x) k)

step_far : (x : Float) → T (lt x zero) → lt (neg end) x ≡ false → exp_steps x ≡ zero
unfolding exp_steps
step_far x h k = simp (is_true (lt x zero) h, k)

step_zero : (x : Float) → T (eq x zero) → exp_steps x ≡ one
unfolding exp_steps
step_zero x h = simp (never (lt x zero) (zero_not_below x h), never (lt zero x) (zero_not_above x h), is_true (eq x zero) h)

unit_of : (z : Float) → Sized z 1074 → T (le zero z) × T (le z one)
unit_of z s = (le_of_values zero z 0 (2 ^ 1074) s.v (2 ^ 1074) (pow_pos 1074) (pow_pos 1074) zero_is s.is (least s.v (2 ^ 1074)), le_of_values z one s.v (2 ^ 1074) (2 ^ 1074) (2 ^ 1074) (pow_pos 1074) (pow_pos 1074) s.is one_is (mul-le-mul_right (2 ^ 1074) s.top))
  where
    least : (v U : ℕ) → 0 * U ≤ v * U
    least v U = omega arith

pub exp_unit : (x : Float) → T (fits binary64 x) → T (le x zero) → T (le zero (exp_steps x)) × T (le (exp_steps x) one)
exp_unit x F h = elim (below_or_zero x h) [
  | inl l ↦ go (lt (neg end) x) refl l
  | inr l ↦ subst (λ (r : Float). T (le zero r) × T (le r one)) (sym (step_zero x l)) (unit_of one (record { v = 2 ^ 1074; is = one_is; top = lit≤ tt }))
]
  where
    go : (b : Bool) → lt (neg end) x ≡ b → T (lt x zero) → T (le zero (exp_steps x)) × T (le (exp_steps x) one)
    go true e l = subst (λ (r : Float). T (le zero r) × T (le r one)) (sym (step_below x l (yes e))) (unit_of (exp_neg (neg x)) (exp_neg_unit (neg x) (neg-fits binary64 x F) (neg_above x l) (neg_under x (yes e))))
    go false e l = subst (λ (r : Float). T (le zero r) × T (le r one)) (sym (step_far x l e)) (unit_of zero (record { v = 0; is = zero_is; top = lit≤ tt }))

turned : (x r : Float) → ExpNear (neg x) r → ExpNear x r
turned x r n = record { sign = n.sign; low = subst (λ (p : Fraction). whole 1 ≲ size r ⊞ p) (neg_size x) n.low; high = subst (λ (p : Fraction). size r ⊞ p ≲ whole 1 ⊞ half (p ⊠ p)) (neg_size x) n.high }

at_zero : (x : Float) → num x ≡ 0 → ExpNear x one
unfolding of_bits
at_zero x e = record { sign = tt; low = low (num x) (den x) (2 ^ 40) e; high = subst (λ (n : ℕ). frac 1 1 ⊞ frac n (den x) ≲ whole 1 ⊞ half (frac n (den x) ⊠ frac n (den x))) (sym e) (high (den x) (2 ^ 40)) }
  where
    low : (n d W : ℕ) → n ≡ 0 → Within W (whole 1) (frac 1 1 ⊞ frac n d)
    low n d W e = omega arith

    high : (d W : ℕ) → Within W (frac 1 1 ⊞ frac 0 d) (whole 1 ⊞ half (frac 0 d ⊠ frac 0 d))
    high d W = omega arith

pub exp_near : (x : Float) → T (fits binary64 x) → T (le (neg one) x) → T (le x zero) → ExpNear x (exp_steps x)
exp_near x F a h = elim (below_or_zero x h) [
  | inl l ↦
      let t = neg x in
      let G = neg-fits binary64 x F in
      let p = neg_above x l in
      let o = neg_one x a l in
      let u = one_under_end t o in
      subst (λ (r : Float). ExpNear x r) (sym (step_below x l (under_neg x l u))) (turned x (exp_neg t) (exp_neg_near t G p u (le_units t one (exp_units t G p u) (2 ^ 1074) (exp_digits t G p u).is one_is o)))
  | inr l ↦ subst (λ (r : Float). ExpNear x r) (sym (step_zero x l)) (at_zero x (zero_size x l))
]

-- ---- ln: exact values. It is +0 at 1, and never -0
pub ln_one : ln_steps one ≡ lit 0
unfolding ln_steps lt le eq of_bits add sub mul div to_unsigned
ln_one = refl

pub ln_zero : ln_steps (lit 0) ≡ inf true
unfolding ln_steps lt eq of_bits
ln_zero = refl

pub ln_minus_zero : ln_steps (lit 0x8000_0000_0000_0000) ≡ inf true
unfolding ln_steps lt eq of_bits
ln_minus_zero = refl

pub ln_infinity : ln_steps (inf false) ≡ inf false
unfolding ln_steps lt le eq of_bits
ln_infinity = refl

pub ln_nan : ln_steps nan ≡ nan
unfolding ln_steps lt eq of_bits
ln_nan = refl

pub ln_below_zero : (x : Float) → T (lt x zero) → ln_steps x ≡ nan
unfolding ln_steps
ln_below_zero x h = simp (never (lt zero x) (not_above x h), never (eq x zero) (λ (e : T (eq x zero)). zero_not_below x e h))

step_positive : (x : Float) → T (lt zero x) → ln_steps x ≡ ln_positive x
unfolding ln_steps
step_positive x h = simp (is_true (lt zero x) h)

step_lower : (x : Float) → T (lt zero x) → lt x one-half ≡ true → ln_steps x ≡ ln_below x
step_lower x h e = step_positive x h ∙ simp e

step_upper : (x : Float) → T (lt zero x) → lt x one-half ≡ false → T (le x one) → ln_steps x ≡ zero ⊖ ln_half x
step_upper x h e k = step_positive x h ∙ simp (e, is_true (le x one) k)

pub ln_never_minus_zero : (x : Float) → T (fits binary64 x) → ln_steps x ≡ lit 0x8000_0000_0000_0000 → ⊥
unfolding ln_steps
ln_never_minus_zero x F = go (lt zero x) refl
  where
    last : (b : Bool) → cond b (ln_above x) (inf false) ≡ lit 0x8000_0000_0000_0000 → ⊥
    last true = above_sound x F
    last false = top_sound

    upper : (b : Bool) → le x one ≡ b → T (le one-half x) → cond b (zero ⊖ ln_half x) (cond (lt x (inf false)) (ln_above x) (inf false)) ≡ lit 0x8000_0000_0000_0000 → ⊥
    upper true e a = half_sound x F a (yes e)
    upper false e a = last (lt x (inf false))

    lower : (b : Bool) → lt x one-half ≡ b → T (lt zero x) → cond b (ln_below x) (cond (le x one) (zero ⊖ ln_half x) (cond (lt x (inf false)) (ln_above x) (inf false))) ≡ lit 0x8000_0000_0000_0000 → ⊥
    lower true e a = below_sound x F a (yes e)
    lower false e a = upper (le x one) refl (from_half x a (no e))

    rest : (b : Bool) → cond b (inf true) nan ≡ lit 0x8000_0000_0000_0000 → ⊥
    rest true = bottom_sound
    rest false = nan_sound

    go : (b : Bool) → lt zero x ≡ b → cond b (ln_positive x) (cond (eq x zero) (inf true) nan) ≡ lit 0x8000_0000_0000_0000 → ⊥
    go true e = lower (lt x one-half) refl (yes e)
    go false e = rest (eq x zero)

-- ---- ln: from -745 to 0 for every x above 0 and up to 1, and near x - 1 from 1/2 to 1
half_minus : (x : Float) (F : T (fits binary64 x)) (a : T (le one-half x)) (u : T (le x one)) → Minus (zero ⊖ ln_half x) (ln_half_is x F a u).v
half_minus x F a u = minus_is (ln_half x) (ln_half_is x F a u).v (add-fits binary64 (entry mlogs (index grid128 (one ⊖ x))) (ln_rise (rest grid128 (one ⊖ x) ⊘ (one ⊖ cut grid128 (one ⊖ x))))) (ln_half_is x F a u).is (lt_of_le_of_lt (ln_half_is x F a u).top (lit< tt))

half_side : (x : Float) → T (fits binary64 x) → T (le one-half x) → T (le x one) → Side (zero ⊖ ln_half x)
half_side x F a u = minus_side (zero ⊖ ln_half x) (ln_half_is x F a u).v (half_minus x F a u) (le_trans (ln_half_is x F a u).top (lit≤ tt))

pub ln_range : (x : Float) → T (fits binary64 x) → T (lt zero x) → T (le x one) → T (le floor (ln_steps x)) × T (le (ln_steps x) zero)
ln_range x F a u = go (lt x one-half) refl
  where
    go : (b : Bool) → lt x one-half ≡ b → T (le floor (ln_steps x)) × T (le (ln_steps x) zero)
    go true e = subst Side (sym (step_lower x a e)) (below_side x F a (yes e))
    go false e = subst Side (sym (step_upper x a e u)) (half_side x F (from_half x a (no e)) u)

pub ln_near : (x : Float) → T (fits binary64 x) → T (le one-half x) → T (le x one) → LnNear x (ln_steps x)
ln_near x F a u = subst (λ (r : Float). LnNear x r) (sym (step_upper x (half_above x a) (never (lt x one-half) (half_not_under x a)) u)) (ln_half_near x F a u (zero ⊖ ln_half x) (half_minus x F a u).size (half_side x F a u))

-- ---- ln_1p: exact values, and near y from 0 to 1
pub ln1p_zero : ln1p_steps (lit 0) ≡ lit 0
unfolding ln1p_steps lt eq of_bits
ln1p_zero = refl

pub ln1p_minus_zero : ln1p_steps (lit 0x8000_0000_0000_0000) ≡ lit 0
unfolding ln1p_steps lt eq of_bits
ln1p_minus_zero = refl

pub ln1p_nan : ln1p_steps nan ≡ nan
unfolding ln1p_steps ln_steps lt eq add of_bits
ln1p_nan = refl

ln1p_step : (y : Float) → T (lt zero y) → T (le y one) → ln1p_steps y ≡ ln1p_unit y
unfolding ln1p_steps
ln1p_step y h k = simp (is_true (lt zero y) h, is_true (le y one) k)

ln1p_step_zero : (y : Float) → T (eq y zero) → ln1p_steps y ≡ zero
unfolding ln1p_steps
ln1p_step_zero y h = simp (never (lt zero y) (zero_not_above y h), is_true (eq y zero) h)

ln1p_at_zero : (y : Float) → num y ≡ 0 → Ln1pNear y zero
unfolding of_bits
ln1p_at_zero y e = record { sign = tt; high = high (num y) (den y) (2 ^ 40); low = subst (λ (n : ℕ). frac n (den y) ≲ frac 0 1 ⊞ half (frac n (den y) ⊠ frac n (den y))) (sym e) (low (den y) (2 ^ 40)) }
  where
    high : (n d W : ℕ) → Within W (frac 0 1) (frac n d)
    high n d W = omega arith

    low : (d W : ℕ) → Within W (frac 0 d) (frac 0 1 ⊞ half (frac 0 d ⊠ frac 0 d))
    low d W = omega arith

pub ln1p_near : (y : Float) → T (fits binary64 y) → T (le zero y) → T (le y one) → Ln1pNear y (ln1p_steps y)
ln1p_near y F a u = elim (above_or_zero y a) [
  | inl l ↦ subst (λ (r : Float). Ln1pNear y r) (sym (ln1p_step y l u)) (ln1p_unit_near y F l u)
  | inr l ↦ subst (λ (r : Float). Ln1pNear y r) (sym (ln1p_step_zero y l)) (ln1p_at_zero y (zero_size y l))
]
