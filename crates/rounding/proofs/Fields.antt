-- Bit patterns: the exponent's field of a value, and the value in [1/2, 1) that has another's digits. Assumes nothing.
use mathlib.Core.Path.{◌≡◌, refl, sym, ap, ◌∙◌, subst}
use mathlib.Core.Logic.{inl, inr}
use Prim.Native.Nat.{ℕ, ◌+◌, ◌-◌, ◌*◌, ◌/◌, ◌%◌, ◌^◌, ◌≤◌, ◌<◌}
use native.Mathlib.Nat.{le_trans, le_of_eq, lt_of_lt_of_le, not-le_of_lt, lt_of_not-le, mul-le-mul_right, mul-div_cancel, le-div_iff_mul-le}
use native.Mathlib.Omega.{arith}
use mathlib.Core.Bool.{Bool, true, false, not, true≢false}
use lib.Dec.{T, leb, lit≤, leb→le, not_T}
use lib.Pow.{pow-add, pow_pos, pow_mono}
use lib.Ieee.{Float, nan, inf, fin, binary64, up, down, size, odd, of_fields, of_bits, to_bits, nan_bits}
use lib.Ieee.Bits.{nan_bits_is, is_false}
use lib.Ieee.Digits.{size-lt, size-le, size_reaches}
use lib.Ieee.Fits.{down_pos, kept-lt}
use lib.Ieee.Exact.{odd_sign}
use Rattle.rounding.specs.Units.{Is}
use Rattle.rounding.proofs.Values.{lt_or_ge, plain_is, plain_number}

-- ---- the pattern of v units: as many binary digits as are dropped in the field, and 53 digits, the leading one of which adds one to it
abbrev dropped : ℕ → ℕ
dropped v = size v - 53

bits_are : (x : Float) (v : ℕ) → Is x v → to_bits binary64 x ≡ dropped v * 4503599627370496 + v / 2 ^ dropped v
unfolding to_bits
bits_are nan v i = absurd i
bits_are (inf s) v i = absurd i
bits_are (fin true m e) v i = absurd (true≢false i.0)
bits_are (fin false m e) v i =
    let n : m * up e * 2 ^ 1074 / down e ≡ v = ap (λ (z : ℕ). z / down e) i.1 ∙ mul-div_cancel v (down_pos e) in
    ap (λ (z : ℕ). 0 + (size z - 53) * 4503599627370496 + z / 2 ^ (size z - 53)) n ∙ none ((size v - 53) * 4503599627370496) (v / 2 ^ (size v - 53))
  where
    none : (a b : ℕ) → 0 + a + b ≡ a + b
    none a b = omega arith

-- the field of a value below 1/2 is at most 1021
pub field_below : (x : Float) (v : ℕ) → Is x v → v < 2 ^ 1073 → to_bits binary64 x / 4503599627370496 ≤ 1021
field_below x v i l = go (to_bits binary64 x) (dropped v) (v / 2 ^ dropped v) (bits_are x v i) (few (size v) (size-le v 1073 l)) (kept-lt 53 v)
  where
    few : (s : ℕ) → s ≤ 1073 → s - 53 ≤ 1020
    few s h = omega arith

    go : (b k q : ℕ) → b ≡ k * 4503599627370496 + q → k ≤ 1020 → q < 9007199254740992 → b / 4503599627370496 ≤ 1021
    go b k q e h l = omega arith

-- that of a value of 2 ^ (52 + k) units or more is above k
pub field_least : (x : Float) (v k : ℕ) → Is x v → 2 ^ (52 + k) ≤ v → k < to_bits binary64 x / 4503599627370496
field_least x v k i l =
    let s : 52 + k < size v = lt_of_not-le (λ (g : size v ≤ 52 + k). not-le_of_lt (lt_of_lt_of_le (size-lt v) (pow_mono g)) l) in
    let d = dropped v in
    let h : 2 ^ (52 + d) ≤ v = elim (lt_or_ge (52 + d) (size v)) [ inl g ↦ size_reaches v (52 + d) g | inr g ↦ le_trans (pow_mono (few k (size v) s g)) l ] in
    let q : 4503599627370496 ≤ v / 2 ^ d = (le-div_iff_mul-le (pow_pos d)).1 (le_trans (le_of_eq (sym (pow-add 2 52 d))) h) in
    go (to_bits binary64 x) d k (v / 2 ^ d) (bits_are x v i) (many k (size v) s) q
  where
    few : (k s : ℕ) → 52 + k < s → s ≤ 52 + (s - 53) → 52 + (s - 53) ≤ 52 + k
    few k s h g = omega arith

    many : (k s : ℕ) → 52 + k < s → k ≤ s - 53
    many k s h = omega arith

    go : (b d k q : ℕ) → b ≡ d * 4503599627370496 + q → k ≤ d → 4503599627370496 ≤ q → k < b / 4503599627370496
    go b d k q e h l = omega arith

-- ---- the pattern with the field 1022 and the digits f: (2 ^ 52 + f) * 2 ^ 1021 units
field : (f : ℕ) → f < 4503599627370496 → (f + 4602678819172646912) % 9223372036854775808 / 4503599627370496 ≡ 1022
field f h = omega arith

digit : (f : ℕ) → f < 4503599627370496 → (f + 4602678819172646912) % 4503599627370496 ≡ f
digit f h = omega arith

under : (f : ℕ) → f < 4503599627370496 → f + 4602678819172646912 < 9223372036854775808
under f h = omega arith

opened : (b : ℕ) → of_bits binary64 b ≡ of_fields binary64 (leb 9223372036854775808 b) (b % 9223372036854775808 / 4503599627370496) (b % 4503599627370496)
unfolding of_bits
opened b = refl

fields : (f : ℕ) → of_fields binary64 false 1022 f ≡ odd 53 false (4503599627370496 + f) 1021 1074
unfolding of_fields
fields f = refl

pattern : (f : ℕ) → f < 4503599627370496 → of_bits binary64 (f + 4602678819172646912) ≡ odd 53 false (4503599627370496 + f) 1021 1074
pattern f h =
    let b = f + 4602678819172646912 in
    opened b
    ∙ ap (λ (s : Bool). of_fields binary64 s (b % 9223372036854775808 / 4503599627370496) (b % 4503599627370496)) (is_false (leb 9223372036854775808 b) (not_T (leb 9223372036854775808 b) (λ (t : T (leb 9223372036854775808 b)). not-le_of_lt (under f h) (leb→le 9223372036854775808 b t))))
    ∙ ap (λ (x : ℕ). of_fields binary64 false x (b % 4503599627370496)) (field f h)
    ∙ ap (λ (x : ℕ). of_fields binary64 false 1022 x) (digit f h)
    ∙ fields f

pub significand_is : (f : ℕ) → f < 4503599627370496 → Is (of_bits binary64 (f + 4602678819172646912)) ((4503599627370496 + f) * 2 ^ 1021)
significand_is f h = subst (λ (z : Float). Is z ((4503599627370496 + f) * 2 ^ 1021)) (sym (pattern f h)) (odd_sign 53 false (4503599627370496 + f) 1021 1074)

pub significand_defined : (f : ℕ) → f < 4503599627370496 → T (not (nan_bits binary64 (f + 4602678819172646912)))
significand_defined f h =
    let x = of_bits binary64 (f + 4602678819172646912) in
    subst (λ (b : Bool). T (not b)) (sym (nan_bits_is binary64 (f + 4602678819172646912))) (plain_number x (plain_is x ((4503599627370496 + f) * 2 ^ 1021) (significand_is f h)))

pub significand_low : (f : ℕ) → 2 ^ 1073 ≤ (4503599627370496 + f) * 2 ^ 1021
significand_low f = le_trans (lit≤ tt) (mul-le-mul_right (2 ^ 1021) (more f))
  where
    more : (f : ℕ) → 4503599627370496 ≤ 4503599627370496 + f
    more f = omega arith

pub significand_high : (f : ℕ) → f < 4503599627370496 → (4503599627370496 + f) * 2 ^ 1021 ≤ 2 ^ 1074
significand_high f h = le_trans (mul-le-mul_right (2 ^ 1021) (less f h)) (lit≤ tt)
  where
    less : (f : ℕ) → f < 4503599627370496 → 4503599627370496 + f ≤ 9007199254740992
    less f h = omega arith
