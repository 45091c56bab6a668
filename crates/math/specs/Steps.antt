-- exp, ln and ln_1p in rounded steps: docs/MATH.md in symbols. Each operation is one of binary64, rounded to nearest with ties to even, and none is fused. Definitions only.
use Rattle.std.specs.Prelude.{ℕ, ◌+◌, ◌-◌, ◌/◌, ◌%◌, true, false, cond, pos, Float}
use Rattle.std.specs.Float.{nan, inf, binary64}
use Rattle.std.specs.Float.Ieee.{add, sub, mul, div, neg, lt, le, eq, of_int, of_bits, to_bits}
use Rattle.rounding.specs.Grid.{Grid, cut, index, rest}
use Rattle.tables.specs.Tables.{entry, los, his, logs, mlogs}

infixl 6 ◌⊕◌ ◌⊖◌
infixl 7 ◌⊗◌ ◌⊘◌
abbrev pub ◌⊕◌ : Float → Float → Float
x ⊕ y = add binary64 x y

abbrev pub ◌⊖◌ : Float → Float → Float
x ⊖ y = sub binary64 x y

abbrev pub ◌⊗◌ : Float → Float → Float
x ⊗ y = mul binary64 x y

abbrev pub ◌⊘◌ : Float → Float → Float
x ⊘ y = div binary64 x y

-- ---- constants, by their bit patterns
abbrev pub lit : ℕ → Float
lit b = of_bits binary64 b

abbrev pub zero : Float
zero = lit 0

abbrev pub half : Float
half = lit 0x3fe0_0000_0000_0000

abbrev pub one : Float
one = lit 0x3ff0_0000_0000_0000

-- the nearest to ln 2
abbrev pub ln2 : Float
ln2 = lit 0x3fe6_2e42_fefa_39ef

-- 2 ^ -1022, the smallest normal value, and 2 ^ 54
abbrev pub smallest : Float
smallest = lit 0x0010_0000_0000_0000

abbrev pub scale : Float
scale = lit 0x4350_0000_0000_0000

-- 746, from where exp is 0 or infinite
abbrev pub end : Float
end = lit 0x4087_5000_0000_0000

-- multiples of 1 / 64, and of 1 / 128
abbrev pub grid64 : Grid
grid64 = record { half = 0x3f80_0000_0000_0000; far = 0x42d8_0000_0000_0000; per = 0x4050_0000_0000_0000 }

abbrev pub grid128 : Grid
grid128 = record { half = 0x3f70_0000_0000_0000; far = 0x42c8_0000_0000_0000; per = 0x4060_0000_0000_0000 }

-- ---- polynomials, in an order in which few steps wait for each other
-- the nearest to 1/3, 1/4, 1/5, 1/6, 1/24 and 1/120
abbrev pub third : Float
third = lit 0x3fd5_5555_5555_5555

abbrev pub quarter : Float
quarter = lit 0x3fd0_0000_0000_0000

abbrev pub fifth : Float
fifth = lit 0x3fc9_9999_9999_999a

abbrev pub sixth : Float
sixth = lit 0x3fc5_5555_5555_5555

abbrev pub part24 : Float
part24 = lit 0x3fa5_5555_5555_5555

abbrev pub part120 : Float
part120 = lit 0x3f81_1111_1111_1111

-- f - f² / 2 + c f³ - w f⁴
abbrev pub fall : Float → Float → Float → Float
fall f c w = f ⊖ f ⊗ f ⊗ ((half ⊖ f ⊗ c) ⊕ f ⊗ f ⊗ w)

-- e ^ -f to its fifth power, ln (1 + r) to its sixth, and -ln (1 - s) to its sixth
abbrev pub exp_poly : Float → Float
exp_poly f = one ⊖ fall f sixth (part24 ⊖ f ⊗ part120)

abbrev pub ln_fall : Float → Float
ln_fall r = fall r third ((quarter ⊖ r ⊗ fifth) ⊕ r ⊗ r ⊗ sixth)

abbrev pub ln_rise : Float → Float
ln_rise s = s ⊕ s ⊗ s ⊗ ((half ⊕ s ⊗ third) ⊕ s ⊗ s ⊗ ((quarter ⊕ s ⊗ fifth) ⊕ s ⊗ s ⊗ sixth))

-- ---- exp
-- e ^ -t, for a t above 0 and below 746
abbrev pub exp_neg : Float → Float
exp_neg t = entry los (index grid64 t % 256) ⊗ exp_poly (rest grid64 t) ⊗ entry his (index grid64 t / 256)

unfoldable pub exp_steps : Float → Float
exp_steps x =
    cond (lt x zero)
    (cond (lt (neg end) x) (exp_neg (neg x)) zero)
    (cond (lt zero x)
    (cond (lt x end) (one ⊘ exp_neg x) (inf false))
    (cond (eq x zero) one nan))

-- ---- ln
-- -ln x, for an x from 1/2 to 1: x = (1 - j / 128) (1 - s)
abbrev pub ln_half : Float → Float
ln_half x = entry mlogs (index grid128 (one ⊖ x)) ⊕ ln_rise (rest grid128 (one ⊖ x) ⊘ (one ⊖ cut grid128 (one ⊖ x)))

-- of a bit pattern: its exponent's field, and its digits as a value from 1/2 up and below 1
abbrev pub field : ℕ → ℕ
field b = b / 0x10_0000_0000_0000

abbrev pub significand : ℕ → Float
significand b = lit (b % 0x10_0000_0000_0000 + 0x3fe0_0000_0000_0000)

-- -ln x for x = m * 2 ^ (e - n) below 1/2, by the pattern of m * 2 ^ e
abbrev pub ln_down : ℕ → ℕ → Float
ln_down b n = of_int binary64 (pos (n - field b)) ⊗ ln2 ⊕ ln_half (significand b)

-- a subnormal is scaled first
abbrev pub ln_below : Float → Float
ln_below x = cond (le smallest x) (zero ⊖ ln_down (to_bits binary64 x) 1022) (zero ⊖ ln_down (to_bits binary64 (x ⊗ scale)) 1076)

-- ln x above 1
abbrev pub ln_above : Float → Float
ln_above x = of_int binary64 (pos (field (to_bits binary64 x) - 1022)) ⊗ ln2 ⊖ ln_half (significand (to_bits binary64 x))

abbrev pub ln_positive : Float → Float
ln_positive x =
    cond (lt x half)
    (ln_below x)
    (cond (le x one)
    (zero ⊖ ln_half x)
    (cond (lt x (inf false)) (ln_above x) (inf false)))

unfoldable pub ln_steps : Float → Float
ln_steps x = cond (lt zero x) (ln_positive x) (cond (eq x zero) (inf true) nan)

-- ---- ln_1p
-- ln (1 + y), for a y above 0 and up to 1: 1 + y = (1 + j / 64) (1 + r)
abbrev pub ln1p_unit : Float → Float
ln1p_unit y = entry logs (index grid64 y) ⊕ ln_fall (rest grid64 y ⊘ (one ⊕ cut grid64 y))

unfoldable pub ln1p_steps : Float → Float
ln1p_steps y =
    cond (lt zero y)
    (cond (le y one) (ln1p_unit y) (ln_steps (one ⊕ y)))
    (cond (eq y zero) zero (ln_steps (one ⊕ y)))
