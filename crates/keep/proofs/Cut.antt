-- A number without its fraction, by the two tests of `whole`. Assumes nothing.
use Rattle.std.proofs.Common.{◌≡◌, ℕ, ◌+◌, ◌*◌, ◌/◌, ◌^◌, ◌<◌, ◌≤◌, min, max, true, false, T, ltb, pos, sym, refl, ap, ◌∙◌, subst, true≢false, le-div_iff_mul-le, arith, ltb-false}
use lib.Ieee.{Float, nan, inf, fin, binary64, up, down, lt, neg, of_bits, to_unsigned, of_int, mul}
use lib.Ieee.Fits.{down_pos}
use Rattle.keep.specs.Keep.{whole_of, product_of, keep_of}

-- -1.0 and 2 ^ 64 as the code has them
abbrev pub minus_one : Float
minus_one = neg (of_bits binary64 4607182418800017408)

abbrev pub too_large : Float
too_large = of_bits binary64 4895412794951729152

one_is : minus_one ≡ fin true 1 (pos 0)
unfolding of_bits neg
one_is = refl

large_is : too_large ≡ fin false 1 (pos 64)
unfolding of_bits
large_is = refl

-- ---- what the truncation of numbers from -1 up to 2 ^ 64 asks, and that it is the same number
module _ (x : Float) (a : lt minus_one x ≡ true) (b : lt x too_large ≡ true) where
  pub asked : T (lt (fin true 1 (pos 0)) x) × T (lt x (fin false 1 (pos 64)))
  asked = (subst (λ (y : Float). T (lt y x)) one_is (subst T (sym a) tt), subst (λ (y : Float). T (lt x y)) large_is (subst T (sym b) tt))

pub whole_is : (x : Float) → to_unsigned 64 x ≡ whole_of x
unfolding to_unsigned
whole_is nan = refl
whole_is (inf true) = refl
whole_is (inf false) = refl
whole_is (fin true m e) = refl
whole_is (fin false m e) = refl

-- ---- -1 or less, or a NaN
sum_above : (a b : ℕ) → 0 < a + b → ltb 0 (a + b) ≡ false → ⊥
sum_above a b h e = let l = ltb-false 0 (a + b) e in omega arith

below_one : (x : Float) → lt (fin true 1 (pos 0)) x ≡ false → whole_of x ≡ 0
unfolding lt
below_one nan e = refl
below_one (inf true) e = refl
below_one (inf false) e = absurd (true≢false e)
below_one (fin true m d) e = refl
below_one (fin false m d) e = absurd (sum_above (1 * 1 * down d) (m * up d * 1) (let p = down_pos d in omega arith) e)

pub none_whole : (x : Float) → lt minus_one x ≡ false → 0 ≡ whole_of x
none_whole x e = sym (below_one x (subst (λ (y : Float). lt y x ≡ false) one_is e))

-- ---- 2 ^ 64 or more
capped : (n d : ℕ) → 0 < d → ltb (n * 1) (1 * 2 ^ 64 * d) ≡ false → min (n / d) 18446744073709551615 ≡ 18446744073709551615
capped n d D e =
    let l : 18446744073709551616 * d ≤ n = let h = ltb-false (n * 1) (1 * 2 ^ 64 * d) e in omega arith in
    let q : 18446744073709551616 ≤ n / d = (le-div_iff_mul-le D).1 l in
    omega arith

above_all : (x : Float) → lt (fin true 1 (pos 0)) x ≡ true → lt x (fin false 1 (pos 64)) ≡ false → whole_of x ≡ 18446744073709551615
unfolding lt
above_all nan a b = absurd (true≢false (sym a))
above_all (inf true) a b = absurd (true≢false (sym a))
above_all (inf false) a b = refl
above_all (fin true m d) a b = absurd (sum_above (m * up d * 1) (1 * 2 ^ 64 * down d) (let p = down_pos d in omega arith) b)
above_all (fin false m d) a b = capped (m * up d) (down d) (down_pos d) b

pub most_whole : (x : Float) → lt minus_one x ≡ true → lt x too_large ≡ false → 18446744073709551615 ≡ whole_of x
most_whole x a b = sym (above_all x (subst (λ (y : Float). lt y x ≡ true) one_is a) (subst (λ (y : Float). lt x y ≡ false) large_is b))

-- ---- "then not below target"
pub kept_is : (pieces : ℕ) (factor : Float) (target : ℕ) {cut : ℕ} {count : Float} → count ≡ of_int binary64 (pos pieces) → cut ≡ whole_of (mul binary64 count factor) → max cut target ≡ keep_of pieces factor target
kept_is pieces factor target {cut} {count} c w =
    let e : cut ≡ whole_of (product_of pieces factor) = w ∙ ap (λ (y : Float). whole_of (mul binary64 y factor)) c in
    omega arith
