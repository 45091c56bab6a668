-- Whole numbers as floats, and floats as whole numbers. Assumes nothing.
use mathlib.Core.Path.{◌≡◌, sym, ap, ◌∙◌, subst}
use Prim.Native.Nat.{ℕ, ◌*◌, ◌/◌, ◌%◌, ◌^◌, ◌<◌, min}
use native.Mathlib.Nat.{le_trans, le_of_eq, le_of_lt, lt_of_lt_of_le, lt_of_le_of_lt, mul-one, mul_assoc, mul_right_comm, mul-lt-mul_of_pos_right, mul-pos, mul-div_cancel, mul-mod_left, eq_of_mul-eq-mul_right}
use native.Mathlib.Omega.{arith}
use mathlib.Core.Bool.{true, false, ◌&&◌, true≢false}
use lib.IntN.{pos}
use lib.Dec.{T, ltb, leb, eqb, lit<, lit≤, lt→ltb, le→leb}
use lib.Pow.{pow_pos}
use lib.Ieee.{Float, nan, inf, fin, binary64, up, down, whole, in_unsigned, to_unsigned, of_int, in_float, mul, round}
use lib.Ieee.Fits.{and_i, eq→eqb, down_pos}
use lib.Ieee.Exact.{HasValue, round_exact}
use Rattle.rounding.specs.Units.{Is}
use Rattle.rounding.proofs.Operations.{mul_units}

-- ---- the same value in units
pub same_units : (x : Float) (v n c : ℕ) → 0 < c → HasValue x false n c → n * 2 ^ 1074 ≡ v * c → Is x v
same_units nan v n c p h e = h
same_units (inf s) v n c p h e = h
same_units (fin s m d) v n c p h e = (h.0, eq_of_mul-eq-mul_right c p (m * up d * 2 ^ 1074) (v * down d) (mul_right_comm (m * up d) (2 ^ 1074) c ∙ ap (λ (z : ℕ). z * 2 ^ 1074) h.1 ∙ mul_right_comm n (down d) (2 ^ 1074) ∙ ap (λ (z : ℕ). z * down d) e ∙ mul_right_comm v c (down d)))

-- ---- a whole number as a float
pub int_is : (k : ℕ) → k < 9007199254740992 → Is (of_int binary64 (pos k)) (k * 2 ^ 1074)
unfolding of_int
int_is k h = same_units (round binary64 false k 1) (k * 2 ^ 1074) k 1 (lit< tt) (round_exact binary64 false k 1 k 1074 (lit< tt) h (small k h) (sym (mul-one (k * 2 ^ 1074)))) (sym (mul-one (k * 2 ^ 1074)))
  where
    small : (k : ℕ) → k < 9007199254740992 → k * 2 ^ 1074 < 2 ^ 2098
    small k h = lt_of_lt_of_le (mul-lt-mul_of_pos_right h (pow_pos 1074)) (lit≤ tt)

pub int_in : (k : ℕ) → k < 9007199254740992 → T (in_float binary64 (pos k))
unfolding in_float
int_in k h = le→leb k 9007199254740992 (le_of_lt h)

-- ---- j * G times c is j, for G * c = U
pub mul_whole : (x y : Float) (j G c : ℕ) → Is x (j * G) → Is y (c * 2 ^ 1074) → G * c ≡ 2 ^ 1074 → j < 2 ^ 53 → Is (mul binary64 x y) (j * 2 ^ 1074)
mul_whole x y j G c ix iy e l =
    let U = 2 ^ 1074 in
    subst (λ (z : Float). Is z (j * U)) (sym (mul_units x y (j * G) (c * U) ix iy))
    (same_units (round binary64 false (j * G * (c * U)) (U * U)) (j * U) (j * G * (c * U)) (U * U) (mul-pos (pow_pos 1074) (pow_pos 1074))
    (round_exact binary64 false (j * G * (c * U)) (U * U) j 1074 (mul-pos (pow_pos 1074) (pow_pos 1074)) l (lt_of_lt_of_le (mul-lt-mul_of_pos_right l (pow_pos 1074)) (lit≤ tt)) (turn j G c U e))
    (turn j G c U e))
  where
    turn : (j G c U : ℕ) → G * c ≡ U → j * G * (c * U) * U ≡ j * U * (U * U)
    turn j G c U e = ap (λ (z : ℕ). z * U) (sym (mul_assoc (j * G) c U) ∙ ap (λ (z : ℕ). z * U) (mul_assoc j G c ∙ ap (λ (z : ℕ). j * z) e)) ∙ mul_assoc (j * U) U U

-- ---- and the cast to a `u32` is j
cancel : (X D j U : ℕ) → 0 < U → X * U ≡ j * U * D → X ≡ j * D
cancel X D j U p e = eq_of_mul-eq-mul_right U p X (j * D) (e ∙ mul_right_comm j U D)

pub cast_in : (z : Float) (j : ℕ) → Is z (j * 2 ^ 1074) → j < 4294967296 → T (in_unsigned binary64 32 z)
unfolding in_unsigned whole
cast_in nan j i l = absurd i
cast_in (inf s) j i l = absurd i
cast_in (fin true m e) j i l = absurd (true≢false i.0)
cast_in (fin false m e) j i l =
    let x : m * up e ≡ j * down e = cancel (m * up e) (down e) j (2 ^ 1074) (pow_pos 1074) i.1 in
    let r : m * up e % down e ≡ 0 = ap (λ (z : ℕ). z % down e) x ∙ mul-mod_left j (down e) in
    let q : m * up e / down e ≡ j = ap (λ (z : ℕ). z / down e) x ∙ mul-div_cancel j (down_pos e) in
    and_i (eqb (m * up e % down e) 0 && leb (m * up e / down e) (2 ^ 53) && true) (true && ltb (m * up e / down e) (2 ^ 32))
    (and_i (eqb (m * up e % down e) 0 && leb (m * up e / down e) (2 ^ 53)) true
    (and_i (eqb (m * up e % down e) 0) (leb (m * up e / down e) (2 ^ 53)) (eq→eqb r) (le→leb (m * up e / down e) (2 ^ 53) (le_trans (le_of_eq q) (le_trans (le_of_lt l) (lit≤ tt))))) tt)
    (lt→ltb (m * up e / down e) (2 ^ 32) (lt_of_le_of_lt (le_of_eq q) l))

pub cast_is : (z : Float) (j : ℕ) → Is z (j * 2 ^ 1074) → j < 4294967296 → to_unsigned 32 z ≡ j
unfolding to_unsigned
cast_is nan j i l = absurd i
cast_is (inf s) j i l = absurd i
cast_is (fin true m e) j i l = absurd (true≢false i.0)
cast_is (fin false m e) j i l =
    let x : m * up e ≡ j * down e = cancel (m * up e) (down e) j (2 ^ 1074) (pow_pos 1074) i.1 in
    let q : m * up e / down e ≡ j = ap (λ (z : ℕ). z / down e) x ∙ mul-div_cancel j (down_pos e) in
    ap (λ (z : ℕ). min z 4294967295) q ∙ capped j l
  where
    capped : (j : ℕ) → j < 4294967296 → min j 4294967295 ≡ j
    capped j l = omega arith
