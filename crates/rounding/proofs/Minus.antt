-- 0 - z for a z that is not negative: its size is z's, its sign is minus, and it is never -0. Assumes nothing.
use mathlib.Core.Path.{◌≡◌, refl, sym, ap, ◌∙◌, subst}
use mathlib.Core.Logic.{inl, inr}
use Prim.Native.Nat.{ℕ, zero, suc, ◌+◌, ◌-◌, ◌*◌, ◌/◌, ◌%◌, ◌^◌, ◌≤◌, ◌<◌, compare}
use native.Mathlib.Nat.{le_refl, le_trans, le_of_eq, mul-pos, mul-div_cancel, mul-le-mul_right, le_of_mul-le-mul_right, le-div_iff_mul-le}
use native.Mathlib.Omega.{arith}
use mathlib.Core.Bool.{Bool, true, false, ◌&&◌, cond, true≢false}
use lib.Dec.{T, ltb, eqb, lt→ltb}
use lib.IntN.{pos}
use lib.Pow.{pow_pos, pow_mono}
use lib.Ieee.{Float, nan, inf, fin, binary64, up, down, size, odd, units, round, sub, le, lt, eq}
use lib.Ieee.Digits.{size_reaches}
use lib.Ieee.Exact.{HasValue, odd_sign, round_exact}
use lib.Ieee.Fits.{and_i, eq→eqb, up_pos, round_is}
use lib.Ieee.Nearest.{closest, nearest-ge}
use lib.Ieee.Order.{drop}
use lib.Ieee.Positive.{num, den}
use Rattle.rounding.specs.Units.{Is, Digits, Minus}
use Rattle.rounding.proofs.Operations.{sub_units, sub_past}
use Rattle.rounding.proofs.Values.{lt_or_ge, or_left, or_right}

-- ---- no difference of values that are not negative is -0
plus_stays : (q k : ℕ) → units binary64 false q k ≡ fin true 0 (pos 0) → ⊥
unfolding units odd
plus_stays q k = go (ltb (q * 2 ^ k) (2 ^ 2098)) q
  where
    go : (b : Bool) (q : ℕ) → cond b (odd 54 false q k 1074) (inf false) ≡ fin true 0 (pos 0) → ⊥
    go true zero e = let z : ◌≡◌ {A = Bool} false true = cc in true≢false (sym z)
    go true (suc q) e = let z : ◌≡◌ {A = Bool} false true = cc in true≢false (sym z)
    go false q e = let z : ◌≡◌ {A = ℕ} 0 1 = cc in omega arith

minus_counts : (q k : ℕ) → 0 < q → units binary64 true q k ≡ fin true 0 (pos 0) → ⊥
unfolding units
minus_counts q k l = go (ltb (q * 2 ^ k) (2 ^ 2098))
  where
    nought : (n : ℕ) → 0 < n → 0 ≡ n * 1 → ⊥
    nought n h e = omega arith

    go : (b : Bool) → cond b (odd 54 true q k 1074) (inf true) ≡ fin true 0 (pos 0) → ⊥
    go true e = nought (q * 2 ^ k) (mul-pos l (pow_pos k)) (subst (λ (z : Float). HasValue z true (q * 2 ^ k) (2 ^ 1074)) e (odd_sign 54 true q k 1074)).1
    go false e = let z : ◌≡◌ {A = ℕ} 0 1 = cc in omega arith

-- at least one unit is rounded to one at least
whole_part : (d : ℕ) → 0 < d → 1 ≤ d * 2 ^ 1074 / (2 ^ 1074 * 2 ^ drop 53 (d * 2 ^ 1074) (2 ^ 1074))
whole_part d l =
    let U = 2 ^ 1074 in
    let e : drop 53 (d * U) U ≡ size d - 53 = ap (λ (z : ℕ). size z - 53) (mul-div_cancel d (pow_pos 1074)) in
    let k = drop 53 (d * U) U in
    (le-div_iff_mul-le (mul-pos (pow_pos 1074) (pow_pos k))).1 (turn U (2 ^ k) d (subst (λ (z : ℕ). 2 ^ z ≤ d) (sym e) (low d l)))
  where
    turn : (U p d : ℕ) → p ≤ d → 1 * (U * p) ≤ d * U
    turn U p d h = omega (arith, mul-le-mul_right U h)

    low : (d : ℕ) → 0 < d → 2 ^ (size d - 53) ≤ d
    low d l = elim (lt_or_ge 53 (size d)) [
      | inl h ↦ size_reaches d (size d - 53) (fewer (size d) h)
      | inr h ↦ le_trans (pow_mono (none (size d) h)) l
    ]
      where
        fewer : (s : ℕ) → 53 < s → s - 53 < s
        fewer s h = omega arith

        none : (s : ℕ) → s ≤ 53 → s - 53 ≤ 0
        none s h = omega arith

pub never_minus_zero : (x y : Float) (a b : ℕ) → Is x a → Is y b → sub binary64 x y ≡ fin true 0 (pos 0) → ⊥
never_minus_zero x y a b p q e = elim (lt_or_ge a b) [
  | inl l ↦
      let d = b - a in
      let U = 2 ^ 1074 in
      let u = U * 2 ^ drop 53 (d * U) U in
      minus_counts (closest (d * U) u) (drop 53 (d * U) U)
      (le_trans (whole_part d (left a b l)) (nearest-ge (d * U / u) (compare (d * U % u * 2) u)))
      (sym (round_is binary64 true d U) ∙ sym (sub_past x y a b p q l) ∙ e)
  | inr l ↦
      let d = a - b in
      let U = 2 ^ 1074 in
      plus_stays (closest (d * U) (U * 2 ^ drop 53 (d * U) U)) (drop 53 (d * U) U) (sym (round_is binary64 false d U) ∙ sym (sub_units x y a b p q l) ∙ e)
]
  where
    left : (a b : ℕ) → a < b → 0 < b - a
    left a b h = omega arith

-- ---- 0 - z
zero_is : Is (fin false 0 (pos 0)) 0
zero_is = (refl, refl)

minus_value : (z : Float) (g : Digits z) → 0 < g.m * 2 ^ g.s → g.m * 2 ^ g.s < 2 ^ 2098 → HasValue (sub binary64 (fin false 0 (pos 0)) z) true (g.m * 2 ^ g.s) (2 ^ 1074)
minus_value z g l u =
    let v = g.m * 2 ^ g.s in
    subst (λ (r : Float). HasValue r true v (2 ^ 1074)) (sym (sub_past (fin false 0 (pos 0)) z 0 v zero_is g.is l ∙ ap (λ (n : ℕ). round binary64 true n (2 ^ 1074)) (less v)))
    (round_exact binary64 true v (2 ^ 1074) g.m g.s (pow_pos 1074) g.few u refl)
  where
    less : (v : ℕ) → v - 0 ≡ v
    less v = omega arith

zero_minus : (z : Float) → Is z 0 → sub binary64 (fin false 0 (pos 0)) z ≡ fin false 0 (pos 0)
unfolding round
zero_minus z i = sub_units (fin false 0 (pos 0)) z 0 0 zero_is i (le_refl 0)

below_zero : (r : Float) (v : ℕ) → HasValue r true v (2 ^ 1074) → T (le r (fin false 0 (pos 0)))
unfolding le lt eq
below_zero nan v i = absurd i
below_zero (inf s) v i = absurd i
below_zero (fin false m e) v i = absurd (true≢false (sym i.0))
below_zero (fin true zero e) v i = or_right (ltb 0 (0 * up e * 1 + 0 * 1 * down e)) (eqb (0 * up e * 1) (0 * 1 * down e) && eqb (0 * up e * 1) 0) (and_i (eqb (0 * up e * 1) (0 * 1 * down e)) (eqb (0 * up e * 1) 0) (eq→eqb (a (up e) (down e))) (eq→eqb (b (up e))))
  where
    a : (u d : ℕ) → 0 * u * 1 ≡ 0 * 1 * d
    a u d = omega arith

    b : (u : ℕ) → 0 * u * 1 ≡ 0
    b u = omega arith
below_zero (fin true (suc m) e) v i = or_left (ltb 0 (suc m * up e * 1 + 0 * 1 * down e)) (eq (fin true (suc m) e) (fin false 0 (pos 0))) (lt→ltb 0 (suc m * up e * 1 + 0 * 1 * down e) (go m (up e) (down e) (up_pos e)))
  where
    go : (m u d : ℕ) → 0 < u → 0 < suc m * u * 1 + 0 * 1 * d
    go m u d h = omega arith

from_745 : (r : Float) (v : ℕ) → HasValue r true v (2 ^ 1074) → v ≤ 745 * 2 ^ 1074 → T (le (fin true 745 (pos 0)) r)
unfolding le lt eq
from_745 nan v i h = absurd i
from_745 (inf s) v i h = absurd i
from_745 (fin false m e) v i h = absurd (true≢false (sym i.0))
from_745 (fin true m e) v i h =
    let l : m * up e ≤ 745 * down e = le_of_mul-le-mul_right (le_trans (le_of_eq i.1) (le_trans (mul-le-mul_right (down e) h) (le_of_eq (turn (2 ^ 1074) (down e))))) (pow_pos 1074) in
    elim (lt_or_ge (m * up e * 1) (745 * 1 * down e)) [
      | inl a ↦ or_left (ltb (m * up e * 1) (745 * 1 * down e)) (eqb (745 * 1 * down e) (m * up e * 1) && true) (lt→ltb (m * up e * 1) (745 * 1 * down e) a)
      | inr a ↦ or_right (ltb (m * up e * 1) (745 * 1 * down e)) (eqb (745 * 1 * down e) (m * up e * 1) && true) (and_i (eqb (745 * 1 * down e) (m * up e * 1)) true (eq→eqb (same (m * up e) (down e) l a)) tt)
    ]
  where
    turn : (U d : ℕ) → 745 * U * d ≡ 745 * d * U
    turn U d = omega arith

    same : (a d : ℕ) → a ≤ 745 * d → 745 * 1 * d ≤ a * 1 → 745 * 1 * d ≡ a * 1
    same a d h k = omega arith

value_cross : (r : Float) (s : Bool) (v : ℕ) → HasValue r s v (2 ^ 1074) → num r * 2 ^ 1074 ≡ v * den r
value_cross nan s v i = absurd i
value_cross (inf t) s v i = absurd i
value_cross (fin t m e) s v i = i.1

zero_zero : T (le (fin false 0 (pos 0)) (fin false 0 (pos 0)))
unfolding le lt eq
zero_zero = tt

zero_745 : T (le (fin true 745 (pos 0)) (fin false 0 (pos 0)))
unfolding le lt eq
zero_745 = tt

pub minus : (z : Float) (g : Digits z) → g.m * 2 ^ g.s < 2 ^ 2098 → Minus (sub binary64 (fin false 0 (pos 0)) z) (g.m * 2 ^ g.s)
minus z g u =
    let v = g.m * 2 ^ g.s in
    elim (lt_or_ge 0 v) [
      | inl l ↦
          let h = minus_value z g l u in
          let r = sub binary64 (fin false 0 (pos 0)) z in
          record { size = value_cross r true v h; below = below_zero r v h; above = from_745 r v h }
      | inr l ↦
          let e : v ≡ 0 = none v l in
          let r : sub binary64 (fin false 0 (pos 0)) z ≡ fin false 0 (pos 0) = zero_minus z (subst (λ (n : ℕ). Is z n) e g.is) in
          subst (λ (y : Float). Minus y v) (sym r) (subst (λ (n : ℕ). Minus (fin false 0 (pos 0)) n) (sym e) nought)
    ]
  where
    none : (v : ℕ) → v ≤ 0 → v ≡ 0
    none v h = omega arith

    nought : Minus (fin false 0 (pos 0)) 0
    nought = record { size = refl; below = zero_zero; above = λ (h : 0 ≤ 745 * 2 ^ 1074). zero_745 }
