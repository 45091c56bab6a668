-- Below 1, a factor times a count rounds to less than the count: the largest f64 below 1 is 1 - 2 ^ -53, which takes off more
-- than half of what the count's last place is worth. Assumes nothing.
use Rattle.std.proofs.Common.{◌≡◌, ℕ, zero, suc, ◌+◌, ◌-◌, ◌*◌, ◌/◌, ◌^◌, ◌<◌, ◌≤◌, min, Bool, true, false, cond, T, eqb, ltb, pos, sym, refl, ap, ◌∙◌, subst, inl, inr, true≢false, le_trans, le_of_eq, lt_of_lt_of_le, lt_of_le_of_lt, le_of_lt, mul-le-mul_right, mul_assoc, div-lt_iff_lt-mul, lt_of_mul-lt-mul_right, mul-le-mul_left, mul-lt-mul_of_pos_right, mul-pos, mul-one, mul-div_cancel, arith, lit<, lit≤, pow_pos, pow_mono, pow-add}
use lib.Ieee.{Float, nan, inf, fin, binary64, up, down, size, odd, units, round, mul, le, fits}
use lib.Ieee.Digits.{size_reaches, back}
use lib.Ieee.Fits.{down_pos, round_is}
use lib.Ieee.Nearest.{closest}
use lib.Ieee.Order.{drop, le_of_values}
use lib.Ieee.Scale.{grid, round_val}
use Rattle.rounding.specs.Units.{Is, plain}
use Rattle.rounding.proofs.Nearest.{closest_half}
use Rattle.rounding.proofs.Operations.{mul_units}
use Rattle.rounding.proofs.Values.{lt_or_ge, digits}
use Rattle.keep.specs.Keep.{whole_of}

-- ---- a factor below 1 is at most 1 - 2 ^ -53
-- m * 2 ^ s below 2 ^ 53 * Q, with an m of 53 digits, is at most (2 ^ 53 - 1) * Q, for Q = 2 ^ 1021
whole_steps : (j Q : ℕ) → 0 < Q → j * Q < 9007199254740992 * Q → j * Q + Q ≤ 9007199254740992 * Q
whole_steps j Q p h =
    let l : j < 9007199254740992 = lt_of_mul-lt-mul_right Q h in
    let k : (j + 1) * Q ≤ 9007199254740992 * Q = mul-le-mul_right Q (omega arith) in
    omega arith

few_steps : (m P Q : ℕ) → m < 9007199254740992 → P ≤ Q → m * P + Q ≤ 9007199254740992 * Q
few_steps m P Q h l =
    let a : m * P ≤ m * Q = mul-le-mul_left m l in
    let b : (m + 1) * Q ≤ 9007199254740992 * Q = mul-le-mul_right Q (omega arith) in
    omega arith

below_one : (m s q : ℕ) → m < 9007199254740992 → m * 2 ^ s < 9007199254740992 * 2 ^ q → m * 2 ^ s + 2 ^ q ≤ 9007199254740992 * 2 ^ q
below_one m s q few h = elim (lt_or_ge s q) [
  | inl l ↦ few_steps m (2 ^ s) (2 ^ q) few (pow_mono (omega arith))
  | inr g ↦
      let e : m * 2 ^ s ≡ m * 2 ^ (s - q) * 2 ^ q = ap (λ (z : ℕ). m * z) (ap (λ (z : ℕ). 2 ^ z) (sym (back s q g)) ∙ pow-add 2 (s - q) q) ∙ sym (mul_assoc m (2 ^ (s - q)) (2 ^ q)) in
      subst (λ (z : ℕ). z + 2 ^ q ≤ 9007199254740992 * 2 ^ q) (sym e)
      (whole_steps (m * 2 ^ (s - q)) (2 ^ q) (pow_pos q) (subst (λ (z : ℕ). z < 9007199254740992 * 2 ^ q) e h))
]

-- ---- the last place of a number below n * 2 ^ 52 * C is worth less than n * C
place : (w n C : ℕ) → 0 < n → 1 < C → w < n * (4503599627370496 * C) → 2 ^ (size w - 53) < n * C
place w n C N D h = elim (lt_or_ge (size w) 54) [
  | inl l ↦
      let z : size w - 53 ≡ 0 = omega arith in
      let p : 1 * C ≤ n * C = mul-le-mul_right C N in
      subst (λ (k : ℕ). 2 ^ k < n * C) (sym z) (omega arith)
  | inr g ↦
      let r : 2 ^ (size w - 53 + 52) ≤ w = size_reaches w (size w - 53 + 52) (omega arith) in
      let e : 2 ^ (size w - 53 + 52) ≡ 2 ^ (size w - 53) * 4503599627370496 = pow-add 2 (size w - 53) 52 in
      let f : 2 ^ (size w - 53) * 4503599627370496 < n * C * 4503599627370496 = lt_of_le_of_lt (le_of_eq (sym e)) (lt_of_le_of_lt r (lt_of_lt_of_le h (le_of_eq (turn n C)))) in
      lt_of_mul-lt-mul_right 4503599627370496 f
]
  where
    turn : (n C : ℕ) → n * (4503599627370496 * C) ≡ n * C * 4503599627370496
    turn n C = omega arith

-- ---- n * W units, rounded, are fewer than n * U
less : (g u c n W Q U : ℕ) → 0 < c → W + Q ≤ U → u < n * (2 * Q) → g * (c * u) * 2 ≤ n * W * c * 2 + c * u → g * u < n * U
less g u c n W Q U C v l h =
    let a : u * c < n * (2 * Q) * c = mul-lt-mul_of_pos_right l C in
    let b : (W + Q) * (n * c) ≤ U * (n * c) = mul-le-mul_right (n * c) v in
    let d : g * u * c < n * U * c = omega arith in
    lt_of_mul-lt-mul_right c d

regroup : (n U W : ℕ) → n * U * W * U ≡ n * W * (U * U)
regroup n U W = omega arith

fewer : (n W Q U : ℕ) → 0 < n → 0 < Q → W + Q ≤ U → n * W < n * U
fewer n W Q U N P v =
    let l : W * n < U * n = mul-lt-mul_of_pos_right (omega arith) N in
    omega arith

rounded : (n W : ℕ) → 0 < n → W + 2 ^ 1021 ≤ 2 ^ 1074 → grid binary64 (n * 2 ^ 1074 * W) (2 ^ 1074 * 2 ^ 1074) < n * 2 ^ 1074
rounded n W N v =
    let U = 2 ^ 1074 in
    let c = U * U in
    let C : 0 < c = mul-pos (pow_pos 1074) (pow_pos 1074) in
    let N' = n * U * W * U in
    let e : N' ≡ n * W * c = regroup n U W in
    let d : N' / c ≡ n * W = ap (λ (z : ℕ). z / c) e ∙ mul-div_cancel (n * W) C in
    let w : N' / c < n * U = lt_of_le_of_lt (le_of_eq d) (fewer n W (2 ^ 1021) U N (pow_pos 1021) v) in
    let k = drop 53 N' c in
    let u : 2 ^ k < n * (2 * 2 ^ 1021) = place (N' / c) n (2 * 2 ^ 1021) N (lit< tt) w in
    less (closest N' (c * 2 ^ k)) (2 ^ k) c n W (2 ^ 1021) U C v u
    (subst (λ (z : ℕ). closest N' (c * 2 ^ k) * (c * 2 ^ k) * 2 ≤ z * 2 + c * 2 ^ k) e (closest_half N' (c * 2 ^ k) (mul-pos C (pow_pos k))).0)

-- ---- fewer than n * U units are less than n without their fraction
under : (X v D n U : ℕ) → 0 < U → 0 < D → X * U ≡ v * D → v < n * U → X < n * D
under X v D n U p q e h =
    let a : v * D < n * U * D = mul-lt-mul_of_pos_right h q in
    let b : X * U < n * D * U = omega arith in
    lt_of_mul-lt-mul_right U b

least : (a b n : ℕ) → a < n → min a b < n
least a b n h = omega arith

whole_below : (x : Float) (v n : ℕ) → Is x v → v < n * 2 ^ 1074 → whole_of x < n
whole_below nan v n i h = absurd i
whole_below (inf s) v n i h = absurd i
whole_below (fin true m e) v n i h = absurd (true≢false i.0)
whole_below (fin false m e) v n i h =
    least (m * up e / down e) 18446744073709551615 n
    ((div-lt_iff_lt-mul (down_pos e)).1 (under (m * up e) v (down e) n (2 ^ 1074) (pow_pos 1074) (down_pos e) i.1 h))

product_below : (y x : Float) (n W : ℕ) → 0 < n → n < 9007199254740992 → Is y (n * 2 ^ 1074) → Is x W → W + 2 ^ 1021 ≤ 2 ^ 1074 → whole_of (mul binary64 y x) < n
product_below y x n W N l i j v =
    let U = 2 ^ 1074 in
    let r : grid binary64 (n * U * W) (U * U) < n * U = rounded n W N v in
    let fine : grid binary64 (n * U * W) (U * U) < 2 ^ 2098 = lt_of_lt_of_le r (le_trans (mul-le-mul_right U (le_of_lt l)) (lit≤ tt)) in
    whole_below (mul binary64 y x) (grid binary64 (n * U * W) (U * U)) n
    (subst (λ (z : Float). Is z (grid binary64 (n * U * W) (U * U))) (sym (mul_units y x (n * U) W i j)) (round_val binary64 (n * U * W) (U * U) fine)) r

-- ---- a negative number's whole part is 0
odd_neg : (d q k l : ℕ) → whole_of (odd d true q k l) ≡ 0
unfolding odd
odd_neg d zero k l = refl
odd_neg d (suc q) k l = refl

cond_neg : (b : Bool) (x y : Float) → whole_of x ≡ 0 → whole_of y ≡ 0 → whole_of (cond b x y) ≡ 0
cond_neg true x y p q = p
cond_neg false x y p q = q

units_neg : (q k : ℕ) → whole_of (units binary64 true q k) ≡ 0
unfolding units
units_neg q k = cond_neg (ltb (q * 2 ^ k) (2 ^ 2098)) (odd 54 true q k 1074) (inf true) (odd_neg 54 q k 1074) refl

round_neg : (a c : ℕ) → whole_of (round binary64 true a c) ≡ 0
round_neg a c = ap whole_of (round_is binary64 true a c) ∙ units_neg _ _

-- ---- a factor that is not 1 or more
abbrev pub one : Float
one = fin false 1 (pos 0)

small : (x : Float) (W : ℕ) → Is x W → (T (le one x) → ⊥) → W < 2 ^ 1074
small x W i h = elim (lt_or_ge W (2 ^ 1074)) [
  | inl l ↦ l
  | inr g ↦ absurd (h (le_of_values one x 1 1 W (2 ^ 1074) (lit< tt) (pow_pos 1074) (refl, refl) i (le_trans g (le_of_eq (sym (mul-one W))))))
]

factor_below : (x : Float) → T (fits binary64 x) → T (plain x) → (T (le one x) → ⊥) → (v : ℕ) × Is x v × (v + 2 ^ 1021 ≤ 2 ^ 1074)
factor_below x f p h =
    let g = digits x f p in
    (g.m * 2 ^ g.s, g.is, below_one g.m g.s 1021 g.few (small x (g.m * 2 ^ g.s) g.is h))

pub below : (y x : Float) (n : ℕ) → 0 < n → n < 9007199254740992 → Is y (n * 2 ^ 1074) → T (fits binary64 x) → (T (le one x) → ⊥) → whole_of (mul binary64 y x) < n
unfolding mul
below nan x n N l i f h = absurd i
below (inf s) x n N l i f h = absurd i
below (fin true m e) x n N l i f h = absurd (true≢false i.0)
below (fin false m e) nan n N l i f h = N
below (fin false m e) (inf true) n N l i f h = lt_of_le_of_lt (le_of_eq (cond_neg (eqb m 0) nan (inf true) refl refl)) N
below (fin false m e) (inf false) n N l i f h = absurd (h (unfold le in tt))
below (fin false m e) (fin true k d) n N l i f h = lt_of_le_of_lt (le_of_eq (round_neg (m * up e * (k * up d)) (down e * down d))) N
below (fin false m e) (fin false k d) n N l i f h =
    let (v, j, b) = factor_below (fin false k d) f tt h in
    product_below (fin false m e) (fin false k d) n v N l i j b
