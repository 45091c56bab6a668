-- e ^ -t: the table's entry for a mod 4, times the polynomial at f = t - a, times the entry for the multiple of 4. Assumes nothing.
use mathlib.Core.Path.{◌≡◌, ap, subst}
use Prim.Native.Nat.{ℕ, ◌+◌, ◌-◌, ◌*◌, ◌/◌, ◌%◌, ◌^◌, ◌≤◌, ◌<◌}
use native.Mathlib.Nat.{le_trans, mul-le-mul_left, mul-le-mul_right, mul-le-mul, le_of_mul-le-mul_right}
use native.Mathlib.Omega.{arith}
use lib.Dec.{T, lit≤, lit<}
use lib.Pow.{pow_pos}
use lib.Ieee.{Float, binary64, fits, lt}
use lib.Ieee.Fits.{sub-fits}
use lib.Ieee.Positive.{num, den}
use Rattle.rounding.specs.Units.{Is, Sized, Whole, Times}
use Rattle.rounding.specs.Grid.{cut, index, rest}
use Rattle.rounding.proofs.Near.{mul_near}
use Rattle.rounding.proofs.Values.{cross, plain_is}
use Rattle.tables.specs.Tables.{entry, los, his}
use Rattle.math.specs.Steps.{zero, end, grid64, exp_poly, exp_neg, ◌⊗◌}
use Rattle.math.proofs.Places.{exp_digits, exp_units, exp_placed, exp_index}
use Rattle.bounds.specs.Bounds.{ExpNear}
use Rattle.bounds.proofs.Polynomials.{Poly, exp_poly_near}
use Rattle.bounds.proofs.Entries.{Low, High, low_entry, high_entry, high_one}
use Rattle.bounds.proofs.Fractions.{below_one, exp_high}

-- ---- the composition. c for a, p for f, r for t = a + f
module _ (U E E' e a f t c p r : ℕ) where
  comp_low : 0 < U → a ≤ t → U ≤ c + a → p ≤ U → U * 2 ≤ p * 2 + f * 2 + E → f * 2 ≤ (t - a) * 2 + e → c * p * 2 ≤ r * U * 2 + U * E' → U * 2 ≤ r * 2 + t * 2 + (E + E' + e)
  comp_low z o l tp lp lf lr =
      let x : U * p ≤ (c + a) * p = mul-le-mul_right p l in
      let y : a * p ≤ a * U = mul-le-mul_left a tp in
      let w : p * 2 * U ≤ (r * 2 + E' + a * 2) * U = omega (arith, x, y) in
      let v : p * 2 ≤ r * 2 + E' + a * 2 = le_of_mul-le-mul_right w z in
      omega arith

  -- q = U - p
  comp_high : (q : ℕ) → U ≡ p + q → U ≤ c + a → a ≤ U → U * 2 ≤ p * 2 + f * 2 + E → p * U * 2 + f * U * 2 ≤ U * U * 2 + f * f + U * E * 2 → c * U * 2 + a * U * 2 ≤ U * U * 2 + a * a
      → c * p * 2 + (a + f) * U * 2 ≤ U * U * 2 + (a + f) * (a + f) + U * E * 3
  comp_high q k l ua lp hp hc =
      let q2 : q * 2 ≤ f * 2 + E = omega arith in
      let s1 : U * q ≤ (c + a) * q = mul-le-mul_right q l in
      let s2 : a * (q * 2) ≤ a * (f * 2 + E) = mul-le-mul_left a q2 in
      let s3 : a * E ≤ U * E = mul-le-mul_right E ua in
      let s4 : c * U ≡ c * (p + q) = ap (λ (z : ℕ). c * z) k in
      let s5 : U * U ≡ U * (p + q) = ap (λ (z : ℕ). U * z) k in
      shape (c * p) (U * U) (U * E)
      (lin (c * p) (c * q) (c * U) (U * q) (a * q) (a * f) (a * E) (U * E) (U * U) (p * U) (f * U) (a * U) (f * f) (a * a)
      (omega arith) (omega arith) (omega arith) s3 (omega arith) hp hc)
    where
      shape : (cp UU UE : ℕ) → cp * 2 + (a * U + f * U) * 2 ≤ UU * 2 + (a * a + a * f * 2 + f * f) + UE * 3 → cp * 2 + (a + f) * U * 2 ≤ UU * 2 + (a + f) * (a + f) + UE * 3
      shape cp UU UE h = omega arith

      lin : (cp cq cU Uq aq af aE UE UU pU fU aU ff aa : ℕ) → cU ≡ cp + cq → Uq ≤ cq + aq → aq * 2 ≤ af * 2 + aE → aE ≤ UE → UU ≡ pU + Uq
          → pU * 2 + fU * 2 ≤ UU * 2 + ff + UE * 2 → cU * 2 + aU * 2 ≤ UU * 2 + aa → cp * 2 + (aU + fU) * 2 ≤ UU * 2 + (aa + af * 2 + ff) + UE * 3
      lin cp cq cU Uq aq af aE UE UU pU fU aU ff aa h1 h2 h3 h4 h5 h6 h7 = omega arith

-- from x = a + f to t, which it is to within e / 2
comp_t : (U S E' e x t c r : ℕ) → e ≤ U → t ≤ U → x * 2 ≤ t * 2 + e → t * 2 ≤ x * 2 + e → r * U * 2 ≤ c * 2 + U * E' → c * 2 + x * U * 2 ≤ U * U * 2 + x * x + U * S
    → r * U * 2 + t * U * 2 ≤ U * U * 2 + t * t + U * (S + E' + e * 4)
comp_t U S E' e x t c r le lt lx lxt lr h =
    let g : x ≤ t + e = omega arith in
    let s1 : x * x ≤ (t + e) * (t + e) = mul-le-mul g g in
    let s2 : t * e ≤ U * e = mul-le-mul_right e lt in
    let s3 : e * e ≤ U * e = mul-le-mul_right e le in
    let s4 : t * 2 * U ≤ (x * 2 + e) * U = mul-le-mul_right U lxt in
    omega (arith, s1, s2, s3, s4)

-- ---- the last product, by an entry that is 1
last_low : (U S e r w t : ℕ) → 0 < U → r * U * 2 ≤ w * U * 2 + U * e → U * 2 ≤ r * 2 + t * 2 + S → U * 2 ≤ w * 2 + t * 2 + (S + e)
last_low U S e r w t z h l = go (le_of_mul-le-mul_right (turn U e r w h) z) l
  where
    turn : (U e r w : ℕ) → r * U * 2 ≤ w * U * 2 + U * e → r * 2 * U ≤ (w * 2 + e) * U
    turn U e r w h = omega arith

    go : r * 2 ≤ w * 2 + e → U * 2 ≤ r * 2 + t * 2 + S → U * 2 ≤ w * 2 + t * 2 + (S + e)
    go h l = omega arith

last_high : (U S e r w t T' : ℕ) → w * U * 2 ≤ r * U * 2 + U * e → r * U * 2 + t * U * 2 ≤ U * U * 2 + T' + U * S → w * U * 2 + t * U * 2 ≤ U * U * 2 + T' + U * (S + e)
last_high U S e r w t T' h l = omega arith

small : (p U : ℕ) → p ≤ U → U ≡ p + (U - p)
small p U h = omega arith

-- twice f + a, and twice t
pub up_to : (f t a e : ℕ) → a ≤ t → f * 2 ≤ (t - a) * 2 + e → (a + f) * 2 ≤ t * 2 + e
up_to f t a e o h = omega arith

pub down_to : (f t a e : ℕ) → a ≤ t → (t - a) * 2 ≤ f * 2 + e → t * 2 ≤ (a + f) * 2 + e
down_to f t a e o h = omega arith

times3 : (U E : ℕ) → U * E * 3 ≡ U * (E * 3)
times3 U E = omega arith

-- ---- the kernel
module _ (t : Float) (F : T (fits binary64 t)) (above : T (lt zero t)) (under : T (lt t end)) where
  abbrev τ : ℕ
  τ = exp_units t F above under

  abbrev j : ℕ
  j = index grid64 t

  f : Whole (rest grid64 t) (τ - j * 2 ^ 1068) 1068
  f = (exp_placed t F above under).left

  p : Poly (exp_poly (rest grid64 t)) f.v
  p = exp_poly_near (rest grid64 t) f.v (sub-fits binary64 t (cut grid64 t)) f.is f.top

  low_in : (j : ℕ) → j % 256 < 256
  low_in j = omega arith

  high_in : (j : ℕ) → j < 47744 → j / 256 < 187
  high_in j h = omega arith

  c : Low (entry los (j % 256)) (j % 256 * 2 ^ 1068)
  c = low_entry (j % 256) (low_in j)

  h : High (entry his (j / 256))
  h = high_entry (j / 256) (high_in j (exp_index t F above under))

  -- the first product, for any name of its entry's grid point
  first : {a : ℕ} (c : Low (entry los (j % 256)) a) → Times (entry los (j % 256) ⊗ exp_poly (rest grid64 t)) c.v p.v 1074
  first c = mul_near (entry los (j % 256)) (exp_poly (rest grid64 t)) c.v p.v 1074 c.is p.is (lit< tt) (mul-le-mul c.top p.top)

  second : {a b : ℕ} (r : Times (entry los (j % 256) ⊗ exp_poly (rest grid64 t)) a b 1074) (v : ℕ) → Is (entry his (j / 256)) v → v ≤ 2 ^ 1074 → Times (exp_neg t) r.v v 1074
  second r v i l = mul_near (entry los (j % 256) ⊗ exp_poly (rest grid64 t)) (entry his (j / 256)) r.v v 1074 r.is i (lit< tt) (mul-le-mul r.top l)

  -- from 0 to 1
  pub exp_neg_unit : Sized (exp_neg t) 1074
  exp_neg_unit = let w = second (first c) h.v h.is h.top in record { v = w.v; is = w.is; top = w.top }

  -- up to 1 the entries are those of a itself, and 1
  module _ (one : τ ≤ 2 ^ 1074) where
    j_one : j ≤ 64
    j_one = le_of_mul-le-mul_right (le_trans (exp_placed t F above under).under (le_trans one (lit≤ tt))) (pow_pos 1068)

    no_mod : (j : ℕ) → j ≤ 64 → j % 256 ≡ j
    no_mod j h = omega arith

    no_div : (j : ℕ) → j ≤ 64 → 0 ≡ j / 256
    no_div j h = omega arith

    abbrev a : ℕ
    a = j * 2 ^ 1068

    c' : Low (entry los (j % 256)) a
    c' = subst (λ (k : ℕ). Low (entry los (j % 256)) (k * 2 ^ 1068)) (no_mod j j_one) c

    r : Times (entry los (j % 256) ⊗ exp_poly (rest grid64 t)) c'.v p.v 1074
    r = first c'

    w : Times (exp_neg t) r.v (2 ^ 1074) 1074
    w = second r (2 ^ 1074) (subst (λ (k : ℕ). Is (entry his k) (2 ^ 1074)) (no_div j j_one) high_one) (lit≤ tt)

    pub exp_neg_near : ExpNear t (exp_neg t)
    exp_neg_near =
        let U = 2 ^ 1074 in
        let E = 2 ^ 1023 in
        let E' = 2 ^ 1022 in
        let e = 2 ^ 1016 in
        let z = exp_neg t in
        let o = (exp_placed t F above under).under in
        let L = comp_low U E E' e a f.v τ c'.v p.v r.v (pow_pos 1074) o c'.low p.top p.low f.above r.under in
        let M = comp_high U E E' e a f.v τ c'.v p.v r.v (U - p.v) (small p.v U p.top) c'.low (le_trans o one) p.low p.high c'.high in
        let H = comp_t U (E * 3) E' e (a + f.v) τ (c'.v * p.v) r.v (lit≤ tt) one (up_to f.v τ a e o f.above) (down_to f.v τ a e o f.under) r.above
        (subst (λ (n : ℕ). c'.v * p.v * 2 + (a + f.v) * U * 2 ≤ U * U * 2 + (a + f.v) * (a + f.v) + n) (times3 U E) M) in
        record {
          sign = plain_is z w.v w.is;
          low = below_one U (E + E' + e + E') (2 ^ 40) w.v τ (num z) (den z) (num t) (den t) (pow_pos 1074) (cross z w.v w.is) (cross t τ (exp_digits t F above under).is) (lit≤ tt) (last_low U (E + E' + e) E' r.v w.v τ (pow_pos 1074) w.under L);
          high = exp_high U (E * 3 + E' + e * 4 + E') (2 ^ 40) w.v τ (num z) (den z) (num t) (den t) (pow_pos 1074) (cross z w.v w.is) (cross t τ (exp_digits t F above under).is) (lit≤ tt) (last_high U (E * 3 + E' + e * 4) E' r.v w.v τ (τ * τ) w.above H);
        }
