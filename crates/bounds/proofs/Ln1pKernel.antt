-- ln (1 + y) from 0 to 1: the table's entry for 1 + a, plus the polynomial at r = (y - a) / (1 + a). Assumes nothing.
use mathlib.Core.Path.{◌≡◌, refl}
use Prim.Native.Nat.{ℕ, ◌+◌, ◌-◌, ◌*◌, ◌^◌, ◌≤◌, ◌<◌}
use native.Mathlib.Nat.{le_trans, mul-le-mul_left, mul-le-mul_right, mul-le-mul, le_of_mul-le-mul_right}
use native.Mathlib.Omega.{arith}
use lib.Dec.{T, lit≤, lit<}
use lib.Pow.{pow_pos}
use lib.Ieee.{Float, binary64, fits, lt, le}
use lib.Ieee.Fits.{div-fits}
use lib.Ieee.Positive.{num, den}
use Rattle.rounding.specs.Units.{Is, Whole, Rounded}
use Rattle.rounding.specs.Grid.{cut, index, rest}
use Rattle.rounding.proofs.Near.{sum_top, add_near, div_near}
use Rattle.rounding.proofs.Snap.{add_exact}
use Rattle.rounding.proofs.Values.{cross, plain_is}
use Rattle.tables.specs.Tables.{entry, logs}
use Rattle.math.specs.Steps.{zero, one, grid64, ln_fall, ln1p_unit, ◌⊕◌, ◌⊘◌}
use Rattle.math.proofs.Places.{one_is, ln1p_digits, ln1p_units, ln1p_top, ln1p_placed, ln1p_index}
use Rattle.bounds.specs.Bounds.{Ln1pNear}
use Rattle.bounds.proofs.Polynomials.{Fall, ln_fall_near}
use Rattle.bounds.proofs.Entries.{Log, log_entry}
use Rattle.bounds.proofs.Fractions.{ln1p_high, ln1p_low}
use Rattle.bounds.proofs.ExpKernel.{up_to, down_to}

-- ---- the composition: L for a, q for r = d / (1 + a), z for y = a + d
module _ (U E E' e y a d r q L z : ℕ) (U_pos : 0 < U) (a_top : a ≤ U) (hr : r * (U + a) * 2 ≤ d * U * 2 + (U + a) * e) where
  no_more : r * 2 ≤ d * 2 + e * 2
  no_more =
      let x : a * e ≤ U * e = mul-le-mul_right e a_top in
      let k : r * 2 * U ≤ (d * 2 + e * 2) * U = omega (arith, x) in
      le_of_mul-le-mul_right k U_pos

  comp_high : a ≤ y → d * 2 ≤ (y - a) * 2 + e → q * 2 ≤ r * 2 + e → L ≤ a → z * 2 ≤ (L + q) * 2 + E → z * 2 ≤ y * 2 + (e * 4 + E)
  comp_high o hd hq hL hz = omega (arith, no_more)

  comp_low : e ≤ U → d ≤ U → d * U * 2 ≤ r * (U + a) * 2 + (U + a) * e → r * U * 2 ≤ q * U * 2 + r * r + U * E' → a * U * 2 ≤ L * U * 2 + a * a → (L + q) * 2 ≤ z * 2 + E
      → (a + d) * U * 2 ≤ z * U * 2 + (a + d) * (a + d) + U * (E + E' + e * 7)
  comp_low le ld lr lq lL lz =
      let w : r ≤ d + e = omega (arith, no_more) in
      let s1 : r * r ≤ (d + e) * (d + e) = mul-le-mul w w in
      let s2 : d * e ≤ U * e = mul-le-mul_right e ld in
      let s3 : e * e ≤ U * e = mul-le-mul_right e le in
      let s4 : r * a ≤ (d + e) * a = mul-le-mul_right a w in
      let s5 : e * a ≤ e * U = mul-le-mul_left e a_top in
      let s6 : (L + q) * 2 * U ≤ (z * 2 + E) * U = mul-le-mul_right U lz in
      shape (z * U)
      (lin (r * r) (d * d) (d * e) (e * e) (U * e) (d * U) (r * U) (r * a) (d * a) (e * a) (L * U) (q * U) (z * U) (U * E) (U * E') (a * U) (a * a)
      (omega (arith, s1)) s2 s3 (omega (arith, s4)) (omega (arith, s5)) (omega (arith, s6)) (omega (arith, lr)) lq lL)
    where
      shape : (zU : ℕ) → a * U * 2 + d * U * 2 ≤ zU * 2 + (a * a + d * a * 2 + d * d) + (U * E + U * E' + U * e * 7) → (a + d) * U * 2 ≤ zU * 2 + (a + d) * (a + d) + U * (E + E' + e * 7)
      shape zU h = omega arith

      lin : (rr dd de ee Ue dU rU ra da ea LU qU zU UE UE' aU aa : ℕ) → rr ≤ dd + de * 2 + ee → de ≤ Ue → ee ≤ Ue → ra ≤ da + ea → ea ≤ Ue → LU * 2 + qU * 2 ≤ zU * 2 + UE → dU * 2 ≤ rU * 2 + ra * 2 + (Ue + ea)
          → rU * 2 ≤ qU * 2 + rr + UE' → aU * 2 ≤ LU * 2 + aa → aU * 2 + dU * 2 ≤ zU * 2 + (aa + da * 2 + dd) + (UE + UE' + Ue * 7)
      lin rr dd de ee Ue dU rU ra da ea LU qU zU UE UE' aU aa h1 h2 h3 h4 h5 h6 h7 h8 h9 = omega arith

comp_y : (U S e x y z : ℕ) → e ≤ U → y ≤ U → x * 2 ≤ y * 2 + e → y * 2 ≤ x * 2 + e → x * U * 2 ≤ z * U * 2 + x * x + U * S → y * U * 2 ≤ z * U * 2 + y * y + U * (S + e * 4)
comp_y U S e x y z le ly lx lyx h =
    let g : x ≤ y + e = omega arith in
    let s1 : x * x ≤ (y + e) * (y + e) = mul-le-mul g g in
    let s2 : y * e ≤ U * e = mul-le-mul_right e ly in
    let s3 : e * e ≤ U * e = mul-le-mul_right e le in
    let s4 : y * 2 * U ≤ (x * 2 + e) * U = mul-le-mul_right U lyx in
    omega (arith, s1, s2, s3, s4)

-- ---- the kernel
module _ (y : Float) (F : T (fits binary64 y)) (above : T (lt zero y)) (under : T (le y one)) where
  abbrev υ : ℕ
  υ = ln1p_units y F above under

  abbrev j : ℕ
  j = index grid64 y

  abbrev a : ℕ
  a = j * 2 ^ 1068

  o : a ≤ υ
  o = (ln1p_placed y F above under).under

  υ_top : υ ≤ 2 ^ 1074
  υ_top = ln1p_top y F above under

  d : Whole (rest grid64 y) (υ - a) 1068
  d = (ln1p_placed y F above under).left

  -- 1 + a is exact: 64 + j steps
  steps : (U G j : ℕ) → U ≡ 64 * G → U + j * G ≡ (64 + j) * G
  steps U G j e = omega arith

  few : (j : ℕ) → j < 65 → 64 + j < 9007199254740992
  few j h = omega arith

  divisor : Is (one ⊕ cut grid64 y) (2 ^ 1074 + a)
  divisor = add_exact one (cut grid64 y) (2 ^ 1074) a (64 + j) 1068 one_is (ln1p_placed y F above under).is (steps (2 ^ 1074) (2 ^ 1068) j refl) (few j (ln1p_index y F above under)) (lit≤ tt)

  wide : (U a d G : ℕ) → d ≤ G → d * U ≤ (U + a) * G
  wide U a d G h = omega (arith, mul-le-mul_right U h)

  more : (U a : ℕ) → 0 < U → 0 < U + a
  more U a h = omega arith

  r : Rounded (rest grid64 y ⊘ (one ⊕ cut grid64 y)) (d.v * 2 ^ 1074) (2 ^ 1074 + a) 1068
  r = div_near (rest grid64 y) (one ⊕ cut grid64 y) d.v (2 ^ 1074 + a) 1068 d.is divisor (more (2 ^ 1074) a (pow_pos 1074)) (lit< tt) (wide (2 ^ 1074) a d.v (2 ^ 1068) d.top)

  q : Fall (ln_fall (rest grid64 y ⊘ (one ⊕ cut grid64 y))) r.v
  q = ln_fall_near (rest grid64 y ⊘ (one ⊕ cut grid64 y)) r.v (div-fits binary64 (rest grid64 y) (one ⊕ cut grid64 y)) r.is r.top

  L : Log (entry logs j) a
  L = log_entry j (ln1p_index y F above under)

  z : Whole (ln1p_unit y) (L.v + q.v) 1075
  z = add_near (entry logs j) (ln_fall (rest grid64 y ⊘ (one ⊕ cut grid64 y))) L.v q.v 1075 L.is q.is (lit< tt) (sum_top L.v q.v (le_trans L.top (le_trans o υ_top)) q.top (lit≤ tt))

  pub ln1p_unit_near : Ln1pNear y (ln1p_unit y)
  ln1p_unit_near =
      let U = 2 ^ 1074 in
      let E = 2 ^ 1023 in
      let E' = 2 ^ 1023 + 2 ^ 1017 in
      let e = 2 ^ 1016 in
      let x = ln1p_unit y in
      let aU : a ≤ U = le_trans o υ_top in
      let H = comp_high U E E' e υ a d.v r.v q.v L.v z.v (pow_pos 1074) aU r.above o d.above q.high L.top z.above in
      let M = comp_low U E E' e υ a d.v r.v q.v L.v z.v (pow_pos 1074) aU r.above (lit≤ tt) (le_trans d.top (lit≤ tt)) r.under q.low L.low z.under in
      let N = comp_y U (E + E' + e * 7) e (a + d.v) υ z.v (lit≤ tt) υ_top (up_to d.v υ a e o d.above) (down_to d.v υ a e o d.under) M in
      record {
        sign = plain_is x z.v z.is;
        high = ln1p_high U (e * 4 + E) (2 ^ 40) z.v υ (num x) (den x) (num y) (den y) (pow_pos 1074) (cross x z.v z.is) (cross y υ (ln1p_digits y F above under).is) (lit≤ tt) H;
        low = ln1p_low U (E + E' + e * 7 + e * 4) (2 ^ 40) z.v υ (num x) (den x) (num y) (den y) (pow_pos 1074) (cross x z.v z.is) (cross y υ (ln1p_digits y F above under).is) (lit≤ tt) N;
      }
