-- -ln x from 1/2 to 1: the table's entry for 1 - a, plus the polynomial at s = d / (1 - a), where 1 - x = a + d. Assumes nothing.
use mathlib.Core.Path.{◌≡◌, refl, ap, ◌∙◌, subst}
use Prim.Native.Nat.{ℕ, ◌+◌, ◌-◌, ◌*◌, ◌^◌, ◌≤◌, ◌<◌}
use native.Mathlib.Nat.{le_trans, lt_of_lt_of_le, mul-le-mul_left, mul-le-mul_right, le_of_mul-le-mul_right, sub-le}
use native.Mathlib.Omega.{arith}
use lib.Dec.{T, lit≤, lit<}
use lib.Pow.{pow_pos}
use lib.Ieee.{Float, binary64, fits, le}
use lib.Ieee.Positive.{num, den}
use Rattle.rounding.specs.Units.{Is, Sized, Whole, Rounded}
use Rattle.rounding.specs.Grid.{cut, index, rest}
use Rattle.rounding.proofs.Near.{sum_top, add_near, div_near}
use Rattle.rounding.proofs.Snap.{sub_exact}
use Rattle.rounding.proofs.Placed.{taken}
use Rattle.rounding.proofs.Values.{cross}
use Rattle.tables.specs.Tables.{entry, mlogs}
use Rattle.math.specs.Steps.{zero, half, one, grid128, ln_rise, ln_half, ◌⊖◌, ◌⊘◌}
use Rattle.math.proofs.Places.{one_is, half_digits, half_units, half_top, half_low, gap, gap_units, gap_same, gap_top, half_placed, half_index}
use Rattle.bounds.specs.Bounds.{LnNear, floor}
use Rattle.bounds.proofs.Polynomials.{Rise, ln_rise_near}
use Rattle.bounds.proofs.Entries.{MinusLog, minus_log_entry}
use Rattle.bounds.proofs.Fractions.{below_one, ln_high}

-- ---- the composition: L for a, q for s = d / (1 - a), z for 1 - x = a + d, and A for 1 - a
-- E is twice the polynomial's error, F the sum's, e the quotient's, ε that of x + a + d = 1
module _ (U E F e ε x a d s q L z : ℕ) where
  comp_low : 0 < U → (A : ℕ) → A ≤ U → d * U * 2 ≤ s * A * 2 + A * e → s * 2 ≤ q * 2 + E → a ≤ L → (L + q) * 2 ≤ z * 2 + F → U ≤ x + a + d + ε → U * 2 ≤ z * 2 + x * 2 + (E + F + e + ε * 2)
  comp_low p A lA ls lq lL lz lx =
      let w : d * 2 * U ≤ (s * 2 + e) * U = omega (arith, mul-le-mul_left s lA, mul-le-mul_left e lA) in
      let v : d * 2 ≤ s * 2 + e = le_of_mul-le-mul_right w p in
      omega arith

  -- q * A, and so q * x
  module _ (A : ℕ) (p : 0 < U) (lA : A ≤ U) (ld : d ≤ U) (ls : s ≤ U) (lq : q ≤ U) (lx : x ≤ U) (lL : L ≤ U) where
    q_a : (g : ℕ) → s * A * 2 ≤ d * U * 2 + U * g → q * U * 2 ≤ s * U * 2 + s * s * 2 + U * E → q * A * 2 ≤ d * U * 2 + s * d * 2 + U * (g * 2 + E)
    q_a g hs hq =
        let w : (q * U * 2) * A ≤ (s * U * 2 + s * s * 2 + U * E) * A = mul-le-mul_right A hq in
        let u : s * (s * A * 2) ≤ s * (d * U * 2 + U * g) = mul-le-mul_left s hs in
        let v : U * (s * A * 2) ≤ U * (d * U * 2 + U * g) = mul-le-mul_left U hs in
        let t : E * A ≤ E * U = mul-le-mul_left E lA in
        let r : s * g ≤ U * g = mul-le-mul_right g ls in
        let m = lin (q * A * U) (s * A * U) (s * s * A) (s * d * U) (d * U * U) (s * g * U) (E * A * U) (U * g * U) (E * U * U) (omega (arith, w)) (omega (arith, u)) (omega (arith, v)) (omega (arith, mul-le-mul_right U t)) (omega (arith, mul-le-mul_right U r)) in
        let k : q * A * 2 * U ≤ (d * U * 2 + s * d * 2 + U * (g * 2 + E)) * U = shape (q * A * U) (d * U * U) (s * d * U) (U * g * U) (E * U * U) m (omega arith) (omega arith) (omega arith) (omega arith) (omega arith) in
        le_of_mul-le-mul_right k p
      where
        lin : (qAU sAU ssA sdU dUU sgU EAU UgU EUU : ℕ) → qAU * 2 ≤ sAU * 2 + ssA * 2 + EAU → ssA * 2 ≤ sdU * 2 + sgU → sAU * 2 ≤ dUU * 2 + UgU → EAU ≤ EUU → sgU ≤ UgU → qAU * 2 ≤ dUU * 2 + sdU * 2 + (UgU * 2 + EUU)
        lin qAU sAU ssA sdU dUU sgU EAU UgU EUU h1 h2 h3 h4 h5 = omega arith

        shape : (x1 x2 x3 x4 x5 : ℕ) → x1 * 2 ≤ x2 * 2 + x3 * 2 + (x4 * 2 + x5) → q * A * U ≡ x1 → d * U * U ≡ x2 → s * d * U ≡ x3 → U * g * U ≡ x4 → E * U * U ≡ x5 → q * A * 2 * U ≤ (d * U * 2 + s * d * 2 + U * (g * 2 + E)) * U
        shape x1 x2 x3 x4 x5 h e1 e2 e3 e4 e5 = omega arith

    qx : (g : ℕ) → x + d ≤ A + ε → s * 2 ≤ q * 2 + E → q * A * 2 ≤ d * U * 2 + s * d * 2 + U * (g * 2 + E) → q * x * 2 ≤ d * U * 2 + U * (g * 2 + E * 2 + ε * 2)
    qx g hx hs hq =
        let u : q * (x + d) ≤ q * (A + ε) = mul-le-mul_left q hx in
        let v : q * ε ≤ U * ε = mul-le-mul_right ε lq in
        let w : (s * 2) * d ≤ (q * 2 + E) * d = mul-le-mul_right d hs in
        let t : E * d ≤ E * U = mul-le-mul_left E ld in
        omega (arith, u, v, w, t)

    Lx : x + d ≤ A + ε → (L + U) * A ≤ U * U → (L + U) * x + U * d ≤ U * U + U * ε * 2
    Lx hx hL =
        let u : (L + U) * (x + d) ≤ (L + U) * (A + ε) = mul-le-mul_left (L + U) hx in
        let v : L * ε ≤ U * ε = mul-le-mul_right ε lL in
        omega (arith, u, v)

    comp_high : (g : ℕ) → q * x * 2 ≤ d * U * 2 + U * (g * 2 + E * 2 + ε * 2) → (L + U) * x + U * d ≤ U * U + U * ε * 2 → z * 2 ≤ (L + q) * 2 + F → (z + U) * x * 2 ≤ U * U * 2 + U * (g * 2 + E * 2 + ε * 6 + F)
    comp_high g hq hL hz =
        let u : (z * 2) * x ≤ ((L + q) * 2 + F) * x = mul-le-mul_right x hz in
        let v : F * x ≤ F * U = mul-le-mul_left F lx in
        omega (arith, u, v)

-- x + a + d is 1, to within ε
sum_low : (U x t a d e e' ε : ℕ) → x ≤ U → a ≤ t → (U - x) * 2 ≤ t * 2 + e → (t - a) * 2 ≤ d * 2 + e' → e + e' ≤ ε * 2 → U ≤ x + a + d + ε
sum_low U x t a d e e' ε lx la h h' l = omega arith

sum_high : (U x t a d e e' ε : ℕ) → x ≤ U → a ≤ t → a ≤ U → t * 2 ≤ (U - x) * 2 + e → d * 2 ≤ (t - a) * 2 + e' → e + e' ≤ ε * 2 → x + d ≤ U - a + ε
sum_high U x t a d e e' ε lx la lu h h' l = omega arith

-- ---- the kernel
module _ (x : Float) (F : T (fits binary64 x)) (above : T (le half x)) (under : T (le x one)) where
  abbrev ξ : ℕ
  ξ = half_units x F above under

  abbrev τ : ℕ
  τ = gap_units x F above under

  abbrev v : Float
  v = one ⊖ x

  abbrev j : ℕ
  j = index grid128 v

  abbrev a : ℕ
  a = j * 2 ^ 1067

  o : a ≤ τ
  o = (half_placed x F above under).under

  a_half : a ≤ 2 ^ 1073
  a_half = le_trans o (gap_top x F above under)

  a_top : a ≤ 2 ^ 1074
  a_top = le_trans a_half (lit≤ tt)

  d : Whole (rest grid128 v) (τ - a) 1067
  d = (half_placed x F above under).left

  -- 1 - a is exact: 128 - j steps, and at least 1/2
  steps : (U G j : ℕ) → U ≡ 128 * G → U - j * G ≡ (128 - j) * G
  steps U G j e = ap (λ (y : ℕ). y - j * G) e ∙ taken 128 G j

  few : (j : ℕ) → 128 - j < 9007199254740992
  few j = omega arith

  divisor : Is (one ⊖ cut grid128 v) (2 ^ 1074 - a)
  divisor = sub_exact one (cut grid128 v) (2 ^ 1074) a (128 - j) 1067 one_is (half_placed x F above under).is a_top (steps (2 ^ 1074) (2 ^ 1067) j refl) (few j) (lit≤ tt)

  at_least : (U h a : ℕ) → U ≡ h * 2 → a ≤ h → h ≤ U - a
  at_least U h a e l = omega arith

  A_low : 2 ^ 1073 ≤ 2 ^ 1074 - a
  A_low = at_least (2 ^ 1074) (2 ^ 1073) a refl a_half

  s : Rounded (rest grid128 v ⊘ (one ⊖ cut grid128 v)) (d.v * 2 ^ 1074) (2 ^ 1074 - a) 1068
  s = div_near (rest grid128 v) (one ⊖ cut grid128 v) d.v (2 ^ 1074 - a) 1068 d.is divisor (lt_of_lt_of_le (pow_pos 1073) A_low) (lit< tt)
      (le_trans (mul-le-mul_right (2 ^ 1074) d.top) (le_trans (lit≤ tt) (mul-le-mul_right (2 ^ 1068) A_low)))

  q : Rise (ln_rise (rest grid128 v ⊘ (one ⊖ cut grid128 v))) s.v
  q = ln_rise_near (rest grid128 v ⊘ (one ⊖ cut grid128 v)) s.v s.is s.top

  L : MinusLog (entry mlogs j) a
  L = minus_log_entry j (half_index x F above under)

  z : Whole (ln_half x) (L.v + q.v) 1075
  z = add_near (entry mlogs j) (ln_rise (rest grid128 v ⊘ (one ⊖ cut grid128 v))) L.v q.v 1075 L.is q.is (lit< tt) (sum_top L.v q.v L.top q.top (lit≤ tt))

  -- at most 2
  pub ln_half_is : Sized (ln_half x) 1075
  ln_half_is = record { v = z.v; is = z.is; top = z.top }

  v_up : τ * 2 ≤ (2 ^ 1074 - ξ) * 2 + 2 ^ 1021
  v_up = subst (λ (y : ℕ). y * 2 ≤ (2 ^ 1074 - ξ) * 2 + 2 ^ 1021) (gap_same x F above under) (gap x F above under).above

  v_down : (2 ^ 1074 - ξ) * 2 ≤ τ * 2 + 2 ^ 1021
  v_down = subst (λ (y : ℕ). (2 ^ 1074 - ξ) * 2 ≤ y * 2 + 2 ^ 1021) (gap_same x F above under) (gap x F above under).under

  -- and a little above 1
  nearly : (L q z M U e T : ℕ) → z * 2 ≤ (L + q) * 2 + e → L ≤ U → q ≤ M → (U + M) * 2 + e ≤ T * 2 → z ≤ T
  nearly L q z M U e T h l k t = omega arith

  pub ln_half_top : ln_half_is.v ≤ 2 ^ 1074 + 2 ^ 1070
  unfolding ln_half_is
  ln_half_top = nearly L.v q.v z.v (2 ^ 1069) (2 ^ 1074) (2 ^ 1023) (2 ^ 1074 + 2 ^ 1070) z.above L.top q.top (lit≤ tt)

  spread : (t w A U e : ℕ) → A ≤ U → t ≤ w + A * e → t ≤ w + U * e
  spread t w A U e l h = omega (arith, mul-le-mul_right e l)

  doubled : (U x h : ℕ) → U ≡ h * 2 → h ≤ x → U ≤ x * 2
  doubled U x h e l = omega arith

  -- for an r of that size
  pub ln_half_near : (r : Float) → num r * 2 ^ 1074 ≡ ln_half_is.v * den r → T (le floor r) × T (le r zero) → LnNear x r
  unfolding ln_half_is
  ln_half_near r size side =
      let U = 2 ^ 1074 in
      let E = 2 ^ 1018 in
      let F' = 2 ^ 1023 in
      let e = 2 ^ 1016 in
      let ε = 2 ^ 1021 in
      let A = U - a in
      let A-top = sub-le U a in
      let ξ-top = half_top x F above under in
      let lo : U ≤ ξ + a + d.v + ε = sum_low U ξ τ a d.v (2 ^ 1021) (2 ^ 1015) ε ξ-top o v_down d.under (lit≤ tt) in
      let hi : ξ + d.v ≤ A + ε = sum_high U ξ τ a d.v (2 ^ 1021) (2 ^ 1015) ε ξ-top o a_top v_up d.above (lit≤ tt) in
      let ld : d.v ≤ U = le_trans d.top (lit≤ tt) in
      let ls : s.v ≤ U = le_trans s.top (lit≤ tt) in
      let lq : q.v ≤ U = le_trans q.top (lit≤ tt) in
      let q-low : s.v * 2 ≤ q.v * 2 + E = le_trans q.low (add_le (q.v * 2) (lit≤ tt)) in
      let M = comp_low U E F' e ε ξ a d.v s.v q.v L.v z.v (pow_pos 1074) A A-top s.under q-low L.low z.under lo in
      let h1 : s.v * A * 2 ≤ d.v * U * 2 + U * e = spread (s.v * A * 2) (d.v * U * 2) A U e A-top s.above in
      let h2 = q_a U E F' e ε ξ a d.v s.v q.v L.v z.v A (pow_pos 1074) A-top ld ls lq ξ-top L.top e h1 q.high in
      let h3 = qx U E F' e ε ξ a d.v s.v q.v L.v z.v A (pow_pos 1074) A-top ld ls lq ξ-top L.top e hi q-low h2 in
      let h4 = Lx U E F' e ε ξ a d.v s.v q.v L.v z.v A (pow_pos 1074) A-top ld ls lq ξ-top L.top hi L.high in
      let h5 = comp_high U E F' e ε ξ a d.v s.v q.v L.v z.v A (pow_pos 1074) A-top ld ls lq ξ-top L.top e h3 h4 z.above in
      let x_is = cross x ξ (half_digits x F above under).is in
      record {
        sign = side;
        low = below_one U (E + F' + e + ε * 2) (2 ^ 40) z.v ξ (num r) (den r) (num x) (den x) (pow_pos 1074) size x_is (lit≤ tt) M;
        high = ln_high U (e * 2 + E * 2 + ε * 6 + F') (2 ^ 40) z.v ξ (num r) (den r) (num x) (den x) (pow_pos 1074) size x_is (le_trans (lit≤ tt) (doubled U ξ (2 ^ 1073) refl (half_low x F above under))) h5;
      }
    where
      add_le : (a : ℕ) {b c : ℕ} → b ≤ c → a + b ≤ a + c
      add_le a h = omega arith
