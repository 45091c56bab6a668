-- How near the polynomials lie to the first terms of their series, in units. Assumes nothing.
use mathlib.Core.Path.{◌≡◌, refl, ap}
use Prim.Native.Nat.{ℕ, ◌+◌, ◌-◌, ◌*◌, ◌^◌, ◌≤◌, ◌<◌}
use native.Mathlib.Nat.{le_refl, le_trans, le_of_eq, lt_of_le_of_lt, mul-le-mul_left, mul-le-mul_right, mul-le-mul, le_of_mul-le-mul_right}
use native.Mathlib.Omega.{arith}
use lib.Dec.{T, lit≤, lit<}
use lib.Pow.{pow_pos}
use lib.Ieee.{Float, binary64, fits, of_bits}
use lib.Ieee.Fits.{mul-fits}
use Rattle.rounding.specs.Units.{Is}
use Rattle.rounding.proofs.Near.{sum_top, mul_near, add_near, sub_near, mul_no_more}
use Rattle.rounding.proofs.Values.{plain_is, digits, one_number}
use Rattle.math.specs.Steps.{half, one, third, quarter, fifth, sixth, part24, part120, fall, exp_poly, ln_fall, ln_rise, ◌⊕◌, ◌⊖◌, ◌⊗◌}
use Rattle.math.proofs.Places.{half_is, one_is}

-- ---- the constants
third_is : Is third (0x15_5555_5555_5555 * 2 ^ 1020)
unfolding of_bits
third_is = (refl, refl)

quarter_is : Is quarter (2 ^ 1072)
unfolding of_bits
quarter_is = (refl, refl)

fifth_is : Is fifth (0x19_9999_9999_999a * 2 ^ 1019)
unfolding of_bits
fifth_is = (refl, refl)

sixth_is : Is sixth (0x15_5555_5555_5555 * 2 ^ 1019)
unfolding of_bits
sixth_is = (refl, refl)

part24_is : Is part24 (0x15_5555_5555_5555 * 2 ^ 1017)
unfolding of_bits
part24_is = (refl, refl)

part120_is : Is part120 (0x11_1111_1111_1111 * 2 ^ 1015)
unfolding of_bits
part120_is = (refl, refl)

-- ---- a product of at most 2 ^ B units, by its factors' tops
product : (a b A B C : ℕ) → a ≤ 2 ^ A → b ≤ 2 ^ B → 2 ^ A * 2 ^ B ≤ 2 ^ 1074 * 2 ^ C → a * b ≤ 2 ^ 1074 * 2 ^ C
product a b A B C h k l = le_trans (mul-le-mul h k) l

-- ---- f - f² q, with q = 1/2 - c f + w f²: from f - f² / 2 to f
pub record Fall (z : Float) (a : ℕ) : Type 0 where
  pub v : ℕ
  pub is : Is z v
  pub top : v ≤ 2 ^ 1068
  pub high : v * 2 ≤ a * 2 + 2 ^ 1016
  pub low : a * 2 ^ 1074 * 2 ≤ v * 2 ^ 1074 * 2 + a * a + 2 ^ 1074 * (2 ^ 1023 + 2 ^ 1017)

-- s = f² is at most f / 64, and c f at least f / 8, so that q is at most 1/2. G is 1 / 64, g is 1 / 8 and h is 1 / 2
module _ (U G g h a b w s m z e : ℕ) (U_pos : 0 < U) where
  square_small : U ≡ G * 64 → a ≤ G → s * U * 2 ≤ a * a * 2 + U * e → s * 64 ≤ a + e * 32
  square_small eG la hs =
      let x : a * a ≤ a * G = mul-le-mul_left a la in
      let y : a * U ≡ a * (G * 64) = ap (λ (n : ℕ). a * n) eG in
      let k : s * 64 * U ≤ (a + e * 32) * U = omega (arith, x, y) in
      le_of_mul-le-mul_right k U_pos

  times_large : U ≡ g * 8 → g ≤ b → a * b * 2 ≤ m * U * 2 + U * e → a ≤ m * 8 + e * 4
  times_large eg lb hm =
      let x : a * g ≤ a * b = mul-le-mul_left a lb in
      let y : a * U ≡ a * (g * 8) = ap (λ (n : ℕ). a * n) eg in
      let k : a * U ≤ (m * 8 + e * 4) * U = omega (arith, x, y) in
      le_of_mul-le-mul_right k U_pos

  far_small : U ≡ h * 2 → w ≤ h → z * U * 2 ≤ s * w * 2 + U * e → z * 2 ≤ s + e
  far_small eh lw hz =
      let x : s * w ≤ s * h = mul-le-mul_left s lw in
      let y : s * U ≡ s * (h * 2) = ap (λ (n : ℕ). s * n) eh in
      let k : z * 2 * U ≤ (s + e) * U = omega (arith, x, y) in
      le_of_mul-le-mul_right k U_pos

far_under : (a s m z e e' e'' E : ℕ) → s * 64 ≤ a + e * 32 → a ≤ m * 8 + e' * 4 → z * 2 ≤ s + e'' → e * 32 + e' * 4 + e'' * 64 ≤ E * 64 → z * 2 ≤ m * 2 + E
far_under a s m z e e' e'' E h k l j = omega arith

at_most_half : (U h m α z q e e' e'' E : ℕ) → U ≡ h * 2 → m ≤ h → α * 2 ≤ (h - m) * 2 + e → z * 2 ≤ m * 2 + e' → q * 2 ≤ (α + z) * 2 + e'' → e + e' + e'' ≤ E → q * 2 ≤ U + E
at_most_half U h m α z q e e' e'' E u l i j k s = omega arith

fall_low : (U E e e' e'' a s q k v S : ℕ) → s ≤ U → s * U * 2 ≤ a * a * 2 + U * e → q * 2 ≤ U + E → k * U * 2 ≤ s * q * 2 + U * e' → k ≤ a → (a - k) * 2 ≤ v * 2 + e'' → E + e + e' + e'' ≤ S → a * U * 2 ≤ v * U * 2 + a * a + U * S
fall_low U E e e' e'' a s q k v S ls hs hq hk o hv t =
    let x : s * (q * 2) ≤ s * (U + E) = mul-le-mul_left s hq in
    let y : s * E ≤ U * E = mul-le-mul_right E ls in
    let w : a * 2 ≤ v * 2 + k * 2 + e'' = omega arith in
    let m : a * 2 * U ≤ (v * 2 + k * 2 + e'') * U = mul-le-mul_right U w in
    let n : (E + e + e' + e'') * U ≤ S * U = mul-le-mul_right U t in
    omega (arith, x, y, m, n)

less : (a k e v : ℕ) → v * 2 ≤ (a - k) * 2 + e → v * 2 ≤ a * 2 + e
less a k e v h = omega arith

under : (a k n : ℕ) → a ≤ n → a - k ≤ n
under a k n h = omega arith

pub fall_near : (f c w : Float) (a b ω : ℕ) → T (fits binary64 f) → Is f a → Is c b → Is w ω → a ≤ 2 ^ 1068 → 2 ^ 1071 ≤ b → b ≤ 2 ^ 1073 → ω ≤ 2 ^ 1073 → Fall (fall f c w) a
fall_near f c w a b ω F if ic iw la gb lb lw =
    let U = 2 ^ 1074 in
    let s = mul_near f f a a 1062 if if (lit< tt) (product a a 1068 1068 1062 la la (lit≤ tt)) in
    let m = mul_near f c a b 1067 if ic (lit< tt) (product a b 1068 1073 1067 la lb (lit≤ tt)) in
    let m-small : m.v ≤ 2 ^ 1073 = le_trans m.top (lit≤ tt) in
    let α = sub_near half (f ⊗ c) (2 ^ 1073) m.v 1073 half_is m.is m-small (lit< tt) (under (2 ^ 1073) m.v (2 ^ 1073) (le_refl (2 ^ 1073))) in
    let z = mul_near (f ⊗ f) w s.v ω 1061 s.is iw (lit< tt) (product s.v ω 1062 1073 1061 s.top lw (lit≤ tt)) in
    let q = add_near (half ⊖ f ⊗ c) (f ⊗ f ⊗ w) α.v z.v 1074 α.is z.is (lit< tt) (sum_top α.v z.v α.top z.top (lit≤ tt)) in
    let Q = (half ⊖ f ⊗ c) ⊕ f ⊗ f ⊗ w in
    let k = mul_near (f ⊗ f) Q s.v q.v 1062 s.is q.is (lit< tt) (product s.v q.v 1062 1074 1062 s.top q.top (lit≤ tt)) in
    let gf = digits f F (plain_is f a if) in
    let ef : gf.m * 2 ^ gf.s ≡ a = one_number f (gf.m * 2 ^ gf.s) a gf.is if in
    let gs = digits (f ⊗ f) (mul-fits binary64 f f) (plain_is (f ⊗ f) s.v s.is) in
    let es : gs.m * 2 ^ gs.s ≡ s.v = one_number (f ⊗ f) (gs.m * 2 ^ gs.s) s.v gs.is s.is in
    let s-a : s.v ≤ a = le_trans {n = s.v} (mul_no_more f f gf a s.v (lt_of_le_of_lt (le_of_eq ef) (lt_of_le_of_lt la (lit< tt))) if (le_trans la (lit≤ tt)) s.is) (le_of_eq ef) in
    let k-s : k.v ≤ s.v = le_trans {n = k.v} (mul_no_more (f ⊗ f) Q gs q.v k.v (lt_of_le_of_lt (le_of_eq es) (lt_of_le_of_lt s.top (lit< tt))) q.is q.top k.is) (le_of_eq es) in
    let k-a : k.v ≤ a = le_trans {n = k.v} k-s s-a in
    let r = sub_near f (f ⊗ f ⊗ Q) a k.v 1068 if k.is k-a (lit< tt) (under a k.v (2 ^ 1068) la) in
    let z-m : z.v * 2 ≤ m.v * 2 + 2 ^ 1013 =
    far_under a s.v m.v z.v (2 ^ 1010) (2 ^ 1015) (2 ^ 1009) (2 ^ 1013)
    (square_small U (2 ^ 1068) (2 ^ 1071) (2 ^ 1073) a b ω s.v m.v z.v (2 ^ 1010) (pow_pos 1074) refl la s.above)
    (times_large U (2 ^ 1068) (2 ^ 1071) (2 ^ 1073) a b ω s.v m.v z.v (2 ^ 1015) (pow_pos 1074) refl gb m.under)
    (far_small U (2 ^ 1068) (2 ^ 1071) (2 ^ 1073) a b ω s.v m.v z.v (2 ^ 1009) (pow_pos 1074) refl lw z.above) (lit≤ tt) in
    let q-half : q.v * 2 ≤ U + 2 ^ 1023 = at_most_half U (2 ^ 1073) m.v α.v z.v q.v (2 ^ 1021) (2 ^ 1013) (2 ^ 1022) (2 ^ 1023) refl m-small α.above z-m q.above (lit≤ tt) in
    record {
      v = r.v;
      is = r.is;
      top = r.top;
      high = less a k.v (2 ^ 1016) r.v r.above;
      low = fall_low U (2 ^ 1023) (2 ^ 1010) (2 ^ 1010) (2 ^ 1016) a s.v q.v k.v r.v (2 ^ 1023 + 2 ^ 1017) (le_trans s.top (lit≤ tt)) s.above q-half k.above k-a r.under (lit≤ tt);
    }

-- ---- exp: from 1 - f to 1 - f + f² / 2
pub record Poly (z : Float) (a : ℕ) : Type 0 where
  pub v : ℕ
  pub is : Is z v
  pub top : v ≤ 2 ^ 1074
  pub low : 2 ^ 1074 * 2 ≤ v * 2 + a * 2 + 2 ^ 1023
  pub high : v * 2 ^ 1074 * 2 + a * 2 ^ 1074 * 2 ≤ 2 ^ 1074 * 2 ^ 1074 * 2 + a * a + 2 ^ 1074 * 2 ^ 1023 * 2

poly_low : (U a g v e e' E : ℕ) → g ≤ U → (U - g) * 2 ≤ v * 2 + e → g * 2 ≤ a * 2 + e' → e + e' ≤ E → U * 2 ≤ v * 2 + a * 2 + E
poly_low U a g v e e' E o h k l = omega arith

poly_high : (U a g v e e' E : ℕ) → g ≤ U → v * 2 ≤ (U - g) * 2 + e → a * U * 2 ≤ g * U * 2 + a * a + U * e' → e + e' ≤ E * 2 → v * U * 2 + a * U * 2 ≤ U * U * 2 + a * a + U * E * 2
poly_high U a g v e e' E o h k l =
    let j : v * 2 + g * 2 ≤ U * 2 + e = omega arith in
    omega (arith, mul-le-mul_right U j, mul-le-mul_right U l)

pub exp_poly_near : (f : Float) (a : ℕ) → T (fits binary64 f) → Is f a → a ≤ 2 ^ 1068 → Poly (exp_poly f) a
exp_poly_near f a F i l =
    let U = 2 ^ 1074 in
    let m = mul_near f part120 a (0x11_1111_1111_1111 * 2 ^ 1015) 1062 i part120_is (lit< tt) (product a (0x11_1111_1111_1111 * 2 ^ 1015) 1068 1068 1062 l (lit≤ tt) (lit≤ tt)) in
    let w = sub_near part24 (f ⊗ part120) (0x15_5555_5555_5555 * 2 ^ 1017) m.v 1070 part24_is m.is (le_trans m.top (lit≤ tt)) (lit< tt) (under (0x15_5555_5555_5555 * 2 ^ 1017) m.v (2 ^ 1070) (lit≤ tt)) in
    let g = fall_near f sixth (part24 ⊖ f ⊗ part120) a (0x15_5555_5555_5555 * 2 ^ 1019) w.v F i sixth_is w.is l (lit≤ tt) (lit≤ tt) (le_trans w.top (lit≤ tt)) in
    let o : g.v ≤ U = le_trans g.top (lit≤ tt) in
    let p = sub_near one (fall f sixth (part24 ⊖ f ⊗ part120)) U g.v 1074 one_is g.is o (lit< tt) (under U g.v U (le_refl U)) in
    record {
      v = p.v;
      is = p.is;
      top = p.top;
      low = poly_low U a g.v p.v (2 ^ 1022) (2 ^ 1016) (2 ^ 1023) o p.under g.high (lit≤ tt);
      high = poly_high U a g.v p.v (2 ^ 1022) (2 ^ 1023 + 2 ^ 1017) (2 ^ 1023) o p.above g.low (lit≤ tt);
    }

-- ---- ln_1p: from r - r² / 2 to r
pub ln_fall_near : (r : Float) (a : ℕ) → T (fits binary64 r) → Is r a → a ≤ 2 ^ 1068 → Fall (ln_fall r) a
ln_fall_near r a F i l =
    let m = mul_near r fifth a (0x19_9999_9999_999a * 2 ^ 1019) 1068 i fifth_is (lit< tt) (product a (0x19_9999_9999_999a * 2 ^ 1019) 1068 1072 1068 l (lit≤ tt) (lit≤ tt)) in
    let x = sub_near quarter (r ⊗ fifth) (2 ^ 1072) m.v 1072 quarter_is m.is (le_trans m.top (lit≤ tt)) (lit< tt) (under (2 ^ 1072) m.v (2 ^ 1072) (le_refl (2 ^ 1072))) in
    let s = mul_near r r a a 1062 i i (lit< tt) (product a a 1068 1068 1062 l l (lit≤ tt)) in
    let y = mul_near (r ⊗ r) sixth s.v (0x15_5555_5555_5555 * 2 ^ 1019) 1062 s.is sixth_is (lit< tt) (product s.v (0x15_5555_5555_5555 * 2 ^ 1019) 1062 1072 1062 s.top (lit≤ tt) (lit≤ tt)) in
    let w = add_near (quarter ⊖ r ⊗ fifth) (r ⊗ r ⊗ sixth) x.v y.v 1073 x.is y.is (lit< tt) (sum_top x.v y.v x.top y.top (lit≤ tt)) in
    fall_near r third ((quarter ⊖ r ⊗ fifth) ⊕ r ⊗ r ⊗ sixth) a (0x15_5555_5555_5555 * 2 ^ 1020) w.v F i third_is w.is l (lit≤ tt) (lit≤ tt) w.top

-- ---- -ln (1 - s): from s to s + s²
pub record Rise (z : Float) (a : ℕ) : Type 0 where
  pub v : ℕ
  pub is : Is z v
  pub top : v ≤ 2 ^ 1069
  pub low : a * 2 ≤ v * 2 + 2 ^ 1017
  pub high : v * 2 ^ 1074 * 2 ≤ a * 2 ^ 1074 * 2 + a * a * 2 + 2 ^ 1074 * 2 ^ 1018

two_sums : (k m x z q e e' M Z U : ℕ) → x * 2 ≤ (k + m) * 2 + e → q * 2 ≤ (x + z) * 2 + e' → m ≤ M → z ≤ Z → (k + M + Z) * 2 + e + e' ≤ U * 2 → q ≤ U
two_sums k m x z q e e' M Z U h j l i u = omega arith

rise_low : (a k v e : ℕ) → (a + k) * 2 ≤ v * 2 + e → a * 2 ≤ v * 2 + e
rise_low a k v e h = omega arith

rise_high : (U a s q k v e e' e'' E : ℕ) → q ≤ U → s * U * 2 ≤ a * a * 2 + U * e → k * U * 2 ≤ s * q * 2 + U * e' → v * 2 ≤ (a + k) * 2 + e'' → e + e' + e'' ≤ E → v * U * 2 ≤ a * U * 2 + a * a * 2 + U * E
rise_high U a s q k v e e' e'' E l hs hk hv t =
    let x : s * q ≤ s * U = mul-le-mul_left s l in
    omega (arith, x, mul-le-mul_right U hv, mul-le-mul_right U t)

pub ln_rise_near : (s : Float) (a : ℕ) → Is s a → a ≤ 2 ^ 1068 → Rise (ln_rise s) a
ln_rise_near s a i l =
    let U = 2 ^ 1074 in
    let q = mul_near s s a a 1062 i i (lit< tt) (product a a 1068 1068 1062 l l (lit≤ tt)) in
    let m = mul_near s fifth a (0x19_9999_9999_999a * 2 ^ 1019) 1068 i fifth_is (lit< tt) (product a (0x19_9999_9999_999a * 2 ^ 1019) 1068 1072 1068 l (lit≤ tt) (lit≤ tt)) in
    let x = add_near quarter (s ⊗ fifth) (2 ^ 1072) m.v 1073 quarter_is m.is (lit< tt) (sum_top (2 ^ 1072) m.v (le_refl (2 ^ 1072)) m.top (lit≤ tt)) in
    let y = mul_near (s ⊗ s) sixth q.v (0x15_5555_5555_5555 * 2 ^ 1019) 1062 q.is sixth_is (lit< tt) (product q.v (0x15_5555_5555_5555 * 2 ^ 1019) 1062 1072 1062 q.top (lit≤ tt) (lit≤ tt)) in
    let W = (quarter ⊕ s ⊗ fifth) ⊕ s ⊗ s ⊗ sixth in
    let w = add_near (quarter ⊕ s ⊗ fifth) (s ⊗ s ⊗ sixth) x.v y.v 1074 x.is y.is (lit< tt) (sum_top x.v y.v x.top y.top (lit≤ tt)) in
    let m' = mul_near s third a (0x15_5555_5555_5555 * 2 ^ 1020) 1068 i third_is (lit< tt) (product a (0x15_5555_5555_5555 * 2 ^ 1020) 1068 1073 1068 l (lit≤ tt) (lit≤ tt)) in
    let x' = add_near half (s ⊗ third) (2 ^ 1073) m'.v 1074 half_is m'.is (lit< tt) (sum_top (2 ^ 1073) m'.v (le_refl (2 ^ 1073)) m'.top (lit≤ tt)) in
    let z = mul_near (s ⊗ s) W q.v w.v 1062 q.is w.is (lit< tt) (product q.v w.v 1062 1074 1062 q.top w.top (lit≤ tt)) in
    let Q = (half ⊕ s ⊗ third) ⊕ s ⊗ s ⊗ W in
    let t = add_near (half ⊕ s ⊗ third) (s ⊗ s ⊗ W) x'.v z.v 1075 x'.is z.is (lit< tt) (sum_top x'.v z.v x'.top z.top (lit≤ tt)) in
    let t-top : t.v ≤ U = two_sums (2 ^ 1073) m'.v x'.v z.v t.v (2 ^ 1022) (2 ^ 1023) (2 ^ 1068) (2 ^ 1062) U x'.above t.above m'.top z.top (lit≤ tt) in
    let k = mul_near (s ⊗ s) Q q.v t.v 1062 q.is t.is (lit< tt) (product q.v t.v 1062 1074 1062 q.top t-top (lit≤ tt)) in
    let r = add_near s (s ⊗ s ⊗ Q) a k.v 1069 i k.is (lit< tt) (sum_top a k.v l k.top (lit≤ tt)) in
    record {
      v = r.v;
      is = r.is;
      top = r.top;
      low = rise_low a k.v r.v (2 ^ 1017) r.under;
      high = rise_high U a q.v t.v k.v r.v (2 ^ 1010) (2 ^ 1010) (2 ^ 1017) (2 ^ 1018) t-top q.above k.above r.above (lit≤ tt);
    }
