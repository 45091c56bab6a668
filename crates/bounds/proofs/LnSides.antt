-- ln by its branches: how large what is negated at the end is, and that no branch gives -0. Assumes nothing.
use mathlib.Core.Path.{◌≡◌, refl, subst}
use Prim.Native.Nat.{ℕ, ◌+◌, ◌-◌, ◌*◌, ◌%◌, ◌^◌, ◌≤◌, ◌<◌}
use native.Mathlib.Nat.{le_trans, le_of_eq, lt_of_le_of_lt, mul-le-mul, mul-le-mul_right, le_of_mul-le-mul_right}
use native.Mathlib.Omega.{arith}
use mathlib.Core.Bool.{Bool, true, false, cond}
use lib.Dec.{T, lit≤, lit<}
use lib.IntN.{pos}
use lib.Pow.{pow_pos}
use lib.Ieee.{Float, binary64, fits, neg, lt, le, of_bits, to_bits, of_int}
use lib.Ieee.Bits.{of_bits-fits, to_bits-lt}
use lib.Ieee.Fits.{add-fits}
use Rattle.rounding.specs.Units.{Is, Sized, Times, Minus}
use Rattle.rounding.proofs.Near.{sum_top, mul_near, add_near}
use Rattle.rounding.proofs.Casts.{int_is}
use Rattle.rounding.proofs.Minus.{minus, never_minus_zero}
use Rattle.rounding.proofs.Values.{plain_is, digits, one_number}
use Rattle.math.specs.Steps.{zero, half, one, ln2, lit, smallest, scale, field, significand, ln_half, ln_down, ln_below, ln_above, ◌⊖◌, ◌⊗◌}
use Rattle.math.proofs.Places.{zero_is}
use Rattle.math.proofs.Halves.{significand_half, significand_one, scaled_least}
use Rattle.laws.proofs.Choices.{no}
use Rattle.bounds.proofs.LnKernel.{ln_half_is, ln_half_top}
use Rattle.bounds.specs.Bounds.{floor}

ln2_is : Is ln2 (0x16_2e42_fefa_39ef * 2 ^ 1021)
unfolding of_bits
ln2_is = (refl, refl)

-- ---- the parts
significand_fits : (b : ℕ) → T (fits binary64 (significand b))
significand_fits b = of_bits-fits binary64 (b % 0x10_0000_0000_0000 + 0x3fe0_0000_0000_0000)

significand_is : (b : ℕ) → Sized (ln_half (significand b)) 1075
significand_is b = ln_half_is (significand b) (significand_fits b) (significand_half b) (significand_one b)

-- a whole number of ln 2
whole : (k : ℕ) → k ≤ 4096 → Times (of_int binary64 (pos k) ⊗ ln2) (k * 2 ^ 1074) (0x16_2e42_fefa_39ef * 2 ^ 1021) 1086
whole k l = mul_near (of_int binary64 (pos k)) ln2 (k * 2 ^ 1074) (0x16_2e42_fefa_39ef * 2 ^ 1021) 1086 (int_is k (few k l)) ln2_is (lit< tt) (le_trans (mul-le-mul {n₂ = 4096 * 2 ^ 1074} {m₂ = 2 ^ 1074} (mul-le-mul_right (2 ^ 1074) l) (lit≤ tt)) (lit≤ tt))
  where
    few : (k : ℕ) → k ≤ 4096 → k < 9007199254740992
    few k h = omega arith

-- at most 1,073 times ln 2, and a little above 1: at most 745 in all
pub record Down (z : Float) : Type 0 where
  pub v : ℕ
  pub is : Is z v
  pub top : v ≤ 745 * 2 ^ 1074

multiple : (U k w c e E : ℕ) → 0 < U → w * U * 2 ≤ k * U * c * 2 + U * e → k * c * 2 + e ≤ E → w * 2 ≤ E
multiple U k w c e E p h l = le_trans (le_of_mul-le-mul_right (go U k w c e h) p) l
  where
    go : (U k w c e : ℕ) → w * U * 2 ≤ k * U * c * 2 + U * e → w * 2 * U ≤ (k * c * 2 + e) * U
    go U k w c e h = omega arith

in_all : (w h z e W H T : ℕ) → z * 2 ≤ (w + h) * 2 + e → w * 2 ≤ W → h ≤ H → W + H * 2 + e ≤ T * 2 → z ≤ T
in_all w h z e W H T a b c d = omega arith

pub down_is : (b n : ℕ) → n - field b ≤ 1073 → Down (ln_down b n)
unfolding significand_is
down_is b n l =
    let k = n - field b in
    let c = 0x16_2e42_fefa_39ef * 2 ^ 1021 in
    let w = whole k (le_trans l (lit≤ tt)) in
    let h = significand_is b in
    let a = add_near (of_int binary64 (pos k) ⊗ ln2) (ln_half (significand b)) w.v h.v 1087 w.is h.is (lit< tt) (sum_top w.v h.v w.top h.top (lit≤ tt)) in
    let W = 1073 * c * 2 + 2 ^ 1034 in
    let m : w.v * 2 ≤ W = multiple (2 ^ 1074) k w.v c (2 ^ 1034) W (pow_pos 1074) w.above (grow (mul-le-mul_right 2 (mul-le-mul_right c l)) (2 ^ 1034)) in
    record { v = a.v; is = a.is; top = in_all w.v h.v a.v (2 ^ 1035) W (2 ^ 1074 + 2 ^ 1070) (745 * 2 ^ 1074) a.above m (ln_half_top (significand b) (significand_fits b) (significand_half b) (significand_one b)) (lit≤ tt) }
  where
    grow : {x y : ℕ} → x ≤ y → (e : ℕ) → x + e ≤ y + e
    grow h e = omega arith

-- ---- 0 - z, for a z that fits
pub minus_is : (z : Float) (v : ℕ) → T (fits binary64 z) → Is z v → v < 2 ^ 2098 → Minus (zero ⊖ z) v
unfolding of_bits
minus_is z v F i l =
    let g = digits z F (plain_is z v i) in
    let e : g.m * 2 ^ g.s ≡ v = one_number z (g.m * 2 ^ g.s) v g.is i in
    subst (λ (n : ℕ). Minus (zero ⊖ z) n) e (minus z g (lt_of_le_of_lt (le_of_eq e) l))

abbrev pub Side : Float → Type 0
Side r = T (le floor r) × T (le r zero)

pub minus_side : (r : Float) (v : ℕ) → Minus r v → v ≤ 745 * 2 ^ 1074 → Side r
unfolding of_bits neg
minus_side r v m l = (m.above l, m.below)

-- ---- below 1/2
down_side : (b n : ℕ) → n - field b ≤ 1073 → Side (zero ⊖ ln_down b n)
down_side b n l =
    let s = down_is b n l in
    minus_side (zero ⊖ ln_down b n) s.v (minus_is (ln_down b n) s.v (add-fits binary64 (of_int binary64 (pos (n - field b)) ⊗ ln2) (ln_half (significand b))) s.is (lt_of_le_of_lt s.top (lit< tt))) s.top

-- never -0
abbrev pub Sound : Float → Type 0
Sound r = r ≡ lit 0x8000_0000_0000_0000 → ⊥

difference_sound : (x y : Float) (a b : ℕ) → Is x a → Is y b → Sound (x ⊖ y)
unfolding of_bits
difference_sound x y a b p q e = never_minus_zero x y a b p q e

down_sound : (b n : ℕ) → n - field b ≤ 1073 → Sound (zero ⊖ ln_down b n)
down_sound b n l = let s = down_is b n l in difference_sound zero (ln_down b n) 0 s.v zero_is s.is

-- how many times ln 2 is taken
normal_few : (f : ℕ) → 1022 - f ≤ 1073
normal_few f = omega arith

scaled_few : (f : ℕ) → 2 < f → 1076 - f ≤ 1073
scaled_few f h = omega arith

module _ (x : Float) (F : T (fits binary64 x)) (above : T (lt zero x)) (under : T (lt x half)) where
  -- what holds of both branches holds of ln x
  both : (P : Float → Type 0) → ((b n : ℕ) → n - field b ≤ 1073 → P (zero ⊖ ln_down b n)) → P (ln_below x)
  both P h = go (le smallest x) refl
    where
      go : (t : Bool) → le smallest x ≡ t → P (cond t (zero ⊖ ln_down (to_bits binary64 x) 1022) (zero ⊖ ln_down (to_bits binary64 (x ⊗ scale)) 1076))
      go true e = h (to_bits binary64 x) 1022 (normal_few (field (to_bits binary64 x)))
      go false e = h (to_bits binary64 (x ⊗ scale)) 1076 (scaled_few (field (to_bits binary64 (x ⊗ scale))) (scaled_least x F above under (no e)))

  pub below_side : Side (ln_below x)
  below_side = both Side down_side

  pub below_sound : Sound (ln_below x)
  below_sound = both Sound down_sound

-- ---- from 1/2 up
pub half_sound : (x : Float) → T (fits binary64 x) → T (le half x) → T (le x one) → Sound (zero ⊖ ln_half x)
half_sound x F a u = let s = ln_half_is x F a u in difference_sound zero (ln_half x) 0 s.v zero_is s.is

pub above_sound : (x : Float) → T (fits binary64 x) → Sound (ln_above x)
above_sound x F =
    let b = to_bits binary64 x in
    let w = whole (field b - 1022) (less b (to_bits-lt binary64 x F)) in
    let h = significand_is b in
    difference_sound (of_int binary64 (pos (field b - 1022)) ⊗ ln2) (ln_half (significand b)) w.v h.v w.is h.is
  where
    less : (b : ℕ) → b < 18446744073709551616 → field b - 1022 ≤ 4096
    less b h = omega arith
