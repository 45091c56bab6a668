-- Floats from +0 on are ordered as their bit patterns are. Assumes nothing.
use mathlib.Core.Path.{◌≡◌, refl, sym, ap, ap₂, ◌∙◌, subst}
use mathlib.Core.Bool.{Bool, true, false, ◌&&◌}
use Prim.Native.Nat.{ℕ, zero, suc, ◌+◌, ◌-◌, ◌*◌, ◌/◌, ◌%◌, ◌^◌, ◌≤◌, ◌<◌}
use native.Mathlib.Nat.{lt_irrefl, zero-mul, mul-pos, le_trans, le_of_eq, le_of_lt, lt_of_lt_of_le, lt_of_le_of_lt, mul_assoc, mul_right_comm, mul-lt-mul_of_pos_right, lt_of_mul-lt-mul_right, mul-div_cancel, le-div_iff_mul-le}
use native.Mathlib.Decide.{dec_lt}
use native.Mathlib.Omega.{arith}
use lib.IntN.{ℤ}
use lib.Dec.{T, eqb, leb, ltb, ltb→lt, lt→ltb}
use lib.Pow.{pow-add, pow_pos}
use lib.Ieee.{Float, nan, inf, fin, binary64, up, down, size, fits, lt, to_bits}
use lib.Ieee.Digits.{size-lt, size-le, size_reaches, back}
use lib.Ieee.Fits.{down_pos, kept-lt, and_r}
use Rattle.rounding.specs.Units.{Is}
use Rattle.rounding.proofs.Values.{digits, lt_units}
use Rattle.losses.specs.Order.{from_nought}

-- ---- the pattern of v units: as many digits as are dropped in the field, and the 53 that are kept
abbrev dropped : ℕ → ℕ
dropped v = size v - 53

abbrev pattern : ℕ → ℕ
pattern v = dropped v * 4503599627370496 + v / 2 ^ dropped v

pattern_is : (m : ℕ) (e : ℤ) (v : ℕ) → Is (fin false m e) v → to_bits binary64 (fin false m e) ≡ pattern v
unfolding to_bits
pattern_is m e v i =
    let n : m * up e * 2 ^ 1074 / down e ≡ v = ap (λ (z : ℕ). z / down e) i.1 ∙ mul-div_cancel v (down_pos e) in
    ap (λ (z : ℕ). 0 + (size z - 53) * 4503599627370496 + z / 2 ^ (size z - 53)) n ∙ none ((size v - 53) * 4503599627370496) (v / 2 ^ (size v - 53))
  where
    none : (a b : ℕ) → 0 + a + b ≡ a + b
    none a b = omega arith

-- a value that fits has no digit among the dropped ones
nothing_lost : (m s v : ℕ) → m < 2 ^ 53 → v ≡ m * 2 ^ s → v / 2 ^ dropped v * 2 ^ dropped v ≡ v
nothing_lost m s v few e =
    let top : v < 2 ^ (53 + s) = lt_of_le_of_lt (le_of_eq e) (lt_of_lt_of_le (mul-lt-mul_of_pos_right few (pow_pos s)) (le_of_eq (sym (pow-add 2 53 s)))) in
    let d = dropped v in
    let h : d ≤ s = fewer (size v) (size-le v (53 + s) top) in
    let w : v ≡ m * 2 ^ (s - d) * 2 ^ d = e ∙ ap (λ (z : ℕ). m * 2 ^ z) (sym (back s d h)) ∙ ap (λ (z : ℕ). m * z) (pow-add 2 (s - d) d) ∙ sym (mul_assoc m (2 ^ (s - d)) (2 ^ d)) in
    ap (λ (z : ℕ). z / 2 ^ d * 2 ^ d) w ∙ ap (λ (z : ℕ). z * 2 ^ d) (mul-div_cancel (m * 2 ^ (s - d)) (pow_pos d)) ∙ sym w
  where
    fewer : (n : ℕ) → n ≤ 53 + s → n - 53 ≤ s
    fewer n l = omega arith

module _ (v w : ℕ) (lost-v : v / 2 ^ dropped v * 2 ^ dropped v ≡ v) (lost-w : w / 2 ^ dropped w * 2 ^ dropped w ≡ w) (l : v < w) where
  -- no fewer digits are dropped of more
  drops : dropped v ≤ dropped w
  drops = let h = size-le v (size w) (lt_of_lt_of_le l (le_of_lt (size-lt w))) in sub (size v) (size w) h
    where
      sub : (a b : ℕ) → a ≤ b → a - 53 ≤ b - 53
      sub a b h = omega arith

  level : dropped v ≡ dropped w → pattern v < pattern w
  level e =
      let q : v / 2 ^ dropped v < w / 2 ^ dropped w =
      lt_of_mul-lt-mul_right (2 ^ dropped w) (lt_of_le_of_lt (le_of_eq (ap (λ (d : ℕ). v / 2 ^ dropped v * 2 ^ d) (sym e) ∙ lost-v)) (lt_of_lt_of_le l (le_of_eq (sym lost-w)))) in
      go (dropped v) (dropped w) (v / 2 ^ dropped v) (w / 2 ^ dropped w) e q
    where
      go : (d d' q q' : ℕ) → d ≡ d' → q < q' → d * 4503599627370496 + q < d' * 4503599627370496 + q'
      go d d' q q' e h = omega arith

  higher : dropped v < dropped w → pattern v < pattern w
  higher h =
      let d = dropped w in
      let s : 52 + d < size w = reaches (size w) (dropped v) h in
      let q : 4503599627370496 ≤ w / 2 ^ d = (le-div_iff_mul-le (pow_pos d)).1 (le_trans (le_of_eq (sym (pow-add 2 52 d))) (size_reaches w (52 + d) s)) in
      go (dropped v) d (v / 2 ^ dropped v) (w / 2 ^ d) h (kept-lt 53 v) q
    where
      reaches : (n k : ℕ) → k < n - 53 → 52 + (n - 53) < n
      reaches n k h = omega arith

      go : (d d' q q' : ℕ) → d < d' → q < 9007199254740992 → 4503599627370496 ≤ q' → d * 4503599627370496 + q < d' * 4503599627370496 + q'
      go d d' q q' h a b = omega arith

  pattern_lt : pattern v < pattern w
  pattern_lt = let h = drops in elim (dec_lt (dropped v) (dropped w)) [ yes g ↦ higher g | no g ↦ level (omega arith) ]

-- ---- two finite values
module _ (m n v w : ℕ) where
  units_lt : (e d : ℤ) → Is (fin false m e) v → Is (fin false n d) w → v < w → T (lt (fin false m e) (fin false n d))
  unfolding lt
  units_lt e d p q l =
      let left : m * up e * down d * 2 ^ 1074 ≡ v * down e * down d = mul_right_comm (m * up e) (down d) (2 ^ 1074) ∙ ap (λ (z : ℕ). z * down d) p.1 in
      let right : n * up d * down e * 2 ^ 1074 ≡ w * down e * down d = mul_right_comm (n * up d) (down e) (2 ^ 1074) ∙ ap (λ (z : ℕ). z * down e) q.1 ∙ mul_right_comm w (down d) (down e) in
      lt→ltb (m * up e * down d) (n * up d * down e)
      (lt_of_mul-lt-mul_right (2 ^ 1074) (lt_of_le_of_lt (le_of_eq left) (lt_of_lt_of_le (mul-lt-mul_of_pos_right (mul-lt-mul_of_pos_right l (down_pos e)) (down_pos d)) (le_of_eq (sym right)))))

same_test : (a b : Bool) → (T a → T b) → (T b → T a) → a ≡ b
same_test true true f g = refl
same_test true false f g = absurd (f tt)
same_test false true f g = absurd (g tt)
same_test false false f g = refl

contrary : (a b : ℕ) → a < b → b < a → ⊥
contrary a b h k = omega arith

below : (v w : ℕ) → v / 2 ^ dropped v * 2 ^ dropped v ≡ v → w / 2 ^ dropped w * 2 ^ dropped w ≡ w → pattern v < pattern w → v < w
below v w a b h = elim (dec_lt v w) [
  | yes l ↦ l
  | no l ↦ elim (dec_lt w v) [
    | yes g ↦ absurd (contrary (pattern v) (pattern w) h (pattern_lt w v b a g))
    | no g ↦ let z : v ≡ w = omega arith in absurd (lt_irrefl (pattern w) (subst (λ (k : ℕ). pattern k < pattern w) z h))
  ]
]

finite_order : (m n : ℕ) (e d : ℤ) → T (fits binary64 (fin false m e)) → T (fits binary64 (fin false n d)) → lt (fin false m e) (fin false n d) ≡ ltb (to_bits binary64 (fin false m e)) (to_bits binary64 (fin false n d))
finite_order m n e d F G =
    let x = digits (fin false m e) F tt in
    let y = digits (fin false n d) G tt in
    let v = x.m * 2 ^ x.s in
    let w = y.m * 2 ^ y.s in
    let lost-v = nothing_lost x.m x.s v x.few refl in
    let lost-w = nothing_lost y.m y.s w y.few refl in
    same_test (lt (fin false m e) (fin false n d)) (ltb (pattern v) (pattern w))
    (λ t. lt→ltb (pattern v) (pattern w) (pattern_lt v w lost-v lost-w (lt_units (fin false m e) (fin false n d) v w x.is y.is t)))
    (λ t. units_lt m n v w e d x.is y.is (below v w lost-v lost-w (ltb→lt (pattern v) (pattern w) t)))
    ∙ ap₂ ltb (sym (pattern_is m e v x.is)) (sym (pattern_is n d w y.is))

-- ---- a finite value's pattern is below infinity's
top_of : (m : ℕ) (e : ℤ) → T (fits binary64 (fin false m e)) → m * up e < 2 ^ 1024 * down e
unfolding fits
top_of zero e F = lt_of_le_of_lt (le_of_eq (zero-mul (up e))) (mul-pos (pow_pos 1024) (down_pos e))
top_of (suc m) e F =
    ltb→lt (suc m * up e) (2 ^ 1024 * down e) (and_r (eqb (suc m % 2) 1 && ltb (suc m) (2 ^ 53) && leb (down e) (2 ^ 1074)) (ltb (suc m * up e) (2 ^ 1024 * down e)) F)

units_top : (m : ℕ) (e : ℤ) (v : ℕ) → T (fits binary64 (fin false m e)) → Is (fin false m e) v → v < 2 ^ (1024 + 1074)
units_top m e v F i =
    lt_of_mul-lt-mul_right (down e)
    (lt_of_le_of_lt (le_of_eq (sym i.1))
    (lt_of_lt_of_le (mul-lt-mul_of_pos_right (top_of m e F) (pow_pos 1074)) (le_of_eq (mul_right_comm (2 ^ 1024) (down e) (2 ^ 1074) ∙ ap (λ (z : ℕ). z * down e) (sym (pow-add 2 1024 1074))))))

infinity : to_bits binary64 (inf false) ≡ 9218868437227405312
unfolding to_bits
infinity = refl

finite_below : (m : ℕ) (e : ℤ) → T (fits binary64 (fin false m e)) → to_bits binary64 (fin false m e) < to_bits binary64 (inf false)
finite_below m e F =
    let x = digits (fin false m e) F tt in
    let v = x.m * 2 ^ x.s in
    let s = size-le v (1024 + 1074) (units_top m e v F x.is) in
    subst (λ (b : ℕ). to_bits binary64 (fin false m e) < b) (sym infinity)
    (lt_of_le_of_lt (le_of_eq (pattern_is m e v x.is)) (go (size v) (v / 2 ^ dropped v) s (kept-lt 53 v)))
  where
    go : (s q : ℕ) → s ≤ 2098 → q < 9007199254740992 → (s - 53) * 4503599627370496 + q < 9218868437227405312
    go s q h l = omega arith

-- ---- tests of infinity
no_more : (a b : ℕ) → (a < b → ⊥) → false ≡ ltb a b
no_more a b h = same_test false (ltb a b) (λ t. absurd t) (λ t. h (ltb→lt a b t))

less : (a b : ℕ) → a < b → true ≡ ltb a b
less a b h = same_test true (ltb a b) (λ t. lt→ltb a b h) (λ t. tt)

inf_inf : lt (inf false) (inf false) ≡ false
unfolding lt
inf_inf = refl

inf_fin : (m : ℕ) (e : ℤ) → lt (inf false) (fin false m e) ≡ false
unfolding lt
inf_fin m e = refl

fin_inf : (m : ℕ) (e : ℤ) → lt (fin false m e) (inf false) ≡ true
unfolding lt
fin_inf m e = refl

-- ---- all of them
pub bits_order : (x y : Float) → T (fits binary64 x) → T (fits binary64 y) → T (from_nought x) → T (from_nought y) → lt x y ≡ ltb (to_bits binary64 x) (to_bits binary64 y)
bits_order nan y F G p q = absurd p
bits_order (inf true) y F G p q = absurd p
bits_order (fin true m e) y F G p q = absurd p
bits_order (inf false) nan F G p q = absurd q
bits_order (inf false) (inf true) F G p q = absurd q
bits_order (inf false) (fin true n d) F G p q = absurd q
bits_order (fin false m e) nan F G p q = absurd q
bits_order (fin false m e) (inf true) F G p q = absurd q
bits_order (fin false m e) (fin true n d) F G p q = absurd q
bits_order (inf false) (inf false) F G p q = inf_inf ∙ no_more (to_bits binary64 (inf false)) (to_bits binary64 (inf false)) (lt_irrefl (to_bits binary64 (inf false)))
bits_order (inf false) (fin false n d) F G p q =
    inf_fin n d ∙ no_more (to_bits binary64 (inf false)) (to_bits binary64 (fin false n d)) (λ h. contrary (to_bits binary64 (fin false n d)) (to_bits binary64 (inf false)) (finite_below n d G) h)
bits_order (fin false m e) (inf false) F G p q = fin_inf m e ∙ less (to_bits binary64 (fin false m e)) (to_bits binary64 (inf false)) (finite_below m e F)
bits_order (fin false m e) (fin false n d) F G p q = finite_order m n e d F G
