-- The bits of floats that are +0 or greater order as the floats do. Assumes nothing.
use mathlib.Core.Path.{◌≡◌, refl, sym, ap, ◌∙◌, subst}
use mathlib.Core.Bool.{Bool, true, false, ◌&&◌, true≢false}
use Prim.Native.Nat.{ℕ, zero, suc, ◌+◌, ◌-◌, ◌*◌, ◌/◌, ◌%◌, ◌^◌, ◌≤◌, ◌<◌}
use native.Mathlib.Nat.{le_trans, le_of_eq, lt_of_le_of_lt, lt_of_lt_of_le, mul_right_comm, suc-mul, zero-mul, mul-le-mul_right, mul-lt-mul_of_pos_right, le_of_mul-le-mul_right, mul-pos, div-mul-le_self, le-div_iff_mul-le, div-lt_iff_lt-mul}
use native.Mathlib.Decide.{dec_lt}
use native.Mathlib.Omega.{arith}
use lib.IntN.{ℤ}
use lib.Dec.{T, leb, ltb, eqb, ltb→lt}
use lib.Pow.{pow-add, pow_pos}
use lib.Ieee.{Float, nan, inf, fin, Format, prec, emax, low, up, down, size, fits, hid, ones, lt, of_bits, to_bits}
use lib.Ieee.Digits.{size-lt, size-le, size_reaches}
use lib.Ieee.Fits.{two, reach, kept-lt, down_pos, and_r}
use lib.Ieee.Bits.{of_bits-to_bits}
use borrow.Author.Tests.{ltb-true, ltb-false, lt-ltb, le-ltb}
use Rattle.prune.specs.Losses.{loss_like}

-- ---- a fraction in units of 1 / l
scaled : (a b c d l : ℕ) → 0 < b → 0 < d → a * d ≤ c * b → a * l / b ≤ c * l / d
scaled a b c d l p q h = (le-div_iff_mul-le {k = d} {x = a * l / b} {y = c * l} q).1 (le_of_mul-le-mul_right {k = b} whole p)
  where
    whole : a * l / b * d * b ≤ c * l * b
    whole =
        le_trans (le_of_eq (mul_right_comm (a * l / b) d b))
        (le_trans (mul-le-mul_right d (div-mul-le_self (a * l) b))
        (le_trans (le_of_eq (mul_right_comm a l d)) (le_trans (mul-le-mul_right l h) (le_of_eq (mul_right_comm c b l)))))

-- ---- the bits of n units: its leading digits, and how many are dropped
abbrev code : ℕ → ℕ → ℕ
code p n = (size n - p) * 2 ^ (p - 1) + n / 2 ^ (size n - p)

twice_hid : (p : ℕ) → 0 < p → 2 ^ p ≡ 2 ^ (p - 1) + 2 ^ (p - 1)
twice_hid p h =
    let e : p ≡ 1 + (p - 1) = omega arith in
    let d : 2 * 2 ^ (p - 1) ≡ 2 ^ (p - 1) + 2 ^ (p - 1) = omega arith in
    ap (λ (k : ℕ). 2 ^ k) e ∙ pow-add 2 1 (p - 1) ∙ d

-- below the code of any number that drops more digits
code_low : (p n k : ℕ) → 0 < p → size n - p < k → code p n < k * 2 ^ (p - 1) + 2 ^ (p - 1)
code_low p n k h g =
    let a = kept-lt p n in
    let b = twice_hid p h in
    let c = mul-le-mul_right (2 ^ (p - 1)) g in
    let d = suc-mul (size n - p) (2 ^ (p - 1)) in
    omega arith

code_high : (p n : ℕ) → 0 < p → 0 < size n - p → (size n - p) * 2 ^ (p - 1) + 2 ^ (p - 1) ≤ code p n
code_high p n h g = omega
    (arith, (le-div_iff_mul-le {k = 2 ^ (size n - p)} {x = 2 ^ (p - 1)} {y = n} (pow_pos (size n - p))).1 enough)
  where
    enough : 2 ^ (p - 1) * 2 ^ (size n - p) ≤ n
    enough =
        let e : p - 1 + (size n - p) ≡ size n - 1 = omega arith in
        le_trans (le_of_eq (sym (pow-add 2 (p - 1) (size n - p)) ∙ ap (λ (k : ℕ). 2 ^ k) e))
        (size_reaches n (size n - 1) (omega arith))

code_mono : (p n m : ℕ) → 0 < p → n ≤ m → code p n ≤ code p m
code_mono p n m h l = elim (dec_lt (size n - p) (size m - p)) [
  | yes g ↦ let a = code_low p n (size m - p) h g in let b = code_high p m h (omega arith) in omega arith
  | no g ↦ level (omega (arith, size-le n (size m) (lt_of_le_of_lt l (size-lt m))))
]
  where
    level : size n - p ≡ size m - p → code p n ≤ code p m
    level e =
        let k = size m - p in
        let d : n / 2 ^ k ≤ m / 2 ^ k =
        (le-div_iff_mul-le {k = 2 ^ k} {x = n / 2 ^ k} {y = m} (pow_pos k)).1 (le_trans (div-mul-le_self n (2 ^ k)) l) in
        subst (λ (j : ℕ). j * 2 ^ (p - 1) + n / 2 ^ j ≤ code p m) (sym e) (omega arith)

-- ---- floats
module _ (f : Format) where
  abbrev units : ℕ → ℤ → ℕ
  units m e = m * up e * 2 ^ low f / down e

  fin_bits : (m : ℕ) (e : ℤ) → to_bits f (fin false m e) ≡ code (prec f) (units m e)
  unfolding to_bits
  fin_bits m e = let z : (a b : ℕ) → 0 + a + b ≡ a + b = λ a b. omega arith in z ((size (units m e) - prec f) * hid f)
      (units m e / 2 ^ (size (units m e) - prec f))

  inf_bits : to_bits f (inf false) ≡ ones f * hid f
  unfolding to_bits
  inf_bits = let z : (a : ℕ) → 0 + a ≡ a = λ a. omega arith in z (ones f * hid f)

  pos_prec : 0 < prec f
  pos_prec = let t = two f in omega arith

  -- a finite float lies below 2 ^ (emax + 1)
  finite : (m : ℕ) (e : ℤ) → T (fits f (fin false m e)) → m * up e < 2 ^ suc (emax f) * down e
  unfolding fits
  finite zero e t = lt_of_le_of_lt (le_of_eq (zero-mul (up e))) (mul-pos (pow_pos (suc (emax f))) (down_pos e))
  finite (suc m) e t =
      let within = eqb (suc m % 2) 1 && ltb (suc m) (2 ^ prec f) && leb (down e) (2 ^ low f) in
      ltb→lt (suc m * up e) (2 ^ suc (emax f) * down e) (and_r within (ltb (suc m * up e) (2 ^ suc (emax f) * down e)) t)

  below_inf : (m : ℕ) (e : ℤ) → T (fits f (fin false m e)) → code (prec f) (units m e) ≤ ones f * hid f
  below_inf m e t =
      let p = prec f in
      let h = hid f in
      let a : m * up e * 2 ^ low f < 2 ^ (suc (emax f) + low f) * down e =
      lt_of_lt_of_le (mul-lt-mul_of_pos_right (finite m e t) (pow_pos (low f)))
      (le_of_eq (mul_right_comm (2 ^ suc (emax f)) (down e) (2 ^ low f)
      ∙ ap (λ (k : ℕ). k * down e) (sym (pow-add 2 (suc (emax f)) (low f))))) in
      let b = size-le (units m e) (suc (emax f) + low f)
      ((div-lt_iff_lt-mul {k = down e} {x = m * up e * 2 ^ low f} {y = 2 ^ (suc (emax f) + low f)} (down_pos e)).1 a) in
      let c = code_low p (units m e) (2 * emax f) pos_prec (fields (size (units m e)) p (emax f) (two f) (reach f) b) in
      let d : ones f * h ≡ 2 * emax f * h + h = ap (λ (k : ℕ). k * h) (one_more (2 * emax f)) ∙ suc-mul (2 * emax f) h in
      omega arith
    where
      fields : (z p e : ℕ) → 2 ≤ p → p ≤ suc e → z ≤ suc e + (e + p - 2) → z - p < 2 * e
      fields z p e a b c = omega arith

      one_more : (k : ℕ) → k + 1 ≡ suc k
      one_more k = omega arith

  -- what is not above has no greater bits
  no_greater : (x y : Float) → T (loss_like x) → T (loss_like y) → T (fits f x) → lt y x ≡ false → to_bits f x ≤ to_bits f y
  unfolding lt
  no_greater nan y p q t e = absurd p
  no_greater (inf true) y p q t e = absurd p
  no_greater (fin true m d) y p q t e = absurd p
  no_greater (inf false) nan p q t e = absurd q
  no_greater (inf false) (inf true) p q t e = absurd q
  no_greater (inf false) (inf false) p q t e = omega arith
  no_greater (inf false) (fin true m d) p q t e = absurd q
  no_greater (inf false) (fin false m d) p q t e = absurd (true≢false e)
  no_greater (fin false m d) nan p q t e = absurd q
  no_greater (fin false m d) (inf true) p q t e = absurd q
  no_greater (fin false m d) (inf false) p q t e = le_trans (le_of_eq (fin_bits m d))
      (le_trans (below_inf m d t) (le_of_eq (sym inf_bits)))
  no_greater (fin false m d) (fin true n g) p q t e = absurd q
  no_greater (fin false m d) (fin false n g) p q t e =
      le_trans (le_of_eq (fin_bits m d))
      (le_trans (code_mono (prec f) (units m d) (units n g) pos_prec
      (scaled (m * up d) (down d) (n * up g) (down g) (2 ^ low f) (down_pos d) (down_pos g)
      (ltb-false (n * up g * down d) (m * up d * down g) e)))
      (le_of_eq (sym (fin_bits n g))))

  one_way : (x y : Float) → T (loss_like x) → T (loss_like y) → lt x y ≡ true → lt y x ≡ false
  unfolding lt
  one_way nan y p q e = absurd p
  one_way (inf true) y p q e = absurd p
  one_way (fin true m d) y p q e = absurd p
  one_way (inf false) nan p q e = absurd q
  one_way (inf false) (inf true) p q e = absurd q
  one_way (inf false) (inf false) p q e = refl
  one_way (inf false) (fin true m d) p q e = absurd q
  one_way (inf false) (fin false m d) p q e = absurd (true≢false (sym e))
  one_way (fin false m d) nan p q e = absurd q
  one_way (fin false m d) (inf true) p q e = absurd q
  one_way (fin false m d) (inf false) p q e = refl
  one_way (fin false m d) (fin true n g) p q e = absurd q
  one_way (fin false m d) (fin false n g) p q e =
      let l = ltb-true (m * up d * down g) (n * up g * down d) e in
      le-ltb (n * up g * down d) (m * up d * down g) (omega arith)

  pub bits_order : (x y : Float) → T (loss_like x) → T (loss_like y) → T (fits f x) → T (fits f y)
      → lt x y ≡ ltb (to_bits f x) (to_bits f y)
  bits_order x y p q t u = go (lt x y) refl
    where
      apart : (v : Bool) → v ≡ true → v ≡ false → ⊥
      apart true a b = true≢false b
      apart false a b = true≢false (sym a)

      -- equal bits are equal floats, of which none is below the other
      differ : lt x y ≡ true → to_bits f x ≡ to_bits f y → ⊥
      differ e b =
          let s : x ≡ y = sym (of_bits-to_bits f x t) ∙ ap (of_bits f) b ∙ of_bits-to_bits f y u in
          apart (lt y x) (subst (λ (z : Float). lt z x ≡ true) s (subst (λ (z : Float). lt x z ≡ true) (sym s) e))
          (one_way x y p q e)

      strict : (a b : ℕ) → a ≤ b → (a ≡ b → ⊥) → a < b
      strict a b l n = elim (dec_lt a b) [ yes g ↦ g | no g ↦ absurd (n (omega arith)) ]

      go : (v : Bool) → lt x y ≡ v → v ≡ ltb (to_bits f x) (to_bits f y)
      go true e = sym (lt-ltb (to_bits f x) (to_bits f y)
          (strict (to_bits f x) (to_bits f y) (no_greater x y p q t (one_way x y p q e)) (differ e)))
      go false e = sym (le-ltb (to_bits f x) (to_bits f y) (no_greater y x q p u e))
