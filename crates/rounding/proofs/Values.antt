-- A value by its digits and its units, and the comparisons of values by their units. Assumes nothing.
use mathlib.Core.Path.{◌≡◌, refl, sym, ap, ◌∙◌}
use mathlib.Core.Logic.{◌⊎◌, inl, inr}
use Prim.Native.Nat.{ℕ, zero, suc, ◌+◌, ◌-◌, ◌*◌, ◌%◌, ◌^◌, ◌≤◌, ◌<◌}
use native.Mathlib.Nat.{le_trans, le_of_eq, le_of_lt, lt_of_lt_of_le, lt_of_le_of_lt, mul-one, mul_assoc, mul_right_comm, mul-le-mul_right, mul-lt-mul_of_pos_right, le_of_mul-le-mul_right, lt_of_mul-lt-mul_right, mul-pos, eq_of_mul-eq-mul_right, not-le_of_lt}
use native.Mathlib.Omega.{arith}
use mathlib.Core.Bool.{Bool, true, false, not, ◌&&◌, ◌||◌, true≢false}
use lib.IntN.{pos, negsuc}
use lib.Dec.{T, ltb, leb, eqb, lit<, ltb→lt, leb→le, lt→ltb, eqb→eq, nltb→le}
use lib.Pow.{pow-add, pow_pos, pow-lt}
use lib.Ieee.{Float, nan, inf, fin, binary64, up, down, fits, is_nan, lt, le, eq}
use lib.Ieee.Digits.{back}
use lib.Ieee.Fits.{and_l, and_r, down_pos}
use lib.Ieee.Positive.{num, den, first_pos, positive}
use Rattle.rounding.specs.Units.{Is, Digits, plain}

pub lt_or_ge : (a b : ℕ) → (a < b) ⊎ (b ≤ a)
lt_or_ge a b = go (ltb a b) (ltb→lt a b) (nltb→le a b)
  where
    go : (t : Bool) → (T t → a < b) → (T (not t) → b ≤ a) → (a < b) ⊎ (b ≤ a)
    go true h k = inl (h tt)
    go false h k = inr (k tt)

-- ---- plain values
pub plain_is : (x : Float) (v : ℕ) → Is x v → T (plain x)
plain_is nan v i = absurd i
plain_is (inf s) v i = absurd i
plain_is (fin true m e) v i = absurd (true≢false i.0)
plain_is (fin false m e) v i = tt

pub plain_positive : (x : Float) → T (positive x) → T (plain x)
plain_positive nan p = absurd p
plain_positive (inf s) p = absurd p
plain_positive (fin true m e) p = absurd p
plain_positive (fin false m e) p = tt

pub plain_number : (x : Float) → T (plain x) → T (not (is_nan x))
unfolding is_nan
plain_number nan p = absurd p
plain_number (inf s) p = absurd p
plain_number (fin s m e) p = tt

-- ---- a value that fits has 53 digits, and one number of units
pow_le_inv : (a b : ℕ) → 2 ^ a ≤ 2 ^ b → a ≤ b
pow_le_inv a b h = elim (lt_or_ge b a) [ inl l ↦ absurd (not-le_of_lt (pow-lt l) h) | inr g ↦ g ]

pub digits : (x : Float) → T (fits binary64 x) → T (plain x) → Digits x
unfolding fits
digits nan f p = absurd p
digits (inf s) f p = absurd p
digits (fin true m e) f p = absurd p
digits (fin false zero e) f p = record { m = 0; s = 0; is = (refl, nought (up e) (2 ^ 1074) (down e)); few = lit< tt }
  where
    nought : (u U d : ℕ) → 0 * u * U ≡ 0 * 1 * d
    nought u U d = omega arith
digits (fin false (suc m) (pos k)) f p = record {
  m = suc m;
  s = k + 1074;
  is = (refl, mul_assoc (suc m) (2 ^ k) (2 ^ 1074) ∙ ap (λ (z : ℕ). suc m * z) (sym (pow-add 2 k 1074)) ∙ sym (mul-one (suc m * 2 ^ (k + 1074))));
  few = ltb→lt (suc m) (2 ^ 53) (and_r (eqb (suc m % 2) 1) (ltb (suc m) (2 ^ 53)) (and_l (eqb (suc m % 2) 1 && ltb (suc m) (2 ^ 53)) (leb 1 (2 ^ 1074)) (and_l (eqb (suc m % 2) 1 && ltb (suc m) (2 ^ 53) && leb 1 (2 ^ 1074)) (ltb (suc m * 2 ^ k) (2 ^ 1024 * 1)) f)));
}
digits (fin false (suc m) (negsuc k)) f p =
    let g = and_l (eqb (suc m % 2) 1 && ltb (suc m) (2 ^ 53) && leb (2 ^ suc k) (2 ^ 1074)) (ltb (suc m * 1) (2 ^ 1024 * 2 ^ suc k)) f in
    let l : suc k ≤ 1074 = pow_le_inv (suc k) 1074 (leb→le (2 ^ suc k) (2 ^ 1074) (and_r (eqb (suc m % 2) 1 && ltb (suc m) (2 ^ 53)) (leb (2 ^ suc k) (2 ^ 1074)) g)) in
    record {
      m = suc m;
      s = 1074 - suc k;
      is = (refl, ap (λ (z : ℕ). z * 2 ^ 1074) (mul-one (suc m)) ∙ ap (λ (z : ℕ). suc m * z) (ap (λ (z : ℕ). 2 ^ z) (sym (back 1074 (suc k) l)) ∙ pow-add 2 (1074 - suc k) (suc k)) ∙ sym (mul_assoc (suc m) (2 ^ (1074 - suc k)) (2 ^ suc k)));
      few = ltb→lt (suc m) (2 ^ 53) (and_r (eqb (suc m % 2) 1) (ltb (suc m) (2 ^ 53)) (and_l (eqb (suc m % 2) 1 && ltb (suc m) (2 ^ 53)) (leb (2 ^ suc k) (2 ^ 1074)) g));
    }

pub one_number : (x : Float) (a b : ℕ) → Is x a → Is x b → a ≡ b
one_number nan a b i k = absurd i
one_number (inf s) a b i k = absurd i
one_number (fin s m e) a b i k = eq_of_mul-eq-mul_right (down e) (down_pos e) a b (sym i.1 ∙ k.1)

-- the value as a fraction
pub cross : (x : Float) (v : ℕ) → Is x v → num x * 2 ^ 1074 ≡ v * den x
cross nan v i = absurd i
cross (inf s) v i = absurd i
cross (fin s m e) v i = i.1

-- ---- comparisons
pub or_split : (a b : Bool) → T (a || b) → T a ⊎ T b
or_split true b t = inl tt
or_split false b t = inr t

pub or_left : (a b : Bool) → T a → T (a || b)
or_left true b t = tt
or_left false b t = absurd t

pub or_right : (a b : Bool) → T b → T (a || b)
or_right true b t = tt
or_right false b t = t

module _ (X Y U a b E D : ℕ) (U_pos : 0 < U) (E_pos : 0 < E) (D-pos : 0 < D) (l : X * U ≡ a * E) (r : Y * U ≡ b * D) where
  left : X * D * U ≡ a * (E * D)
  left = mul_right_comm X D U ∙ ap (λ (z : ℕ). z * D) l ∙ mul_assoc a E D

  right : Y * E * U ≡ b * (E * D)
  right = mul_right_comm Y E U ∙ ap (λ (z : ℕ). z * E) r ∙ mul_right_comm b D E ∙ mul_assoc b E D

  to_lt : X * D < Y * E → a < b
  to_lt h = lt_of_mul-lt-mul_right (E * D) (lt_of_le_of_lt (le_of_eq (sym left)) (lt_of_lt_of_le (mul-lt-mul_of_pos_right h U_pos) (le_of_eq right)))

  to_le : X * D ≤ Y * E → a ≤ b
  to_le h = le_of_mul-le-mul_right (le_trans (le_of_eq (sym left)) (le_trans (mul-le-mul_right U h) (le_of_eq right))) (mul-pos E_pos D-pos)

pub lt_units : (x y : Float) (a b : ℕ) → Is x a → Is y b → T (lt x y) → a < b
unfolding lt
lt_units nan y a b p q h = absurd p
lt_units (inf s) y a b p q h = absurd p
lt_units (fin true m e) y a b p q h = absurd (true≢false p.0)
lt_units (fin false m e) nan a b p q h = absurd q
lt_units (fin false m e) (inf t) a b p q h = absurd q
lt_units (fin false m e) (fin true n d) a b p q h = absurd (true≢false q.0)
lt_units (fin false m e) (fin false n d) a b p q h = to_lt (m * up e) (n * up d) (2 ^ 1074) a b (down e) (down d) (pow_pos 1074) (down_pos e) (down_pos d) p.1 q.1 (ltb→lt (m * up e * down d) (n * up d * down e) h)

pub le_units : (x y : Float) (a b : ℕ) → Is x a → Is y b → T (le x y) → a ≤ b
unfolding le lt eq
le_units nan y a b p q h = absurd p
le_units (inf s) y a b p q h = absurd p
le_units (fin true m e) y a b p q h = absurd (true≢false p.0)
le_units (fin false m e) nan a b p q h = absurd q
le_units (fin false m e) (inf t) a b p q h = absurd q
le_units (fin false m e) (fin true n d) a b p q h = absurd (true≢false q.0)
le_units (fin false m e) (fin false n d) a b p q h =
    to_le (m * up e) (n * up d) (2 ^ 1074) a b (down e) (down d) (pow_pos 1074) (down_pos e) (down_pos d) p.1 q.1
    (elim (or_split (ltb (m * up e * down d) (n * up d * down e)) (eqb (m * up e * down d) (n * up d * down e) && true) h) [
      | inl l ↦ le_of_lt (ltb→lt (m * up e * down d) (n * up d * down e) l)
      | inr l ↦ le_of_eq (eqb→eq (m * up e * down d) (n * up d * down e) (and_l (eqb (m * up e * down d) (n * up d * down e)) true l))
    ])

-- ---- what a test tells of its value
pub lt_le : (x y : Float) → T (lt x y) → T (le x y)
unfolding le
lt_le x y h = or_left (lt x y) (eq x y) h

-- below something finite, and so below infinity
pub under_top : (x y : Float) → T (plain y) → T (le x y) → T (lt x (inf false))
unfolding le lt eq
under_top nan y p h = h
under_top (inf true) y p h = tt
under_top (inf false) nan p h = absurd p
under_top (inf false) (inf t) p h = absurd p
under_top (inf false) (fin t n d) p h = h
under_top (fin s m e) y p h = tt

pub positive_test : (x : Float) → T (lt (fin false 0 (pos 0)) x) → T (lt x (inf false)) → T (positive x)
unfolding lt
positive_test nan h k = absurd h
positive_test (inf true) h k = absurd h
positive_test (inf false) h k = absurd k
positive_test (fin true m e) h k = absurd h
positive_test (fin false m e) h k = lt→ltb 0 m (first_pos m (up e) (first_pos (m * up e) 1 (more (0 * 1 * down e) (m * up e * 1) (ltb→lt (0 * 1 * down e) (m * up e * 1) h))))
  where
    more : (a b : ℕ) → a < b → 0 < b
    more a b h = omega arith
