-- Comparisons with the constants, and what a float that is equal to zero is. Assumes nothing.
use mathlib.Core.Path.{◌≡◌, refl, sym}
use mathlib.Core.Logic.{◌⊎◌, inl, inr}
use Prim.Native.Nat.{ℕ, ◌+◌, ◌*◌, ◌≤◌, ◌<◌}
use native.Mathlib.Nat.{le_of_eq, le_of_lt}
use native.Mathlib.Omega.{arith}
use mathlib.Core.Bool.{true, false, ◌&&◌}
use lib.Dec.{T, ltb, eqb, ltb→lt, lt→ltb, eqb→eq}
use lib.IntN.{ℤ}
use lib.Ieee.{Float, nan, inf, fin, up, down, neg, lt, le, eq, of_bits}
use lib.Ieee.Fits.{and_i, and_l, and_r, eq→eqb, down_pos}
use lib.Ieee.Positive.{num}
use Rattle.rounding.proofs.Values.{or_left, or_right, or_split}
use Rattle.math.proofs.Tests.{plain_not_below}
use Rattle.math.specs.Steps.{zero, half, one, end, lit}
use Rattle.bounds.specs.Fraction.{size}

-- at most zero: below it, or equal to it
pub below_or_zero : (x : Float) → T (le x zero) → T (lt x zero) ⊎ T (eq x zero)
unfolding le
below_or_zero x h = or_split (lt x zero) (eq x zero) h

pub above_or_zero : (x : Float) → T (le zero x) → T (lt zero x) ⊎ T (eq x zero)
unfolding le lt eq of_bits
above_or_zero nan h = absurd h
above_or_zero (inf true) h = absurd h
above_or_zero (inf false) h = inl tt
above_or_zero (fin true m e) h = inr (and_i (eqb (m * up e * 1) (0 * 1 * down e)) (eqb (m * up e * 1) 0) (eq→eqb (back (m * up e) (down e) (eqb→eq (0 * 1 * down e) (m * up e * 1) (and_l (eqb (0 * 1 * down e) (m * up e * 1)) (eqb (0 * 1 * down e) 0) h)))) (eq→eqb (none (m * up e) (down e) (eqb→eq (0 * 1 * down e) (m * up e * 1) (and_l (eqb (0 * 1 * down e) (m * up e * 1)) (eqb (0 * 1 * down e) 0) h)))))
  where
    back : (a d : ℕ) → 0 * 1 * d ≡ a * 1 → a * 1 ≡ 0 * 1 * d
    back a d e = omega arith

    none : (a d : ℕ) → 0 * 1 * d ≡ a * 1 → a * 1 ≡ 0
    none a d e = omega arith
above_or_zero (fin false m e) h = elim (or_split (ltb (0 * 1 * down e) (m * up e * 1)) (eqb (0 * 1 * down e) (m * up e * 1) && true) h) [
  | inl l ↦ inl l
  | inr l ↦ inr (and_i (eqb (m * up e * 1) (0 * 1 * down e)) true (eq→eqb (sym (eqb→eq (0 * 1 * down e) (m * up e * 1) (and_l (eqb (0 * 1 * down e) (m * up e * 1)) true l)))) tt)
]

-- ---- equal to zero: of no size, not below it and not above it
nought : (a d : ℕ) → a * 1 ≡ 0 * 1 * d → a ≡ 0
nought a d e = omega arith

pub zero_size : (x : Float) → T (eq x zero) → num x ≡ 0
unfolding eq of_bits
zero_size nan h = absurd h
zero_size (inf s) h = absurd h
zero_size (fin true m e) h = nought (m * up e) (down e) (eqb→eq (m * up e * 1) (0 * 1 * down e) (and_l (eqb (m * up e * 1) (0 * 1 * down e)) (eqb (m * up e * 1) 0) h))
zero_size (fin false m e) h = nought (m * up e) (down e) (eqb→eq (m * up e * 1) (0 * 1 * down e) (and_l (eqb (m * up e * 1) (0 * 1 * down e)) true h))

pub zero_not_below : (x : Float) → T (eq x zero) → T (lt x zero) → ⊥
unfolding lt eq of_bits
zero_not_below nan h k = h
zero_not_below (inf s) h k = h
zero_not_below (fin true m e) h k = none (m * up e) (down e) (zero_size (fin true m e) h) (ltb→lt 0 (m * up e * 1 + 0 * 1 * down e) k)
  where
    none : (a d : ℕ) → a ≡ 0 → 0 < a * 1 + 0 * 1 * d → ⊥
    none a d e h = omega arith
zero_not_below (fin false m e) h k = plain_not_below m e k

pub zero_not_above : (x : Float) → T (eq x zero) → T (lt zero x) → ⊥
unfolding lt eq of_bits
zero_not_above nan h k = h
zero_not_above (inf s) h k = h
zero_not_above (fin true m e) h k = k
zero_not_above (fin false m e) h k = none (m * up e) (down e) (zero_size (fin false m e) h) (ltb→lt (0 * 1 * down e) (m * up e * 1) k)
  where
    none : (a d : ℕ) → a ≡ 0 → 0 * 1 * d < a * 1 → ⊥
    none a d e h = omega arith

-- below zero is not above it, and from 1/2 up is above it and not under 1/2
pub not_above : (x : Float) → T (lt x zero) → T (lt zero x) → ⊥
unfolding lt of_bits
not_above nan h k = h
not_above (inf true) h k = k
not_above (inf false) h k = h
not_above (fin true m e) h k = k
not_above (fin false m e) h k = plain_not_below m e h

half_sizes : (m : ℕ) (e : ℤ) → T (le half (fin false m e)) → 1 * 1 * down e ≤ m * up e * 2
unfolding le lt eq of_bits
half_sizes m e h =
    let A = 1 * 1 * down e in
    let B = m * up e * 2 in
    elim (or_split (ltb A B) (eqb A B && true) h) [ inl l ↦ le_of_lt (ltb→lt A B l) | inr l ↦ le_of_eq (eqb→eq A B (and_l (eqb A B) true l)) ]

pub half_above : (x : Float) → T (le half x) → T (lt zero x)
unfolding le lt eq of_bits
half_above nan h = absurd h
half_above (inf true) h = absurd h
half_above (inf false) h = tt
half_above (fin true m e) h = absurd (none (down e) (down_pos e) (eqb→eq (1 * 1 * down e) 0 (and_r (eqb (1 * 1 * down e) (m * up e * 2)) (eqb (1 * 1 * down e) 0) h)))
  where
    none : (d : ℕ) → 0 < d → 1 * 1 * d ≡ 0 → ⊥
    none d p h = omega arith
half_above (fin false m e) h = lt→ltb (0 * 1 * down e) (m * up e * 1) (more (m * up e) (down e) (down_pos e) (half_sizes m e h))
  where
    more : (a d : ℕ) → 0 < d → 1 * 1 * d ≤ a * 2 → 0 * 1 * d < a * 1
    more a d p h = omega arith

pub half_not_under : (x : Float) → T (le half x) → T (lt x half) → ⊥
unfolding lt of_bits
half_not_under nan h k = k
half_not_under (inf true) h k = half_above (inf true) h
half_not_under (inf false) h k = k
half_not_under (fin true m e) h k = half_above (fin true m e) h
half_not_under (fin false m e) h k = none (m * up e) (down e) (half_sizes m e h) (ltb→lt (m * up e * 2) (1 * 1 * down e) k)
  where
    none : (a d : ℕ) → 1 * 1 * d ≤ a * 2 → a * 2 < 1 * 1 * d → ⊥
    none a d h k = omega arith

-- ---- no infinity and no NaN is -0
pub top_sound : inf false ≡ lit 0x8000_0000_0000_0000 → ⊥
unfolding of_bits
top_sound e = let z : ◌≡◌ {A = ℕ} 0 1 = cc in omega arith

pub bottom_sound : inf true ≡ lit 0x8000_0000_0000_0000 → ⊥
unfolding of_bits
bottom_sound e = let z : ◌≡◌ {A = ℕ} 0 1 = cc in omega arith

pub nan_sound : nan ≡ lit 0x8000_0000_0000_0000 → ⊥
unfolding of_bits
nan_sound e = let z : ◌≡◌ {A = ℕ} 0 1 = cc in omega arith

-- ---- from -1 up, by -x
pub neg_one : (x : Float) → T (le (neg one) x) → T (lt x zero) → T (le (neg x) one)
unfolding le lt eq neg of_bits
neg_one nan h k = absurd h
neg_one (inf true) h k = absurd h
neg_one (inf false) h k = absurd k
neg_one (fin false m e) h k = absurd (plain_not_below m e k)
neg_one (fin true m e) h k =
    let A = m * up e * 1 in
    let B = 1 * 1 * down e in
    elim (or_split (ltb A B) (eqb B A && true) h) [
      | inl l ↦ or_left (ltb A B) (eqb A B && true) l
      | inr l ↦ or_right (ltb A B) (eqb A B && true) (and_i (eqb A B) true (eq→eqb (sym (eqb→eq B A (and_l (eqb B A) true l)))) tt)
    ]

pub one_under_end : (t : Float) → T (le t one) → T (lt t end)
unfolding le lt eq of_bits
one_under_end nan h = absurd h
one_under_end (inf true) h = tt
one_under_end (inf false) h = absurd h
one_under_end (fin true m e) h = lt→ltb 0 (m * up e * 1 + 746 * down e) (more (m * up e * 1) (down e) (down_pos e))
  where
    more : (a d : ℕ) → 0 < d → 0 < a + 746 * d
    more a d h = omega arith
one_under_end (fin false m e) h =
    let A = m * up e * 1 in
    let B = 1 * 1 * down e in
    elim (or_split (ltb A B) (eqb A B && true) h) [
      | inl l ↦ lt→ltb A (746 * down e) (less (m * up e) (down e) (down_pos e) (ltb→lt A B l))
      | inr l ↦ lt→ltb A (746 * down e) (same (m * up e) (down e) (down_pos e) (eqb→eq A B (and_l (eqb A B) true l)))
    ]
  where
    less : (a d : ℕ) → 0 < d → a * 1 < 1 * 1 * d → a * 1 < 746 * d
    less a d p h = omega arith

    same : (a d : ℕ) → 0 < d → a * 1 ≡ 1 * 1 * d → a * 1 < 746 * d
    same a d p h = omega arith

-- above -746, by -x
pub under_neg : (x : Float) → T (lt x zero) → T (lt (neg x) end) → T (lt (neg end) x)
unfolding lt neg of_bits
under_neg nan h k = absurd h
under_neg (inf true) h k = absurd k
under_neg (inf false) h k = absurd h
under_neg (fin true m e) h k = k
under_neg (fin false m e) h k = absurd (plain_not_below m e h)

-- ---- a float and its negation have one size
pub neg_size : (x : Float) → size (neg x) ≡ size x
unfolding neg
neg_size nan = refl
neg_size (inf s) = refl
neg_size (fin s m e) = refl
