-- What the tests of the code tell, and the values that it makes by a division. Assumes nothing.
use mathlib.Core.Path.{◌≡◌, refl}
use mathlib.Core.Logic.{inl, inr}
use Prim.Native.Nat.{ℕ, ◌+◌, ◌*◌, ◌≤◌, ◌<◌}
use native.Mathlib.Omega.{arith}
use mathlib.Core.Bool.{true, false, ◌&&◌}
use lib.Dec.{T, ltb, eqb, ltb→lt, lt→ltb}
use lib.IntN.{ℤ, pos, negsuc}
use lib.Ieee.{Float, nan, inf, fin, up, down, neg, lt, le, eq, is_nan, of_bits}
use lib.Ieee.Fits.{and_i, eq→eqb, down_pos}
use Rattle.rounding.proofs.Values.{lt_or_ge, or_left, or_right}
use Rattle.math.specs.Steps.{zero, half, one, end, lit}

-- ---- nothing whose sign is not set is below zero
pub plain_not_below : (m : ℕ) (e : ℤ) → T (lt (fin false m e) zero) → ⊥
unfolding lt of_bits
plain_not_below m e h = none (m * up e * 1) (down e) (ltb→lt (m * up e * 1) (0 * 1 * down e) h)
  where
    none : (a d : ℕ) → a < 0 * 1 * d → ⊥
    none a d h = omega arith

-- ---- x below zero and above -746, by -x
pub neg_above : (x : Float) → T (lt x zero) → T (lt zero (neg x))
unfolding lt neg of_bits
neg_above nan h = absurd h
neg_above (inf true) h = tt
neg_above (inf false) h = absurd h
neg_above (fin false m e) h = absurd (plain_not_below m e h)
neg_above (fin true m e) h = lt→ltb (0 * 1 * down e) (m * up e * 1) (turn (m * up e * 1) (down e) (ltb→lt 0 (m * up e * 1 + 0 * 1 * down e) h))
  where
    turn : (a d : ℕ) → 0 < a + 0 * 1 * d → 0 * 1 * d < a
    turn a d h = omega arith

pub neg_under : (x : Float) → T (lt (neg end) x) → T (lt (neg x) end)
unfolding lt neg of_bits
neg_under nan h = absurd h
neg_under (inf true) h = absurd h
neg_under (inf false) h = tt
neg_under (fin false m e) h = lt→ltb 0 (m * up e * 1 + 746 * down e) (more (m * up e * 1) (down e) (down_pos e))
  where
    more : (a d : ℕ) → 0 < d → 0 < a + 746 * d
    more a d h = omega arith
neg_under (fin true m e) h = h

-- ---- a number is at least c, or above it, where the other test fails
from_not_lt : (x : Float) (n : ℕ) (d : ℤ) → T (lt zero x) → (T (lt x (fin false n d)) → ⊥) → T (le (fin false n d) x)
unfolding le lt eq of_bits
from_not_lt nan n d a h = absurd a
from_not_lt (inf true) n d a h = absurd a
from_not_lt (inf false) n d a h = tt
from_not_lt (fin true m e) n d a h = absurd a
from_not_lt (fin false m e) n d a h =
    let A = m * up e * down d in
    let B = n * up d * down e in
    elim (lt_or_ge B A) [
      | inl l ↦ or_left (ltb B A) (eqb B A && true) (lt→ltb B A l)
      | inr l ↦ or_right (ltb B A) (eqb B A && true) (and_i (eqb B A) true (eq→eqb (same A B l (λ (k : A < B). h (lt→ltb A B k)))) tt)
    ]
  where
    same : (A B : ℕ) → A ≤ B → (A < B → ⊥) → B ≡ A
    same A B l h = omega arith

from_not_le : (x : Float) (n : ℕ) (d : ℤ) → T (lt zero x) → (T (le x (fin false n d)) → ⊥) → T (lt (fin false n d) x)
unfolding le lt eq of_bits
from_not_le nan n d a h = absurd a
from_not_le (inf true) n d a h = absurd a
from_not_le (inf false) n d a h = tt
from_not_le (fin true m e) n d a h = absurd a
from_not_le (fin false m e) n d a h =
    let A = m * up e * down d in
    let B = n * up d * down e in
    elim (lt_or_ge B A) [
      | inl l ↦ lt→ltb B A l
      | inr l ↦
          absurd (elim (lt_or_ge A B) [
            | inl k ↦ h (or_left (ltb A B) (eqb A B && true) (lt→ltb A B k))
            | inr k ↦ h (or_right (ltb A B) (eqb A B && true) (and_i (eqb A B) true (eq→eqb (same A B l k)) tt))
          ])
    ]
  where
    same : (A B : ℕ) → A ≤ B → B ≤ A → A ≡ B
    same A B l k = omega arith

pub from_half : (x : Float) → T (lt zero x) → (T (lt x half) → ⊥) → T (le half x)
unfolding of_bits
from_half x a h = from_not_lt x 1 (negsuc 0) a h

pub above_one : (x : Float) → T (lt zero x) → (T (le x one) → ⊥) → T (lt one x)
unfolding of_bits
above_one x a h = from_not_le x 1 (pos 0) a h

-- ---- there is one NaN
pub nan_is : (x : Float) → T (is_nan x) → x ≡ nan
unfolding is_nan
nan_is nan h = refl
nan_is (inf s) h = absurd h
nan_is (fin s m e) h = absurd h

-- ---- the library's constants
pub over_zero : lit 0x7ff0_0000_0000_0000 ≡ inf false
unfolding of_bits
over_zero = refl

pub under_zero : lit 0xfff0_0000_0000_0000 ≡ inf true
unfolding of_bits
under_zero = refl

pub no_number : lit 0x7ff8_0000_0000_0000 ≡ nan
unfolding of_bits
no_number = refl
