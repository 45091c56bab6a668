-- The class of a first byte: the table's rule from one computed test, and a table that is right.
-- Assumes nothing.
use Prim.Native.Nat.{ℕ, zero, suc, ◌+◌, ◌-◌, ◌<◌, ◌≤◌}
use mathlib.Core.Path.{◌≡◌, refl, ◌∙◌, sym, ap, subst}
use mathlib.Core.Logic.{◌⊎◌, inl, inr}
use mathlib.Core.Bool.{Bool, true, ◌&&◌}
use mathlib.Core.List.{List, [], ◌∷◌}
use lib.Dec.{T, eqb, eqb→eq, ltb}
use lib.ListN.{length, get_or}
use native.Mathlib.Omega.{arith}
use borrow.Author.Tests.{ltb-true, eqb-true}
use lib.Seq.{get_or-drop}
use native.Mathlib.Nat.{add-zero, eq-or-lt_of_le}
use lib.ListN.{drop}
use Rattle.std.specs.Prelude.{Option}
use Rattle.utf8.specs.Grammar.{Range}
use Rattle.laws.proofs.Choices.{cond_cases}
use Rattle.utf8.proofs.Tests.{in_range, range}
use Rattle.utf8.specs.Decode.{character, within, class_of, class_in, Right, by_class, decoded, decoded_by}
use Rattle.utf8.specs.declared.Char.{Char}
use lib.Ieee.Fits.{and_l, and_r}
use Rattle.laws.proofs.Tables.{every, at}

-- the test of one entry
unfoldable pub is_class : ℕ → ℕ → Bool
unfolding class_of
is_class a x = eqb x (class_of a)

-- a table of 256 entries, each of which passes its test, is right
pub right_table : (table : List ℕ) → length table ≡ 256 → T (every is_class 0 table) → Right table
unfolding is_class class_in
right_table table n t = record {
  entries = n;
  entry = λ a h. eqb→eq (get_or table a 0) (class_of a) (at is_class table t a (subst (λ (m : ℕ). a < m) (sym n) h));
}

-- An ASCII byte has class 1. So a right table says the same as the classes themselves, whatever byte stands first.
pub ascii_class : (a : ℕ) → a < 0x80 → class_of a ≡ 1
unfolding class_of
ascii_class a h = rw (in_range (ascii_range a h))
  where
    ascii_range : (x : ℕ) → x < 0x80 → Range 0x00 0x7F x
    ascii_range x l = record { from = omega arith; upto = omega arith }

by_right : {table : List ℕ} → Right table → (s : List ℕ) → get_or s 0 0 < 256 → decoded_by table s ≡ decoded s
unfolding decoded_by decoded by_class
by_right r [] h = refl
by_right {table} r (a ∷ s) h =
    cond_cases (λ (d : Option Char). d ≡ by_class (class_of a) a s) (ltb a 0x80) (character a 1) (by_class (class_in table a) a s)
    (λ t. sym (ap (λ (k : ℕ). by_class k a s) (ascii_class a (ltb-true a 0x80 t))))
    (λ t. ap (λ (k : ℕ). by_class k a s) (r.entry a h))

pub by_right_at : {table : List ℕ} → Right table → (text : List ℕ) (at : ℕ) → get_or text at 0 < 256 → decoded_by table (drop at text) ≡ decoded (drop at text)
by_right_at r text at h = by_right r (drop at text) (rw (get_or-drop at text 0 0, add-zero at) h)

-- The class of a first byte, and what it says of the byte. Of class 0 nothing is needed.
pub data Classed (a : ℕ) : ℕ → Type 0 where
  none : Classed a 0
  one : Range 0x00 0x7F a → Classed a 1
  two : Range 0xC2 0xDF a → Classed a 2
  three_E0 : a ≡ 0xE0 → Classed a 3
  three_E1 : Range 0xE1 0xEC a → Classed a 4
  three_ED : a ≡ 0xED → Classed a 5
  three_EE : Range 0xEE 0xEF a → Classed a 4
  four_F0 : a ≡ 0xF0 → Classed a 6
  four_F1 : Range 0xF1 0xF3 a → Classed a 7
  four_F4 : a ≡ 0xF4 → Classed a 8

pub classed : (a : ℕ) → Classed a (class_of a)
unfolding class_of
classed a =
    cond_cases (Classed a) (within 0x00 0x7F a) _ _ (λ t. one (range t))
    (λ _. cond_cases (Classed a) (within 0xC2 0xDF a) _ _ (λ t. two (range t))
    (λ _. cond_cases (Classed a) (eqb a 0xE0) _ _ (λ t. three_E0 (eqb-true a 0xE0 t))
    (λ _. cond_cases (Classed a) (within 0xE1 0xEC a) _ _ (λ t. three_E1 (range t))
    (λ _. cond_cases (Classed a) (eqb a 0xED) _ _ (λ t. three_ED (eqb-true a 0xED t))
    (λ _. cond_cases (Classed a) (within 0xEE 0xEF a) _ _ (λ t. three_EE (range t))
    (λ _. cond_cases (Classed a) (eqb a 0xF0) _ _ (λ t. four_F0 (eqb-true a 0xF0 t))
    (λ _. cond_cases (Classed a) (within 0xF1 0xF3 a) _ _ (λ t. four_F1 (range t))
    (λ _. cond_cases (Classed a) (eqb a 0xF4) _ _ (λ t. four_F4 (eqb-true a 0xF4 t)) (λ _. none)))))))))

-- The other way round: the n bytes from `low` on all have the class k, if a test computed at each of them says so.
unfoldable pub all_class : ℕ → ℕ → ℕ → Bool
unfolding class_of
all_class k low zero = true
all_class k low (suc n) = eqb (class_of low) k && all_class k (suc low) n

same_class : (k low n : ℕ) → T (all_class k low n) → (a : ℕ) → low ≤ a → a < low + n → class_of a ≡ k
unfolding all_class
same_class k low zero t a l h = absurd (omega arith)
same_class k low (suc n) t a l h = go (eq-or-lt_of_le l) (same_class k (suc low) n (and_r (eqb (class_of low) k) (all_class k (suc low) n) t) a)
  where
    go : (low ≡ a) ⊎ (low < a) → (suc low ≤ a → a < suc low + n → class_of a ≡ k) → class_of a ≡ k
    go (inl e) f = ap class_of (sym e) ∙ eqb→eq (class_of low) k (and_l (eqb (class_of low) k) (all_class k (suc low) n) t)
    go (inr m) f = f m (omega arith)

pub range_class : (k : ℕ) {low high a : ℕ} → T (all_class k low (suc high - low)) → Range low high a → class_of a ≡ k
range_class k {low} {high} {a} t r = same_class k low (suc high - low) t a r.from (omega (arith, r.from, r.upto))
