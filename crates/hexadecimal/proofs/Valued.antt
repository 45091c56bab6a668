-- A byte as a digit, and the digit of a number: each from the other.
-- Assumes nothing.
use Prim.Native.Nat.{ℕ, ◌+◌, ◌-◌, ◌≤◌, ◌<◌}
use mathlib.Core.Path.{◌≡◌, ◌∙◌, sym, ap, subst}
use mathlib.Core.Bool.{Bool, cond}
use native.Mathlib.Omega.{arith}
use lib.Dec.{leb, ltb}
use borrow.Author.Tests.{ltb-false, leb-true, ltb-true, lt-ltb, le-ltb, le-leb, lt-leb}
use Rattle.std.specs.Prelude.{Option, Some, None}
use Rattle.laws.proofs.Choices.{cond_cases}
use Rattle.hexadecimal.specs.Digits.{digit_of, value_of}

-- a number below 16 has the one digit
abbrev Made : ℕ → Option ℕ → Type 0
Made b (Some d) = (d < 16) × (b ≡ digit_of d)
Made b None = Unit {0}

low : (b : ℕ) → 48 ≤ b → b ≤ 57 → Made b (Some (b - 48))
low b g h = (omega arith, sym (ap (λ (t : Bool). cond t (48 + (b - 48)) (87 + (b - 48))) (lt-ltb (b - 48) 10 (omega arith)) ∙ omega arith))

high : (b : ℕ) → 97 ≤ b → b ≤ 102 → Made b (Some (b - 87))
high b g h = (omega arith, sym (ap (λ (t : Bool). cond t (48 + (b - 87)) (87 + (b - 87))) (le-ltb (b - 87) 10 (omega arith)) ∙ omega arith))

made : (b : ℕ) → Made b (value_of b)
unfolding value_of
made b =
    cond_cases (Made b) (ltb b 48) _ _ (λ _. tt)
    (λ s. cond_cases (Made b) (leb b 57) _ _ (λ t. low b (ltb-false b 48 s) (leb-true b 57 t))
    (λ _. cond_cases (Made b) (ltb b 97) _ _ (λ _. tt)
    (λ u. cond_cases (Made b) (leb b 102) _ _ (λ t. high b (ltb-false b 97 u) (leb-true b 102 t)) (λ _. tt))))

pub digit_below : (b : ℕ) {d : ℕ} → value_of b ≡ Some d → d < 16
digit_below b e = (subst (Made b) e (made b)).0

pub digit_made : (b : ℕ) {d : ℕ} → value_of b ≡ Some d → b ≡ digit_of d
digit_made b e = (subst (Made b) e (made b)).1

-- the digits below ten, and those from ten on
module _ (b : ℕ) where
  from_0 : 48 ≤ b → b ≤ 57 → Some (b - 48) ≡ value_of b
  unfolding value_of
  from_0 g h = rw (le-ltb b 48 g, le-leb b 57 h)

  from_a : 97 ≤ b → b ≤ 102 → Some (b - 87) ≡ value_of b
  unfolding value_of
  from_a g h =
      let l : 48 ≤ b = omega arith in
      let m : 57 < b = omega arith in
      rw (le-ltb b 48 l, lt-leb b 57 m, le-ltb b 97 g, le-leb b 102 h)

-- a digit stands for the number that made it
pub value_digit : (v : ℕ) → v < 16 → value_of (digit_of v) ≡ Some v
value_digit v h =
    cond_cases (λ (b : ℕ). value_of b ≡ Some v) (ltb v 10) (48 + v) (87 + v) (λ t. small (ltb-true v 10 t)) (λ t. large (ltb-false v 10 t))
  where
    small : v < 10 → value_of (48 + v) ≡ Some v
    small l = sym (from_0 (48 + v) (omega arith) (omega arith)) ∙ ap (λ (n : ℕ). Some n) (omega arith)

    large : 10 ≤ v → value_of (87 + v) ≡ Some v
    large l = sym (from_a (87 + v) (omega arith) (omega arith)) ∙ ap (λ (n : ℕ). Some n) (omega arith)
