-- Whole-number scores keep the laws of scores. Assumes nothing.
use mathlib.Core.Path.{◌≡◌, refl, sym, ap, ◌∙◌, subst}
use mathlib.Core.Bool.{false}
use Prim.Native.Nat.{ℕ, zero, suc, ◌+◌, ◌≤◌, min}
use native.Mathlib.Omega.{arith}
use lib.Dec.{ltb, leb-suc-suc}
use lib.IntN.{ℤ, nat_abs}
use lib.Signed.{lt_z}
use borrow.Author.Tests.{ltb-true, ltb-false, lt-ltb, le-ltb}
use Rattle.scores.specs.Domain.{Laws}
use Rattle.scores.specs.Whole.{minus, wholes, FromTop}

abs_minus : (n : ℕ) → nat_abs (minus n) ≡ n
abs_minus zero = refl
abs_minus (suc n) = refl

minus_order : (m n : ℕ) → lt_z (minus m) (minus n) ≡ ltb n m
minus_order zero zero = sym (le-ltb 0 0 (omega arith))
minus_order zero (suc n) = sym (le-ltb (suc n) 0 (omega arith))
minus_order (suc m) zero = sym (lt-ltb 0 (suc m) (omega arith))
minus_order (suc m) (suc n) = sym (leb-suc-suc (suc n) m)

module _ (top : ℕ) where
  from_top : (n : ℕ) → n ≤ top → FromTop top (minus n)
  from_top n h = record { is = sym (ap minus (abs_minus n)); within = subst (λ (x : ℕ). x ≤ top) (sym (abs_minus n)) h }

  order : {x y : ℤ} → FromTop top x → FromTop top y → lt_z x y ≡ ltb (nat_abs y) (nat_abs x)
  order {x} {y} p q = ap (λ (z : ℤ). lt_z z y) p.is ∙ ap (λ (z : ℤ). lt_z (minus (nat_abs x)) z) q.is ∙ minus_order (nat_abs x) (nat_abs y)

  -- x ≤ y, by their sizes
  at_most : {x y : ℤ} → FromTop top x → FromTop top y → lt_z y x ≡ false → nat_abs y ≤ nat_abs x
  at_most {x} {y} p q h = ltb-false (nat_abs x) (nat_abs y) (sym (order q p) ∙ h)

  not_less : {x y : ℤ} → FromTop top x → FromTop top y → nat_abs y ≤ nat_abs x → lt_z y x ≡ false
  not_less {x} {y} p q h = order q p ∙ le-ltb (nat_abs x) (nat_abs y) h

  same : {x y : ℤ} → FromTop top x → FromTop top y → nat_abs x ≡ nat_abs y → x ≡ y
  same p q e = p.is ∙ ap minus e ∙ sym q.is

  sums : (x s : ℤ) → nat_abs ((wholes top).add x s) ≡ min top (nat_abs x + nat_abs s)
  sums x s = abs_minus (min top (nat_abs x + nat_abs s))

  sum_in : (x s : ℤ) → FromTop top ((wholes top).add x s)
  sum_in x s = from_top (min top (nat_abs x + nat_abs s)) (omega arith)

  pub whole_laws : Laws (wholes top) (FromTop top)
  whole_laws =
      let low = abs_minus top in
      let lowest = from_top top (omega arith) in
      record {
        zero_in = from_top 0 (omega arith);
        bottom_in = lowest;
        add_in = λ {x} {s} p q. sum_in x s;
        irreflexive = λ p. not_less p p (omega arith);
        asymmetric = λ {x} {y} p q h. let l = ltb-true (nat_abs y) (nat_abs x) (sym (order p q) ∙ h) in not_less p q (omega arith);
        transitive = λ p q r h k. let a = at_most p q h in let b = at_most q r k in not_less p r (omega arith);
        monotone = λ {x} {y} {s} p q r h. let a = at_most p q h in let e = sums x s in let f = sums y s in not_less (sum_in x s) (sum_in y s) (omega arith);
        least = λ p. let w = p.within in not_less lowest p (omega arith);
        only = λ p h. let a = at_most p lowest h in let w = p.within in same p lowest (omega arith);
        absorbing = λ {s} p. let e = sums (minus top) s in same (sum_in (minus top) s) lowest (omega arith);
      }
