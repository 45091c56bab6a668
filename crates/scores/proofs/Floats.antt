-- f64 scores at zero or below keep the laws of scores, and a program's tests of them. Assumes nothing.
use mathlib.Core.Path.{◌≡◌, refl, sym, subst}
use mathlib.Core.Bool.{Bool, true, false, ◌&&◌, ◌||◌, true≢false}
use Prim.Native.Nat.{ℕ, zero, suc, ◌+◌, ◌*◌, ◌<◌}
use native.Mathlib.Nat.{mul-pos, lt_irrefl}
use native.Mathlib.Omega.{arith}
use lib.Dec.{T, ltb, eqb, eqb_refl}
use lib.IntN.{pos}
use borrow.Author.Tests.{lt-ltb, le-ltb, ne_eqb}
use lib.Ieee.{Float, nan, inf, fin, Format, binary64, up, down, add, lt, le}
use lib.Ieee.Fits.{up_pos, down_pos}
use lib.Ieee.Scale.{finite}
use Rattle.scores.specs.Domain.{Laws}
use Rattle.scores.specs.Floats.{zero_or_below, ZeroOrBelow, f64s}
use Rattle.scores.proofs.Sums.{nothing, add_below}
use Rattle.scores.proofs.Order.{leq_refl, leq_trans, leq_add, leq_asym, to_leq, from_leq}

minus_infinity : (x : Float) → ZeroOrBelow x → lt (inf true) x ≡ false → x ≡ inf true
minus_infinity nan p h = absurd p
minus_infinity (inf true) p h = refl
minus_infinity (inf false) p h = absurd p
minus_infinity (fin s m e) p h = absurd (true≢false (unfold lt in h))

absorbs : (f : Format) (s : Float) → ZeroOrBelow s → add f (inf true) s ≡ inf true
absorbs f nan p = absurd p
absorbs f (inf true) p = unfold add in refl
absorbs f (inf false) p = absurd p
absorbs f (fin t m e) p = unfold add in refl

pub f64_laws : Laws f64s ZeroOrBelow
f64_laws =
    record {
      zero_in = eqb_refl 0;
      bottom_in = tt;
      add_in = λ {x} {s} p q. add_below binary64 x s p q;
      irreflexive = λ {x} p. from_leq x x p p (leq_refl x p);
      asymmetric = λ {x} {y} p q h. leq_asym x y p q h;
      transitive = λ {x} {y} {z} p q r h k. from_leq x z p r (leq_trans x y z (to_leq x y p q h) (to_leq y z q r k) q);
      monotone = λ {x} {y} {s} p q r h. from_leq (add binary64 x s) (add binary64 y s) (add_below binary64 x s p r) (add_below binary64 y s q r) (leq_add binary64 x y s p q r (to_leq x y p q h));
      least = λ {x} p. from_leq (inf true) x tt p tt;
      only = λ {x} p h. minus_infinity x p h;
      absorbing = λ {s} p. absorbs binary64 s p;
    }

-- ---- the test `x <= 0.0`
or_true : (a : Bool) → a ≡ true → (b : Bool) → (a || b) ≡ true
or_true true e b = refl
or_true false e b = absurd (true≢false (sym e))

tested : (a b : ℕ) → b ≡ 0 → (ltb 0 (a + b) || (eqb a b && eqb a 0)) ≡ true
tested zero b z = rw z refl
tested (suc a) b z = or_true (ltb 0 (suc a + b)) (lt-ltb 0 (suc a + b) (omega arith)) (eqb (suc a) b && eqb (suc a) 0)

and_true : (a : Bool) → (a && true) ≡ a
and_true true = refl
and_true false = refl

plain : (m a b : ℕ) → b ≡ 0 → (m ≡ 0 → a ≡ 0) → (0 < m → 0 < a) → (ltb a b || (eqb a b && true)) ≡ eqb m 0
plain zero a b z f g = rw (z, f refl) refl
plain (suc m) a b z f g = let h = g (omega arith) in rw (le-ltb a b (omega arith), ne_eqb a b (λ (e : a ≡ b). lt_irrefl 0 (omega arith)), ne_eqb (suc m) 0 (λ (e : suc m ≡ 0). lt_irrefl 0 (omega arith))) refl

pub le_zero : (x : Float) → le x (fin false 0 (pos 0)) ≡ zero_or_below x
unfolding le
le_zero nan = refl
le_zero (inf true) = refl
le_zero (inf false) = refl
le_zero (fin true m e) = tested (m * up e * down (pos 0)) (0 * up (pos 0) * down e) (nothing 0 (up (pos 0)) (down e) refl)
le_zero (fin false m e) =
    plain m (m * up e * down (pos 0)) (0 * up (pos 0) * down e) (nothing 0 (up (pos 0)) (down e) refl) (nothing m (up e) (down (pos 0)))
    (λ (h : 0 < m). mul-pos (mul-pos h (up_pos e)) (down_pos (pos 0)))

-- above minus infinity is finite
pub above_bottom : (x : Float) → ZeroOrBelow x → lt (inf true) x ≡ finite x
above_bottom nan p = absurd p
above_bottom (inf true) p = unfold lt in refl
above_bottom (inf false) p = absurd p
above_bottom (fin s m e) p = unfold lt in refl

-- what precedes a finite sum is finite
pub finite_before : (x s : Float) → ZeroOrBelow x → ZeroOrBelow s → T (finite (add binary64 x s)) → T (finite x)
finite_before nan s p q h = absurd p
finite_before (inf true) s p q h = absurd (subst (λ (y : Float). T (finite y)) (absorbs binary64 s q) h)
finite_before (inf false) s p q h = absurd p
finite_before (fin t m e) s p q h = tt
