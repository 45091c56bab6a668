-- A penalty, and a loss of what is used finitely often, is +0 or greater. Assumes nothing.
use mathlib.Core.Path.{◌≡◌, refl, sym, ap, ap₂, ◌∙◌, subst}
use mathlib.Core.Bool.{Bool, true, false, cond, true≢false}
use Prim.Native.Nat.{ℕ, zero, suc, ◌*◌, ◌^◌}
use native.Mathlib.Omega.{arith}
use borrow.Author.Tests.{ne_eqb}
use lib.IntN.{ℤ, pos}
use lib.Dec.{T, eqb, ltb}
use lib.Ieee.{Float, nan, inf, fin, binary64, up, down, level, odd, units, round, mul, lt, eq, fits, of_bits}
use lib.Ieee.Bits.{of_bits-fits}
use lib.Ieee.Fits.{round_is, cond-fits, mul-fits}
use lib.Ieee.Scale.{finite}
use Rattle.rounding.specs.Units.{Is}
use Rattle.math.specs.Steps.{◌⊖◌, ◌⊗◌, zero as nought}
use Rattle.losses.specs.Losses.{larger, penalty, loss}
use Rattle.losses.specs.Order.{from_nought, Uses}

nought_is : nought ≡ fin false 0 (pos 0)
unfolding of_bits
nought_is = refl

nought_sign : T (from_nought nought)
nought_sign = subst (λ (z : Float). T (from_nought z)) (sym nought_is) tt

cond_sign : (b : Bool) (x y : Float) → T (from_nought x) → T (from_nought y) → T (from_nought (cond b x y))
cond_sign true x y p q = p
cond_sign false x y p q = q

-- ---- what is rounded keeps its sign
odd_sign : (d q k l : ℕ) → T (from_nought (odd d false q k l))
unfolding odd
odd_sign d zero k l = tt
odd_sign d (suc q) k l = tt

units_sign : (q k : ℕ) → T (from_nought (units binary64 false q k))
unfolding units
units_sign q k = cond_sign (ltb (q * 2 ^ k) (2 ^ 2098)) (odd 54 false q k 1074) (inf false) (odd_sign 54 q k 1074) tt

round_sign : (a b : ℕ) → T (from_nought (round binary64 false a b))
round_sign a b = subst (λ (z : Float). T (from_nought z)) (sym (round_is binary64 false a b)) (units_sign _ _)

-- ---- the penalty
above_sign : (x : Float) → lt (fin false 0 (pos 0)) x ≡ true → T (from_nought x)
unfolding lt
above_sign nan e = absurd (true≢false (sym e))
above_sign (inf true) e = absurd (true≢false (sym e))
above_sign (inf false) e = tt
above_sign (fin true m d) e = absurd (true≢false (sym e))
above_sign (fin false m d) e = tt

larger_sign : (x : Float) → T (from_nought (larger x))
larger_sign x = go (lt nought x) refl
  where
    go : (b : Bool) → lt nought x ≡ b → T (from_nought (cond b x nought))
    go true e = above_sign x (ap (λ (z : Float). lt z x) (sym nought_is) ∙ e)
    go false e = nought_sign

pub penalty_sign : (score other : Float) → T (from_nought (penalty score other))
unfolding penalty
penalty_sign score other = cond_sign (finite other) (larger (score ⊖ other)) (inf false) (larger_sign (score ⊖ other)) tt

-- ---- the loss
zero_is : (e : ℤ) → eq (fin false 0 e) (fin false 0 (pos 0)) ≡ true
unfolding eq
zero_is e = ap₂ (λ (a b : ℕ). level false a false b) (none (up e) (down (pos 0))) (none (up (pos 0)) (down e))
  where
    none : (u d : ℕ) → 0 * u * d ≡ 0
    none u d = omega arith

some_digits : (m : ℕ) (e : ℤ) → eq (fin false m e) nought ≡ false → eqb m 0 ≡ false
some_digits zero e h = absurd (true≢false (sym (zero_is e) ∙ ap (eq (fin false 0 e)) (sym nought_is) ∙ h))
some_digits (suc m) e h = ne_eqb (suc m) 0 (λ z. not_none m z)
  where
    not_none : (m : ℕ) → suc m ≡ 0 → ⊥
    not_none m z = omega arith

times_sign : (m : ℕ) (e : ℤ) (p : Float) → eqb m 0 ≡ false → T (from_nought p) → T (from_nought (mul binary64 (fin false m e) p))
unfolding mul
times_sign m e nan h s = absurd s
times_sign m e (inf true) h s = absurd s
times_sign m e (inf false) h s = subst (λ (b : Bool). T (from_nought (cond b nan (inf false)))) (sym h) tt
times_sign m e (fin true n d) h s = absurd s
times_sign m e (fin false n d) h s = round_sign (m * up e * (n * up d)) (down e * down d)

used_sign : (used p : Float) → T (finite used) → T (from_nought used) → T (from_nought p) → eq used nought ≡ false → T (from_nought (used ⊗ p))
used_sign nan p f u s e = absurd f
used_sign (inf t) p f u s e = absurd f
used_sign (fin true m d) p f u s e = absurd u
used_sign (fin false m d) p f u s e = times_sign m d p (some_digits m d e) s

pub loss_sign : (used score other : Float) → Uses used → T (from_nought (loss used score other))
unfolding loss
loss_sign used score other u = go (eq used nought) refl
  where
    go : (b : Bool) → eq used nought ≡ b → T (from_nought (cond b nought (used ⊗ penalty score other)))
    go true e = nought_sign
    go false e = used_sign used (penalty score other) u.is_finite u.not_below (penalty_sign score other) e

-- ---- what it is at its ends
pub nothing_unused : (used score other : Float) → eq used nought ≡ true → loss used score other ≡ nought
unfolding loss
nothing_unused used score other e = ap (λ (b : Bool). cond b nought (used ⊗ penalty score other)) e

no_end : (used : Float) → T (finite used) → T (from_nought used) → eq used nought ≡ false → used ⊗ inf false ≡ inf false
unfolding mul
no_end nan f u e = absurd f
no_end (inf t) f u e = absurd f
no_end (fin true m d) f u e = absurd u
no_end (fin false m d) f u e = ap (λ (b : Bool). cond b nan (inf false)) (some_digits m d e)

pub without_alternative : (used score other : Float) → Uses used → eq used nought ≡ false → finite other ≡ false → loss used score other ≡ inf false
unfolding loss penalty
without_alternative used score other u e f =
    ap (λ (b : Bool). cond b nought (used ⊗ cond (finite other) (larger (score ⊖ other)) (inf false))) e
    ∙ ap (λ (b : Bool). used ⊗ cond b (larger (score ⊖ other)) (inf false)) f
    ∙ no_end used u.is_finite u.not_below e

-- ---- it is a float of the format
pub loss_fits : (used score other : Float) → T (fits binary64 (loss used score other))
unfolding loss
loss_fits used score other = cond-fits binary64 (eq used nought) nought (used ⊗ penalty score other) (of_bits-fits binary64 0) (mul-fits binary64 used (penalty score other))

-- ---- a number of units is finite, and +0 or greater
pub whole_uses : (x : Float) (v : ℕ) → Is x v → Uses x
whole_uses nan v i = absurd i
whole_uses (inf s) v i = absurd i
whole_uses (fin true m e) v i = absurd (true≢false i.0)
whole_uses (fin false m e) v i = record { is_finite = tt; not_below = tt }
