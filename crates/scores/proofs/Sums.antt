-- The rounded sum of two values at zero or below is at zero or below, and its size is the rounded sum of their sizes. Assumes nothing.
use mathlib.Core.Path.{◌≡◌, refl, sym, ap, ◌∙◌, subst}
use mathlib.Core.Bool.{Bool, true, false, ◌&&◌, cond, beq}
use Prim.Native.Nat.{ℕ, zero, suc, ◌+◌, ◌-◌, ◌*◌, ◌^◌, ◌<◌}
use native.Mathlib.Nat.{zero-mul, mul-pos, lt_irrefl}
use native.Mathlib.Omega.{arith}
use lib.Dec.{ltb, eqb→eq, eqb_refl}
use lib.IntN.{ℤ}
use borrow.Author.Tests.{ltb-true, ltb-false}
use lib.Ieee.{Float, nan, inf, fin, Format, prec, low, emax, up, down, odd, units, round, sum, add}
use lib.Ieee.Fits.{up_pos, down_pos, round_is}
use lib.Ieee.Exact.{HasValue, round_exact}
use lib.Pow.{pow_pos}
use Rattle.scores.specs.Floats.{ZeroOrBelow}

-- ---- the size of a value
abbrev pub size : Float → Float
size nan = nan
size (inf s) = inf false
size (fin s m e) = fin false m e

size_odd : (d : ℕ) (s : Bool) (q k l : ℕ) → size (odd d s q k l) ≡ odd d false q k l
unfolding odd
size_odd d s zero k l = refl
size_odd d s (suc q) k l = refl

size_units : (f : Format) (s : Bool) (q k : ℕ) → size (units f s q k) ≡ units f false q k
unfolding units
size_units f s q k = go (ltb (q * 2 ^ k) (2 ^ (low f + suc (emax f))))
  where
    go : (b : Bool) → size (cond b (odd (suc (prec f)) s q k (low f)) (inf s)) ≡ cond b (odd (suc (prec f)) false q k (low f)) (inf false)
    go true = size_odd (suc (prec f)) s q k (low f)
    go false = refl

size_round : (f : Format) (s : Bool) (a c : ℕ) → size (round f s a c) ≡ round f false a c
size_round f s a c = ap size (round_is f s a c) ∙ size_units f s _ _ ∙ sym (round_is f false a c)

-- ---- a rounded negative fraction is at zero or below, and so is a rounded 0
odd_below : (d q k l : ℕ) → ZeroOrBelow (odd d true q k l)
unfolding odd
odd_below d zero k l = tt
odd_below d (suc q) k l = tt

units_below : (f : Format) (q k : ℕ) → ZeroOrBelow (units f true q k)
unfolding units
units_below f q k = go (ltb (q * 2 ^ k) (2 ^ (low f + suc (emax f))))
  where
    go : (b : Bool) → ZeroOrBelow (cond b (odd (suc (prec f)) true q k (low f)) (inf true))
    go true = odd_below (suc (prec f)) q k (low f)
    go false = tt

round_below : (f : Format) (a c : ℕ) → ZeroOrBelow (round f true a c)
round_below f a c = subst ZeroOrBelow (sym (round_is f true a c)) (units_below f _ _)

pub nothing : (m u v : ℕ) → m ≡ 0 → m * u * v ≡ 0
nothing m u v e = ap (λ (x : ℕ). x * u * v) e ∙ ap (λ (x : ℕ). x * v) (zero-mul u) ∙ zero-mul v

value_zero : (x : Float) (c : ℕ) → 0 < c → HasValue x false 0 c → ZeroOrBelow x
value_zero nan c C h = absurd h
value_zero (inf s) c C h = absurd h
value_zero (fin true m e) c C h = tt
value_zero (fin false zero e) c C h = eqb_refl 0
value_zero (fin false (suc m) e) c C h =
    absurd (lt_irrefl 0 (subst (λ (z : ℕ). 0 < z) (h.1 ∙ zero-mul (down e)) (mul-pos (mul-pos (pos_suc m) (up_pos e)) C)))
  where
    pos_suc : (m : ℕ) → 0 < suc m
    pos_suc m = omega arith

nought_below : (f : Format) (c : ℕ) → 0 < c → ZeroOrBelow (round f false 0 c)
nought_below f c C = value_zero (round f false 0 c) c C (round_exact f false 0 c 0 0 C (pow_pos (prec f)) (subst (λ (x : ℕ). x < 2 ^ (low f + suc (emax f))) (sym (zero-mul (2 ^ 0))) (pow_pos (low f + suc (emax f)))) (zero-mul (2 ^ low f) ∙ sym (nothing 0 (2 ^ 0) c refl)))

-- ---- the sum of two values at zero or below: ±a / c and ±b / c, where a sign is minus or the number is 0
abbrev Minus : Bool → ℕ → Type 0
Minus true a = Unit
Minus false a = a ≡ 0

pub minus_of : (s : Bool) (m u v : ℕ) (e : ℤ) → ZeroOrBelow (fin s m e) → Minus s (m * u * v)
minus_of true m u v e h = tt
minus_of false m u v e h = nothing m u v (eqb→eq m 0 h)

pub record Sum (f : Format) (a b c : ℕ) (r : Float) : Type 0 where
  pub sized : size r ≡ round f false (a + b) c
  pub signed : ZeroOrBelow r

minus_sum : (f : Format) (a b c n : ℕ) → n ≡ a + b → Sum f a b c (round f true n c)
minus_sum f a b c n e = record { sized = size_round f true n c ∙ ap (λ (x : ℕ). round f false x c) e; signed = round_below f n c }

nought_sum : (f : Format) (a b c n : ℕ) → 0 < c → n ≡ a + b → n ≡ 0 → Sum f a b c (round f false n c)
nought_sum f a b c n C e z =
    record {
      sized = size_round f false n c ∙ ap (λ (x : ℕ). round f false x c) e;
      signed = subst (λ (x : ℕ). ZeroOrBelow (round f false x c)) (sym z) (nought_below f c C);
    }

sum_is : (f : Format) (s : Bool) (a : ℕ) (t : Bool) (b c : ℕ)
    → sum f s a t b c ≡ cond (beq s t) (round f s (a + b) c) (cond (ltb a b) (round f t (b - a) c) (round f (s && ltb b a) (a - b) c))
unfolding sum
sum_is f s a t b c = refl

-- the sum of -a / c and 0, and of 0 and -b / c
left : (f : Format) (a b c : ℕ) (u v : Bool) → 0 < c → b ≡ 0 → ltb a b ≡ u → ltb b a ≡ v → Sum f a b c (cond u (round f false (b - a) c) (round f v (a - b) c))
left f a b c true v C q hu hv = absurd (nope a b q (ltb-true a b hu))
  where
    nope : (a b : ℕ) → b ≡ 0 → a < b → ⊥
    nope a b q h = omega arith
left f a b c false true C q hu hv = minus_sum f a b c (a - b) (omega arith)
left f a b c false false C q hu hv = let h = ltb-false b a hv in nought_sum f a b c (a - b) C (omega arith) (omega arith)

right : (f : Format) (a b c : ℕ) (u : Bool) → 0 < c → a ≡ 0 → ltb a b ≡ u → Sum f a b c (cond u (round f true (b - a) c) (round f false (a - b) c))
right f a b c true C p hu = minus_sum f a b c (b - a) (omega arith)
right f a b c false C p hu = let h = ltb-false a b hu in nought_sum f a b c (a - b) C (omega arith) (omega arith)

sum_of : (f : Format) (s : Bool) (a : ℕ) (t : Bool) (b c : ℕ) → 0 < c → Minus s a → Minus t b → Sum f a b c (sum f s a t b c)
sum_of f true a true b c C p q = rw sum_is (minus_sum f a b c (a + b) refl)
sum_of f true a false b c C p q = rw sum_is (left f a b c (ltb a b) (ltb b a) C q refl refl)
sum_of f false a true b c C p q = rw sum_is (right f a b c (ltb a b) C p refl)
sum_of f false a false b c C p q = rw sum_is (nought_sum f a b c (a + b) C refl (omega arith))

-- ---- the sum of values at zero or below is one
pub add_sum : (f : Format) (s : Bool) (m : ℕ) (e : ℤ) (t : Bool) (n : ℕ) (d : ℤ) → ZeroOrBelow (fin s m e) → ZeroOrBelow (fin t n d)
    → Sum f (m * up e * down d) (n * up d * down e) (down e * down d) (add f (fin s m e) (fin t n d))
unfolding add
add_sum f s m e t n d p q = sum_of f s (m * up e * down d) t (n * up d * down e) (down e * down d) (mul-pos (down_pos e) (down_pos d)) (minus_of s m (up e) (down d) e p) (minus_of t n (up d) (down e) d q)

pub add_below : (f : Format) (x y : Float) → ZeroOrBelow x → ZeroOrBelow y → ZeroOrBelow (add f x y)
add_below f nan y p q = absurd p
add_below f (inf s) nan p q = absurd q
add_below f (inf true) (inf true) p q = unfold add in tt
add_below f (inf true) (inf false) p q = absurd q
add_below f (inf false) (inf t) p q = absurd p
add_below f (inf s) (fin t n d) p q = unfold add in p
add_below f (fin s m e) nan p q = absurd q
add_below f (fin s m e) (inf t) p q = unfold add in q
add_below f (fin s m e) (fin t n d) p q = (add_sum f s m e t n d p q).signed
