-- The order of values at zero or below, and that a rounded sum keeps it. Assumes nothing.
use mathlib.Core.Path.{◌≡◌, refl, sym, ◌∙◌, subst}
use mathlib.Core.Bool.{Bool, true, false, ◌&&◌, ◌||◌, true≢false}
use Prim.Native.Nat.{ℕ, ◌+◌, ◌*◌, ◌≤◌, ◌<◌}
use native.Mathlib.Nat.{add-zero, mul-pos, mul_comm, mul_assoc, mul_left_comm, add-mul, mul-le-mul_right, le_of_eq, le_of_lt, le_refl}
use native.Mathlib.Omega.{arith}
use lib.Dec.{T, ltb, eqb, eqb→eq}
use lib.IntN.{ℤ}
use borrow.Author.Tests.{ltb-true, ltb-false, le-ltb}
use lib.Ieee.{Float, nan, inf, fin, Format, up, down, round, add, lt, le}
use lib.Ieee.Fits.{down_pos, and_l}
use lib.Ieee.Order.{round_mono}
use lib.Ieee.Positive.{through}
use Rattle.scores.specs.Floats.{ZeroOrBelow}
use Rattle.scores.proofs.Sums.{size, Sum, minus_of, add_sum}

-- ---- the order: Leq x y is x ≤ y
abbrev Leq : Float → Float → Type 0
Leq nan y = ⊥
Leq (inf s) y = Unit
Leq (fin s m e) nan = ⊥
Leq (fin s m e) (inf t) = ⊥
Leq (fin s m e) (fin t n d) = n * up d * down e ≤ m * up e * down d

below_zero : (a b : ℕ) → b ≡ 0 → ltb 0 (a + b) ≡ ltb b a
below_zero a b q = rw q (rw add-zero)

lt_fin : (s : Bool) (m : ℕ) (e : ℤ) (t : Bool) (n : ℕ) (d : ℤ) → ZeroOrBelow (fin s m e) → ZeroOrBelow (fin t n d)
    → lt (fin s m e) (fin t n d) ≡ ltb (n * up d * down e) (m * up e * down d)
unfolding lt
lt_fin true m e true n d p q = refl
lt_fin true m e false n d p q = below_zero (m * up e * down d) (n * up d * down e) (minus_of false n (up d) (down e) d q)
lt_fin false m e true n d p q = let z = minus_of false m (up e) (down d) e p in sym (le-ltb (n * up d * down e) (m * up e * down d) (omega arith))
lt_fin false m e false n d p q =
    let z = minus_of false m (up e) (down d) e p in
    let y = minus_of false n (up d) (down e) d q in
    le-ltb (m * up e * down d) (n * up d * down e) (omega arith) ∙ sym (le-ltb (n * up d * down e) (m * up e * down d) (omega arith))

pub to_leq : (x y : Float) → ZeroOrBelow x → ZeroOrBelow y → lt y x ≡ false → Leq x y
to_leq nan y p q h = absurd p
to_leq (inf s) y p q h = tt
to_leq (fin s m e) nan p q h = absurd q
to_leq (fin s m e) (inf true) p q h = absurd (true≢false (unfold lt in h))
to_leq (fin s m e) (inf false) p q h = absurd q
to_leq (fin s m e) (fin t n d) p q h = ltb-false (m * up e * down d) (n * up d * down e) (sym (lt_fin t n d s m e q p) ∙ h)

pub from_leq : (x y : Float) → ZeroOrBelow x → ZeroOrBelow y → Leq x y → lt y x ≡ false
from_leq nan y p q h = absurd p
from_leq (inf true) nan p q h = absurd q
from_leq (inf true) (inf true) p q h = unfold lt in refl
from_leq (inf true) (inf false) p q h = absurd q
from_leq (inf true) (fin t n d) p q h = unfold lt in refl
from_leq (inf false) y p q h = absurd p
from_leq (fin s m e) nan p q h = absurd q
from_leq (fin s m e) (inf t) p q h = absurd h
from_leq (fin s m e) (fin t n d) p q h = lt_fin t n d s m e q p ∙ le-ltb (m * up e * down d) (n * up d * down e) h

pub leq_refl : (x : Float) → ZeroOrBelow x → Leq x x
leq_refl nan p = absurd p
leq_refl (inf s) p = tt
leq_refl (fin s m e) p = le_refl (m * up e * down e)

pub leq_trans : (x y z : Float) → Leq x y → Leq y z → ZeroOrBelow y → Leq x z
leq_trans nan y z h k q = absurd h
leq_trans (inf s) y z h k q = tt
leq_trans (fin s m e) nan z h k q = absurd h
leq_trans (fin s m e) (inf t) z h k q = absurd h
leq_trans (fin s m e) (fin t n d) nan h k q = absurd k
leq_trans (fin s m e) (fin t n d) (inf u) h k q = absurd k
leq_trans (fin s m e) (fin t n d) (fin u l c) h k q = through (l * up c) (n * up d) (m * up e) (down c) (down d) (down e) (down_pos d) k h

-- ---- a sum keeps the order
lt_or_eq : (a b : ℕ) → T (ltb a b || (eqb a b && true)) → a ≤ b
lt_or_eq a b = go (ltb a b) refl
  where
    go : (t : Bool) → ltb a b ≡ t → T (t || (eqb a b && true)) → a ≤ b
    go true e h = le_of_lt (ltb-true a b e)
    go false e h = le_of_eq (eqb→eq a b (and_l (eqb a b) true h))

leq_of_size : (x y : Float) → ZeroOrBelow x → ZeroOrBelow y → T (le (size y) (size x)) → Leq x y
unfolding le
leq_of_size nan y p q h = absurd p
leq_of_size (inf s) y p q h = tt
leq_of_size (fin s m e) nan p q h = absurd q
leq_of_size (fin s m e) (inf t) p q h = absurd h
leq_of_size (fin s m e) (fin t n d) p q h = lt_or_eq (n * up d * down e) (m * up e * down d) h

leq_of_sums : (f : Format) (a b c a' b' c' : ℕ) (x y : Float) → 0 < c → 0 < c' → Sum f a b c x → Sum f a' b' c' y → (a' + b') * c ≤ (a + b) * c' → Leq x y
leq_of_sums f a b c a' b' c' x y C C' p q h =
    leq_of_size x y p.signed q.signed
    (subst (λ (z : Float). T (le z (size x))) (sym q.sized) (subst (λ (z : Float). T (le (round f false (a' + b') c') z)) (sym p.sized) (round_mono f (a' + b') c' (a + b) c C' C h)))

-- y / e' ≤ x / e, and so y / e' + w / d ≤ x / e + w / d
widened : (x e y e' w d : ℕ) → y * e ≤ x * e' → (y * d + w * e') * (e * d) ≤ (x * d + w * e) * (e' * d)
widened x e y e' w d h =
    let a : y * d * (e * d) ≤ x * d * (e' * d) = simp (mul_assoc, mul_left_comm) (simp (mul_assoc, mul_comm) at (mul-le-mul_right (d * d) h)) in
    let b : w * e' * (e * d) ≡ w * e * (e' * d) = simp (mul_assoc, mul_comm, mul_left_comm) in
    rw (add-mul (y * d) (w * e') (e * d), add-mul (x * d) (w * e) (e' * d)) (omega arith)

pub leq_add : (f : Format) (x y s : Float) → ZeroOrBelow x → ZeroOrBelow y → ZeroOrBelow s → Leq x y → Leq (add f x s) (add f y s)
leq_add f nan y s p q r h = absurd p
leq_add f (inf t) y nan p q r h = absurd r
leq_add f (inf true) y (inf true) p q r h = unfold add in tt
leq_add f (inf true) y (inf false) p q r h = absurd r
leq_add f (inf false) y (inf u) p q r h = absurd p
leq_add f (inf t) y (fin u l c) p q r h = unfold add in tt
leq_add f (fin t m e) nan s p q r h = absurd q
leq_add f (fin t m e) (inf u) s p q r h = absurd h
leq_add f (fin t m e) (fin u n d) nan p q r h = absurd r
leq_add f (fin t m e) (fin u n d) (inf v) p q r h = unfold add in tt
leq_add f (fin t m e) (fin u n d) (fin v l c) p q r h =
    leq_of_sums f (m * up e * down c) (l * up c * down e) (down e * down c) (n * up d * down c) (l * up c * down d) (down d * down c) (add f (fin t m e) (fin v l c)) (add f (fin u n d) (fin v l c))
    (mul-pos (down_pos e) (down_pos c)) (mul-pos (down_pos d) (down_pos c)) (add_sum f t m e v l c p r) (add_sum f u n d v l c q r)
    (widened (m * up e) (down e) (n * up d) (down d) (l * up c) (down c) h)

-- ---- one order
pub leq_asym : (x y : Float) → ZeroOrBelow x → ZeroOrBelow y → lt x y ≡ true → lt y x ≡ false
leq_asym nan y p q h = absurd p
leq_asym (inf s) nan p q h = absurd q
leq_asym (inf s) (inf t) p q h = from_leq (inf s) (inf t) p q tt
leq_asym (inf s) (fin t n d) p q h = from_leq (inf s) (fin t n d) p q tt
leq_asym (fin s m e) nan p q h = absurd q
leq_asym (fin s m e) (inf true) p q h = absurd (true≢false (sym (unfold lt in h)))
leq_asym (fin s m e) (inf false) p q h = absurd q
leq_asym (fin s m e) (fin t n d) p q h = from_leq (fin s m e) (fin t n d) p q (le_of_lt (ltb-true (n * up d * down e) (m * up e * down d) (sym (lt_fin s m e t n d p q) ∙ h)))
