-- The operations at values by their units: a sum, a difference and a product are one rounding of the exact number. Assumes nothing.
use mathlib.Core.Path.{◌≡◌, refl, sym, ap, ◌∙◌}
use Prim.Native.Nat.{ℕ, zero, suc, ◌+◌, ◌-◌, ◌*◌, ◌^◌, ◌≤◌, ◌<◌}
use native.Mathlib.Nat.{le_of_eq, lt_of_lt_of_le, lt_of_le_of_lt, not-le_of_lt, mul_comm, mul_assoc, mul-sub, mul_left_comm, mul_right_comm, mul-mul-mul_comm, mul-lt-mul_of_pos_right, lt_of_mul-lt-mul_right, mul-pos, eq_of_mul-eq-mul_right}
use native.Mathlib.Omega.{arith}
use mathlib.Core.Bool.{Bool, true, false, not, ◌&&◌, cond, beq, true≢false}
use lib.Dec.{T, ltb, eqb, ltb→lt, lt→ltb, eqb→eq, not_T}
use lib.Pow.{pow_pos}
use lib.Ieee.{Float, nan, inf, fin, binary64, up, down, round, sum, add, neg, mul, div, sub}
use lib.Ieee.Fits.{up_pos, down_pos}
use lib.Ieee.Bits.{cond_no}
use lib.Ieee.Exact.{HasValue}
use lib.Ieee.Scale.{round_same}
use Rattle.rounding.specs.Units.{Is}

-- ---- a product
pub mul_units : (x y : Float) (a b : ℕ) → Is x a → Is y b → mul binary64 x y ≡ round binary64 false (a * b) (2 ^ 1074 * 2 ^ 1074)
unfolding mul
mul_units nan y a b p q = absurd p
mul_units (inf s) y a b p q = absurd p
mul_units (fin true m e) y a b p q = absurd (true≢false p.0)
mul_units (fin false m e) nan a b p q = absurd q
mul_units (fin false m e) (inf t) a b p q = absurd q
mul_units (fin false m e) (fin true n d) a b p q = absurd (true≢false q.0)
mul_units (fin false m e) (fin false n d) a b p q =
    round_same binary64 false (m * up e * (n * up d)) (down e * down d) (a * b) (2 ^ 1074 * 2 ^ 1074) (mul-pos (down_pos e) (down_pos d)) (mul-pos (pow_pos 1074) (pow_pos 1074))
    (cross (m * up e) (n * up d) (2 ^ 1074) a b (down e) (down d) p.1 q.1)
  where
    cross : (X Y U a b E D : ℕ) → X * U ≡ a * E → Y * U ≡ b * D → X * Y * (U * U) ≡ a * b * (E * D)
    cross X Y U a b E D h k = mul-mul-mul_comm X Y U U ∙ ap (λ (z : ℕ). z * (Y * U)) h ∙ ap (λ (z : ℕ). a * E * z) k ∙ mul-mul-mul_comm a E b D

-- ---- a quotient
pub div_units : (x y : Float) (a b : ℕ) → Is x a → Is y b → 0 < b → div binary64 x y ≡ round binary64 false a b
unfolding div
div_units nan y a b p q h = absurd p
div_units (inf s) y a b p q h = absurd p
div_units (fin true m e) y a b p q h = absurd (true≢false p.0)
div_units (fin false m e) nan a b p q h = absurd q
div_units (fin false m e) (inf t) a b p q h = absurd q
div_units (fin false m e) (fin true n d) a b p q h = absurd (true≢false q.0)
div_units (fin false m e) (fin false zero d) a b p q h = absurd (none (up d) (2 ^ 1074) b (down d) q.1 (mul-pos h (down_pos d)))
  where
    none : (u U b d : ℕ) → 0 * u * U ≡ b * d → 0 < b * d → ⊥
    none u U b d e h = omega arith
div_units (fin false m e) (fin false (suc n) d) a b p q h =
    cond_no (eqb (suc n) 0) (cond (eqb m 0) nan (inf false)) (round binary64 false (m * up e * down d) (suc n * up d * down e)) (not_T (eqb (suc n) 0) (λ (t : T (eqb (suc n) 0)). positive n (eqb→eq (suc n) 0 t)))
    ∙ round_same binary64 false (m * up e * down d) (suc n * up d * down e) a b (mul-pos (mul-pos (pos_suc n) (up_pos d)) (down_pos e)) h
    (cross (m * up e) (suc n * up d) (2 ^ 1074) a b (down e) (down d) (pow_pos 1074) p.1 q.1)
  where
    pos_suc : (n : ℕ) → 0 < suc n
    pos_suc n = omega arith

    positive : (n : ℕ) → suc n ≡ 0 → ⊥
    positive n e = omega arith

    cross : (X Y U a b E D : ℕ) → 0 < U → X * U ≡ a * E → Y * U ≡ b * D → X * D * b ≡ a * (Y * E)
    cross X Y U a b E D z h k = eq_of_mul-eq-mul_right U z (X * D * b) (a * (Y * E)) (simp (mul_assoc, mul_comm, mul_left_comm) (simp (mul_assoc, mul_comm, mul_left_comm) at (ap (λ (w : ℕ). w * (D * b)) h ∙ ap (λ (w : ℕ). a * E * w) (mul_comm D b ∙ sym k))))

-- ---- a sum of two fractions turns on their values alone
same_truth : (p q : Bool) → (T p → T q) → (T q → T p) → p ≡ q
same_truth true true h k = refl
same_truth true false h k = absurd (h tt)
same_truth false true h k = absurd (k tt)
same_truth false false h k = refl

module _ (A B C a b U : ℕ) (C-pos : 0 < C) (U_pos : 0 < U) (l : A * U ≡ a * C) (r : B * U ≡ b * C) where
  lt_there : A < B → a < b
  lt_there h = lt_of_mul-lt-mul_right C (lt_of_le_of_lt (le_of_eq (sym l)) (lt_of_lt_of_le (mul-lt-mul_of_pos_right h U_pos) (le_of_eq r)))

  lt_back : a < b → A < B
  lt_back h = lt_of_mul-lt-mul_right U (lt_of_le_of_lt (le_of_eq l) (lt_of_lt_of_le (mul-lt-mul_of_pos_right h C-pos) (le_of_eq (sym r))))

  ltb_same : ltb A B ≡ ltb a b
  ltb_same = same_truth (ltb A B) (ltb a b) (λ (h : T (ltb A B)). lt→ltb a b (lt_there (ltb→lt A B h))) (λ (h : T (ltb a b)). lt→ltb A B (lt_back (ltb→lt a b h)))

  join : (A + B) * U ≡ (a + b) * C
  join = omega arith

  part : (A - B) * U ≡ (a - b) * C
  part = mul_comm (A - B) U ∙ mul-sub U A B ∙ ap (λ (z : ℕ). z - U * B) (mul_comm U A ∙ l) ∙ ap (λ (z : ℕ). a * C - z) (mul_comm U B ∙ r) ∙ sym (mul_comm (a - b) C ∙ mul-sub C a b ∙ ap (λ (z : ℕ). z - C * b) (mul_comm C a) ∙ ap (λ (z : ℕ). a * C - z) (mul_comm C b))

sum_same : (s t : Bool) (A B C a b U : ℕ) → 0 < C → 0 < U → A * U ≡ a * C → B * U ≡ b * C → sum binary64 s A t B C ≡ sum binary64 s a t b U
unfolding sum
sum_same s t A B C a b U P Q l r =
    rw (ltb_same A B C a b U P Q l r, ltb_same B A C b a U P Q r l)
    (all (beq s t) (ltb a b) (round_same binary64 s (A + B) C (a + b) U P Q (join A B C a b U P Q l r)) (round_same binary64 t (B - A) C (b - a) U P Q (part B A C b a U P Q r l)) (round_same binary64 (s && ltb b a) (A - B) C (a - b) U P Q (part A B C a b U P Q l r)))
  where
    all : (p q : Bool) {x y z x' y' z' : Float} → x ≡ x' → y ≡ y' → z ≡ z' → cond p x (cond q y z) ≡ cond p x' (cond q y' z')
    all p q h k j = cc

neg_value : (x : Float) (s : Bool) (a : ℕ) → HasValue x s a (2 ^ 1074) → HasValue (neg x) (not s) a (2 ^ 1074)
unfolding neg
neg_value nan s a p = p
neg_value (inf t) s a p = p
neg_value (fin t m e) s a p = (ap not p.0, p.1)

add_values : (x y : Float) (s t : Bool) (a b : ℕ) → HasValue x s a (2 ^ 1074) → HasValue y t b (2 ^ 1074) → add binary64 x y ≡ sum binary64 s a t b (2 ^ 1074)
unfolding add
add_values nan y s t a b p q = absurd p
add_values (inf u) y s t a b p q = absurd p
add_values (fin u m e) nan s t a b p q = absurd q
add_values (fin u m e) (inf v) s t a b p q = absurd q
add_values (fin u m e) (fin v n d) s t a b p q =
    ap (λ (z : Bool). sum binary64 z (m * up e * down d) v (n * up d * down e) (down e * down d)) p.0
    ∙ ap (λ (z : Bool). sum binary64 s (m * up e * down d) z (n * up d * down e) (down e * down d)) q.0
    ∙ sum_same s t (m * up e * down d) (n * up d * down e) (down e * down d) a b (2 ^ 1074) (mul-pos (down_pos e) (down_pos d)) (pow_pos 1074)
    (left (m * up e) (2 ^ 1074) a (down e) (down d) p.1) (right (n * up d) (2 ^ 1074) b (down e) (down d) q.1)
  where
    left : (X U a E D : ℕ) → X * U ≡ a * E → X * D * U ≡ a * (E * D)
    left X U a E D h = mul_right_comm X D U ∙ ap (λ (z : ℕ). z * D) h ∙ mul_assoc a E D

    right : (Y U b E D : ℕ) → Y * U ≡ b * D → Y * E * U ≡ b * (E * D)
    right Y U b E D h = mul_right_comm Y E U ∙ ap (λ (z : ℕ). z * E) h ∙ mul_right_comm b D E ∙ mul_assoc b E D

sub_values : (x y : Float) (s t : Bool) (a b : ℕ) → HasValue x s a (2 ^ 1074) → HasValue y t b (2 ^ 1074) → sub binary64 x y ≡ sum binary64 s a (not t) b (2 ^ 1074)
unfolding sub
sub_values x y s t a b p q = add_values x (neg y) s (not t) a b p (neg_value y t b q)

-- ---- by their signs
together : (a b c : ℕ) → sum binary64 false a false b c ≡ round binary64 false (a + b) c
unfolding sum
together a b c = refl

pub add_units : (x y : Float) (a b : ℕ) → Is x a → Is y b → add binary64 x y ≡ round binary64 false (a + b) (2 ^ 1074)
add_units x y a b p q = add_values x y false false a b p q ∙ together a b (2 ^ 1074)

-- a - b, where b is the smaller
down_from : (a b c : ℕ) → b ≤ a → sum binary64 false a true b c ≡ round binary64 false (a - b) c
unfolding sum
down_from a b c h = go (ltb a b) (ltb→lt a b)
  where
    go : (t : Bool) → (T t → a < b) → cond t (round binary64 true (b - a) c) (round binary64 false (a - b) c) ≡ round binary64 false (a - b) c
    go true k = absurd (not-le_of_lt (k tt) h)
    go false k = refl

-- ±(b - a), where a, of the sign s, is the smaller: the larger's sign stays
across : (s : Bool) (a b c : ℕ) → a < b → sum binary64 s a (not s) b c ≡ round binary64 (not s) (b - a) c
unfolding sum
across true a b c h = go (ltb a b) (lt→ltb a b h)
  where
    go : (t : Bool) → T t → cond t (round binary64 false (b - a) c) (round binary64 (true && ltb b a) (a - b) c) ≡ round binary64 false (b - a) c
    go true k = refl
    go false k = absurd k
across false a b c h = go (ltb a b) (lt→ltb a b h)
  where
    go : (t : Bool) → T t → cond t (round binary64 true (b - a) c) (round binary64 (false && ltb b a) (a - b) c) ≡ round binary64 true (b - a) c
    go true k = refl
    go false k = absurd k

pub sub_units : (x y : Float) (a b : ℕ) → Is x a → Is y b → b ≤ a → sub binary64 x y ≡ round binary64 false (a - b) (2 ^ 1074)
sub_units x y a b p q h = sub_values x y false false a b p q ∙ down_from a b (2 ^ 1074) h

pub sub_past : (x y : Float) (a b : ℕ) → Is x a → Is y b → a < b → sub binary64 x y ≡ round binary64 true (b - a) (2 ^ 1074)
sub_past x y a b p q h = sub_values x y false false a b p q ∙ across false a b (2 ^ 1074) h

pub add_past : (x y : Float) (a b : ℕ) → HasValue x true a (2 ^ 1074) → Is y b → a < b → add binary64 x y ≡ round binary64 false (b - a) (2 ^ 1074)
add_past x y a b p q h = add_values x y true false a b p q ∙ across true a b (2 ^ 1074) h
