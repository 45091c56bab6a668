-- A fraction to the nearest whole number is within a half of it, and `round` is such a step in units. Assumes nothing.
use mathlib.Core.Path.{◌≡◌, sym, ap, ◌∙◌, subst}
use Prim.Native.Nat.compare
use Prim.Native.Nat.{ℕ, zero, suc, ◌+◌, ◌-◌, ◌*◌, ◌/◌, ◌%◌, ◌^◌, ◌≤◌, ◌<◌, compare, Ordering}
use native.Mathlib.Nat.{le_refl, le_trans, le_of_eq, lt_of_lt_of_le, lt_of_le_of_lt, lt_irrefl, mul_comm, mul_assoc, mul_left_comm, mul-le-mul_left, mul-le-mul_right, mul-lt-mul_of_pos_left, mul-pos, mod-lt, div-add-mod', div-lt_iff_lt-mul, mul-div_cancel, mul-mod_left}
use native.Mathlib.Omega.{arith}
use mathlib.Core.Bool.{false, not}
use lib.Dec.{T, is_le, compare_is_eq, eqb, leb→le, nleb→lt, eqb→eq, eqb_refl}
use lib.Arith.{lt_of_le-ne}
use lib.Pow.{pow-add, pow_pos, pow_mono, pow-lt}
use lib.Ieee.{binary64, size, nearest, round}
use lib.Ieee.Digits.{size-le, back}
use lib.Ieee.Nearest.{closest, closest_mono}
use lib.Ieee.Order.{drop}
use lib.Ieee.Scale.{grid, round_val}
use Rattle.rounding.specs.Units.{Half, Rounded}

abbrev Cmp : Ordering → ℕ → ℕ → Type 0
Cmp Ordering.lt a b = a < b
Cmp Ordering.eq a b = a ≡ b
Cmp Ordering.gt a b = b < a

cmp : (a b : ℕ) → Cmp (compare a b) a b
cmp a b = go (compare a b) (leb→le a b) (nleb→lt a b) (eqb→eq a b) (λ (e : a ≡ b). subst (λ (x : ℕ). T (eqb a x)) e (eqb_refl a))
  where
    go : (o : Ordering) → (T (is_le o) → a ≤ b) → (T (not (is_le o)) → b < a) → (T (compare_is_eq o) → a ≡ b) → (a ≡ b → T (compare_is_eq o)) → Cmp o a b
    go Ordering.lt h k e n = lt_of_le-ne (h tt) n
    go Ordering.eq h k e n = e tt
    go Ordering.gt h k e n = k tt

at_most_one : (q : ℕ) → q % 2 ≤ 1
at_most_one q = omega arith

half_of : (q r u : ℕ) (o : Ordering) → r < u → Cmp o (r * 2) u → Half (nearest q o) (q * u + r) u
half_of q r u Ordering.lt l h = omega arith
half_of q r u Ordering.eq l h = omega (arith, mul-le-mul_right u (at_most_one q))
half_of q r u Ordering.gt l h = omega arith

pub closest_half : (n u : ℕ) → 0 < u → Half (closest n u) n u
closest_half n u U = subst (λ (m : ℕ). Half (closest n u) m u) (div-add-mod' n u) (half_of (n / u) (n % u) u (compare (n % u * 2) u) (mod-lt n U) (cmp (n % u * 2) u))

-- a whole number is its own nearest
compare_zero : (u : ℕ) → 0 < u → compare 0 u ≡ Ordering.lt
compare_zero zero h = absurd (lt_irrefl 0 h)
compare_zero (suc u) h = compare.zero-suc u

closest_whole : (q u : ℕ) → 0 < u → closest (q * u) u ≡ q
closest_whole q u U =
    ap (λ (x : ℕ). nearest x (compare (q * u % u * 2) u)) (mul-div_cancel q U)
    ∙ ap (λ (x : ℕ). nearest q (compare (x * 2) u)) (mul-mod_left q u)
    ∙ ap (λ (o : Ordering). nearest q o) (compare_zero u U)

pub closest_le : (n u q : ℕ) → 0 < u → n ≤ q * u → closest n u ≤ q
closest_le n u q U h = le_trans (closest_mono n u (q * u) u U U (mul-le-mul_right u h)) (le_of_eq (closest_whole q u U))

-- ---- `round` of a fraction a / c of at most 2 ^ b units
take_off : (z b : ℕ) → z ≤ suc b → z - 53 ≤ b - 52
take_off z b h = omega arith

under_b : (k b : ℕ) → k ≤ b - 52 → k ≤ b
under_b k b h = omega arith

widen_above : (x n c k K : ℕ) → x ≤ n + c * k → k ≤ K → x ≤ n + c * K
widen_above x n c k K h l = omega (arith, mul-le-mul_left c l)

mul_lt : {c : ℕ} → 0 < c → (b : ℕ) → c * 2 ^ b < c * 2 ^ suc b
mul_lt C b = mul-lt-mul_of_pos_left (pow-lt (le_refl (suc b))) C

fold : (c b k : ℕ) → k ≤ b → c * 2 ^ b ≡ 2 ^ (b - k) * (c * 2 ^ k)
fold c b k h = ap (λ (x : ℕ). c * x) (ap (λ (x : ℕ). 2 ^ x) (sym (back b k h)) ∙ pow-add 2 (b - k) k) ∙ mul_left_comm c (2 ^ (b - k)) (2 ^ k)

-- at most b - 52 digits are dropped
dropped : (a c b : ℕ) → 0 < c → a * 2 ^ 1074 ≤ c * 2 ^ b → drop 53 (a * 2 ^ 1074) c ≤ b - 52
dropped a c b C h =
    let n = a * 2 ^ 1074 in
    take_off (size (n / c)) b (size-le (n / c) (suc b) ((div-lt_iff_lt-mul C).1 (lt_of_le_of_lt h (lt_of_lt_of_le (mul_lt C b) (le_of_eq (mul_comm c (2 ^ suc b)))))))

pub grid_top : (a c b : ℕ) → 0 < c → a * 2 ^ 1074 ≤ c * 2 ^ b → grid binary64 a c ≤ 2 ^ b
grid_top a c b C h =
    let n = a * 2 ^ 1074 in
    let k = drop 53 n c in
    let l : k ≤ b = under_b k b (dropped a c b C h) in
    let w : closest n (c * 2 ^ k) ≤ 2 ^ (b - k) = closest_le n (c * 2 ^ k) (2 ^ (b - k)) (mul-pos C (pow_pos k)) (le_trans h (le_of_eq (fold c b k l))) in
    le_trans (mul-le-mul_right (2 ^ k) w) (le_of_eq (sym (pow-add 2 (b - k) k) ∙ ap (λ (x : ℕ). 2 ^ x) (back b k l)))

pub round_near : (a c b : ℕ) → 0 < c → b < 2098 → a * 2 ^ 1074 ≤ c * 2 ^ b → Rounded (round binary64 false a c) (a * 2 ^ 1074) c b
round_near a c b C B h =
    let n = a * 2 ^ 1074 in
    let k = drop 53 n c in
    let u = c * 2 ^ k in
    let l : k ≤ b - 52 = dropped a c b C h in
    let t : grid binary64 a c ≤ 2 ^ b = grid_top a c b C h in
    let e : closest n u * u ≡ grid binary64 a c * c = simp (mul_assoc, mul_comm, mul_left_comm) in
    let f = closest_half n u (mul-pos C (pow_pos k)) in
    record {
      v = grid binary64 a c;
      is = round_val binary64 a c (lt_of_le_of_lt t (pow-lt B));
      top = t;
      above = widen_above (grid binary64 a c * c * 2) (n * 2) c (2 ^ k) (2 ^ (b - 52)) (subst (λ (x : ℕ). x * 2 ≤ n * 2 + u) e f.0) (pow_mono l);
      under = widen_above (n * 2) (grid binary64 a c * c * 2) c (2 ^ k) (2 ^ (b - 52)) (subst (λ (x : ℕ). n * 2 ≤ x * 2 + u) e f.1) (pow_mono l);
    }
