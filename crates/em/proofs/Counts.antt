-- Counts that are finite and not negative: none is above their total, for a sum's rounding keeps the order. So a count's part of the total is at most 1, and its logarithm zero or below. Assumes nothing.
use Rattle.std.proofs.Common.{◌≡◌, ℕ, zero, suc, ◌+◌, ◌-◌, ◌*◌, ◌%◌, ◌^◌, ◌<◌, ◌≤◌, Bool, true, false, cond, ◌&&◌, T, eqb, ltb, leb, ◌⊎◌, List, [], ◌∷◌, map, length, get_or, pos, sym, refl, ap, ◌∙◌, subst, inl, inr, le_trans, le_of_eq, lt_of_lt_of_le, le_of_suc-le-suc, not-suc-le-zero, lt_of_le_of_lt, mul-le-mul_right, lt_of_mul-lt-mul_right, mul-lt-mul_of_pos_right, mul-pos, zero-add, mul_right_comm, arith, lit<, ltb→lt, pow_pos}
use native.Mathlib.Decide.{dec_lt}
use lib.Ieee.{Float, nan, inf, fin, binary64, up, down, odd, units, round, add, div, neg, lt, le, eq, fits, of_bits}
use lib.Ieee.Bits.{is_true, of_bits-fits}
use lib.Ieee.Exact.{odd_sign, round_exact}
use lib.Ieee.Fits.{down_pos, and_r, round_is, round-fits, add-fits}
use lib.Ieee.Order.{le_of_values, round_mono}
use Rattle.laws.proofs.Choices.{yes as holds, never, cond_cases}
use Rattle.rounding.specs.Units.{Is, plain}
use Rattle.rounding.proofs.Nearest.{round_near}
use Rattle.rounding.proofs.Operations.{add_units, div_units}
use Rattle.rounding.proofs.Values.{plain_is, digits, one_number, lt_units, le_units}
use Rattle.math.specs.Steps.{◌⊕◌, ◌⊘◌, ln_steps, one, zero as nought}
use Rattle.math.proofs.Places.{zero_is, one_is}
use Rattle.bounds.proofs.Cases.{above_or_zero, zero_not_above}
use Rattle.bounds.proofs.Theorems.{ln_range, ln_zero}
use Rattle.scores.specs.Floats.{ZeroOrBelow}
use Rattle.scores.proofs.Floats.{le_zero}
use Rattle.scores.proofs.Sums.{nothing}
use Rattle.expectations.specs.Edges.{in_turn}
use Rattle.em.specs.Em.{total_of, floor, new_score}

-- an f64 that is finite and not negative
abbrev pub Count : Float → Type 0
Count x = T (fits binary64 x) × T (plain x)

pub units_of : (x : Float) → Count x → (v : ℕ) × Is x v
units_of x c = let g = digits x c.0 c.1 in (g.m * 2 ^ g.s, g.is)

below_top : (x : Float) (v : ℕ) → T (fits binary64 x) → Is x v → v < 2 ^ 2098
unfolding fits
below_top nan v f i = absurd i
below_top (inf s) v f i = absurd i
below_top (fin s zero e) v f i =
    lt_of_mul-lt-mul_right (down e) (lt_of_le_of_lt (le_of_eq (sym i.1 ∙ nothing 0 (up e) (2 ^ 1074) refl)) (mul-pos (pow_pos 2098) (down_pos e)))
below_top (fin s (suc m) e) v f i =
    let l : suc m * up e < 2 ^ 1024 * down e = ltb→lt (suc m * up e) (2 ^ 1024 * down e) (and_r (eqb (suc m % 2) 1 && ltb (suc m) (2 ^ 53) && leb (down e) (2 ^ 1074)) (ltb (suc m * up e) (2 ^ 1024 * down e)) f) in
    lt_of_mul-lt-mul_right (down e) (lt_of_le_of_lt (le_of_eq (sym i.1)) (lt_of_lt_of_le (mul-lt-mul_of_pos_right l (pow_pos 1074)) (le_of_eq (mul_right_comm (2 ^ 1024) (down e) (2 ^ 1074)))))

-- its own number of units is not rounded
exact : (x : Float) (v : ℕ) → T (fits binary64 x) → Is x v → Is (round binary64 false v (2 ^ 1074)) v
exact x v f i =
    let g = digits x f (plain_is x v i) in
    let e = one_number x (g.m * 2 ^ g.s) v g.is i in
    subst (λ (a : ℕ). Is (round binary64 false a (2 ^ 1074)) a) e
    (round_exact binary64 false (g.m * 2 ^ g.s) (2 ^ 1074) g.m g.s (pow_pos 1074) g.few (subst (λ (a : ℕ). a < 2 ^ 2098) (sym e) (below_top x v f i)) refl)

-- ---- a rounded fraction is infinite, or a number of units
abbrev pub Sized : Float → Type 0
Sized z = (z ≡ inf false) ⊎ ((v : ℕ) × Is z v)

units_sized : (q k : ℕ) → Sized (units binary64 false q k)
unfolding units
units_sized q k = go (ltb (q * 2 ^ k) (2 ^ 2098))
  where
    go : (b : Bool) → Sized (cond b (odd 54 false q k 1074) (inf false))
    go true = inr (q * 2 ^ k, odd_sign 54 false q k 1074)
    go false = inl refl

pub round_sized : (a c : ℕ) → Sized (round binary64 false a c)
round_sized a c = subst Sized (sym (round_is binary64 false a c)) (units_sized _ _)

-- ---- at least so many units
abbrev AtLeast : ℕ → Float → Type 0
AtLeast a z = (z ≡ inf false) ⊎ ((v : ℕ) × Is z v × (a ≤ v))

at_least : (a b : ℕ) → Is (round binary64 false a (2 ^ 1074)) a → a ≤ b → AtLeast a (round binary64 false b (2 ^ 1074))
at_least a b e h = elim (round_sized b (2 ^ 1074)) [
  | inl z ↦ inl z
  | inr s ↦ inr (s.0, s.1, le_units (round binary64 false a (2 ^ 1074)) (round binary64 false b (2 ^ 1074)) a s.0 e s.1 (round_mono binary64 a (2 ^ 1074) b (2 ^ 1074) (pow_pos 1074) (pow_pos 1074) (mul-le-mul_right (2 ^ 1074) h)))
]

-- ---- an amount is a count or infinite. A sum so far, and one count more
abbrev pub Amount : Float → Type 0
Amount s = (s ≡ inf false) ⊎ Count s

pub stays_infinite : (c : Float) → T (plain c) → inf false ⊕ c ≡ inf false
unfolding add
stays_infinite nan p = absurd p
stays_infinite (inf s) p = absurd p
stays_infinite (fin s m e) p = refl

pub not_infinite : (x : Float) (v : ℕ) → x ≡ inf false → Is x v → ⊥
not_infinite x v e i = subst (λ (z : Float). Is z v) e i

-- the sum is one again, at least as great as the sum before, and as the count
pub record More (s c t : Float) : Type 0 where
  pub sum : Amount t
  pub before : (v : ℕ) → AtLeast v s → AtLeast v t
  pub count : (v : ℕ) → Is c v → AtLeast v t

more_infinite : (s c : Float) → s ≡ inf false → Count c → More s c (s ⊕ c)
more_infinite s c e k =
    let z : s ⊕ c ≡ inf false = ap (λ (x : Float). x ⊕ c) e ∙ stays_infinite c k.1 in
    record { sum = inl z; before = λ v a. inl z; count = λ v i. inl z }

lower : (z : Float) (v w : ℕ) → v ≤ w → AtLeast w z → AtLeast v z
lower z v w h m = elim m [ inl e ↦ inl e | inr n ↦ inr (n.0, n.1, le_trans h n.2) ]

pub amount_sized : (z : Float) → T (fits binary64 z) → Sized z → Amount z
amount_sized z f s = elim s [ inl e ↦ inl e | inr n ↦ inr (f, plain_is z n.0 n.1) ]

more_by : (s c : Float) (a b : ℕ) → T (fits binary64 s) → T (fits binary64 c) → Is s a → Is c b → More s c (s ⊕ c)
more_by s c a b f g i j =
    let e = add_units s c a b i j in
    record {
      sum = amount_sized (s ⊕ c) (add-fits binary64 s c) (subst Sized (sym e) (round_sized (a + b) (2 ^ 1074)));
      before = λ v m. elim m [
        | inl z ↦ absurd (not_infinite s a z i)
        | inr n ↦ subst (AtLeast v) (sym e) (lower (round binary64 false (a + b) (2 ^ 1074)) v a (le_trans n.2 (le_of_eq (one_number s n.0 a n.1 i))) (at_least a (a + b) (exact s a f i) (omega arith)))
      ];
      count = λ v w. subst (AtLeast v) (sym e) (lower (round binary64 false (a + b) (2 ^ 1074)) v b (le_of_eq (one_number c v b w j)) (at_least b (a + b) (exact c b g j) (omega arith)));
    }

pub more : (s c : Float) → Amount s → Count c → More s c (s ⊕ c)
more s c m k = elim m [
  | inl e ↦ more_infinite s c e k
  | inr l ↦ let (a, i) = units_of s l in let (b, j) = units_of c k in more_by s c a b l.0 k.0 i j
]

-- ---- the total
pub nought_count : Count nought
nought_count = (of_bits-fits binary64 0, plain_is nought 0 zero_is)

abbrev pub Counts : List Float → Type 0
Counts expected = (piece : ℕ) → piece < length expected → Count (get_or expected piece nan)

module _ (expected : List Float) (counts : Counts expected) where
  abbrev sum_to : ℕ → Float
  sum_to k = in_turn (λ total piece. total ⊕ get_or expected piece nan) nought 0 k

  abbrev Over : ℕ → Type 0
  Over k = Amount (sum_to k) × ((j : ℕ) → j < k → (v : ℕ) → Is (get_or expected j nan) v → AtLeast v (sum_to k))

  next : (k : ℕ) → k < length expected → Over k → Over (suc k)
  next k l o =
      let e : 0 + k ≡ k = zero-add k in
      let m = more (sum_to k) (get_or expected (0 + k) nan) o.0 (subst (λ (j : ℕ). Count (get_or expected j nan)) (sym e) (counts k l)) in (
        m.sum,
        λ j h v i. elim (dec_lt j k) [
          | yes a ↦ m.before v (o.1 j a v i)
          | no a ↦ let z : j ≡ 0 + k = omega arith in m.count v (subst (λ (p : ℕ). Is (get_or expected p nan) v) z i)
        ],
      )

  none : (j : ℕ) → j < 0 → ⊥
  none j h = omega arith

  over : (k : ℕ) → k ≤ length expected → Over k
  over zero l = (inr nought_count, λ j h. absurd (none j h))
  over (suc k) l = next k l (over k (omega arith))

  total_over : Over (length expected - 0)
  total_over = over (length expected - 0) (omega arith)

  pub total_sum : Amount (total_of expected)
  total_sum = total_over.0

  pub total_least : (piece : ℕ) → piece < length expected → (v : ℕ) → Is (get_or expected piece nan) v → AtLeast v (total_of expected)
  total_least piece l = total_over.1 piece (omega arith)

-- ---- a count's part of the total, and its logarithm
pub least : (v U : ℕ) → 0 * U ≤ v * U
least v U = omega arith

ln_at_zero : (x : Float) → T (eq x nought) → ln_steps x ≡ inf true
unfolding ln_steps
ln_at_zero x h = simp (never (lt nought x) (zero_not_above x h), is_true (eq x nought) h)

pub nought_is : nought ≡ fin false 0 (pos 0)
unfolding of_bits
nought_is = refl

below_zero : (r : Float) → T (le r nought) → ZeroOrBelow r
below_zero r h = subst T (le_zero r) (subst (λ (z : Float). T (le r z)) nought_is h)

-- from 0 to 1: "for 0 < x ≤ 1 finite, from -745 to 0"; underflow gives minus infinity
ln_part : (x : Float) → T (fits binary64 x) → T (le nought x) → T (le x one) → ZeroOrBelow (ln_steps x)
ln_part x f a b = elim (above_or_zero x a) [
  | inl l ↦ below_zero (ln_steps x) (ln_range x f l b).1
  | inr e ↦ subst ZeroOrBelow (sym (ln_at_zero x e)) tt
]

part_of_infinity : (c : Float) → T (plain c) → c ⊘ inf false ≡ nought
unfolding div of_bits
part_of_infinity nan p = absurd p
part_of_infinity (inf s) p = absurd p
part_of_infinity (fin true m e) p = absurd p
part_of_infinity (fin false m e) p = refl

part_by : (s c : Float) (b a : ℕ) → Is s b → Is c a → 0 < a → a ≤ b → ZeroOrBelow (ln_steps (c ⊘ s))
part_by s c b a i j p h =
    let x = round binary64 false a b in
    let r = round_near a b 1074 (omega arith) (lit< tt) (mul-le-mul_right (2 ^ 1074) h) in
    let low : T (le nought x) = le_of_values nought x 0 (2 ^ 1074) r.v (2 ^ 1074) (pow_pos 1074) (pow_pos 1074) zero_is r.is (least r.v (2 ^ 1074)) in
    let top : T (le x one) = le_of_values x one r.v (2 ^ 1074) (2 ^ 1074) (2 ^ 1074) (pow_pos 1074) (pow_pos 1074) r.is one_is (mul-le-mul_right (2 ^ 1074) r.top) in
    subst (λ (z : Float). ZeroOrBelow (ln_steps z)) (sym (div_units c s a b j i (omega arith))) (ln_part x (round-fits binary64 false a b) low top)

part_below : (s c : Float) → Count c → T (lt nought c) → ((v : ℕ) → Is c v → AtLeast v s) → ZeroOrBelow (ln_steps (c ⊘ s))
part_below s c k p m =
    let (a, j) = units_of c k in
    elim (m a j) [
      | inl e ↦ subst (λ (x : Float). ZeroOrBelow (ln_steps (c ⊘ x))) (sym e) (subst (λ (x : Float). ZeroOrBelow (ln_steps x)) (sym (part_of_infinity c k.1)) (subst ZeroOrBelow (sym ln_zero) tt))
      | inr n ↦ part_by s c n.0 a n.1 j (lt_units nought c 0 a zero_is j p) n.2
    ]

floor_below : ZeroOrBelow floor
unfolding neg of_bits
floor_below = tt

pub new_below : (s c : Float) → Count c → ((v : ℕ) → Is c v → AtLeast v s) → ZeroOrBelow (new_score s c)
new_below s c k m = cond_cases ZeroOrBelow (lt nought c) (ln_steps (c ⊘ s)) floor (λ e. part_below s c k (holds e) m) (λ e. floor_below)

-- ---- a list of them
pub map_at : {A B : Type 0} (f : A → B) (l : List A) (k : ℕ) (d : A) (e : B) → k < length l → get_or (map f l) k e ≡ f (get_or l k d)
map_at f [] k d e h = absurd (not-suc-le-zero h)
map_at f (x ∷ l) zero d e h = refl
map_at f (x ∷ l) (suc k) d e h = map_at f l k d e (le_of_suc-le-suc h)
