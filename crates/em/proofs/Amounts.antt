-- What is expected is an amount: a count or infinite, never NaN and never negative. A share is the exponential of a finite number or +0, and a word that is counted has a frequency from 1. So where the total is finite, each of them is a count. Assumes nothing.
use Rattle.std.proofs.Common.{◌≡◌, ℕ, zero, suc, ◌+◌, ◌-◌, ◌*◌, ◌^◌, ◌<◌, ◌≤◌, Bool, true, false, cond, ◌||◌, T, eqb, List, [], ◌∷◌, ◌++◌, map, length, get_or, set, replicate, pos, sym, refl, ap, ◌∙◌, subst, inl, inr, true≢false, le_of_suc-le-suc, not-suc-le-zero, lt_irrefl, mul-pos, zero-add, zero-mul, add-one, arith, pow_pos, ne_eqb}
use native.Mathlib.Decide.{dec_lt}
use lib.ListN.{length-replicate}
use lib.Ieee.{Float, nan, inf, fin, binary64, up, down, add, mul, div, neg, lt, le, eq, fits, of_bits}
use lib.Ieee.Bits.{is_true, of_bits-fits}
use lib.Ieee.Fits.{up_pos, down_pos, neg-fits, sub-fits, mul-fits, div-fits}
use lib.Ieee.Order.{le_of_values}
use lib.Ieee.Scale.{finite}
use Rattle.laws.proofs.Choices.{yes as holds, never, cond_cases}
use Rattle.rounding.specs.Units.{Is, plain}
use Rattle.rounding.proofs.Casts.{int_is}
use Rattle.rounding.proofs.Operations.{mul_units, div_units}
use Rattle.rounding.proofs.Values.{plain_is}
use Rattle.math.specs.Steps.{◌⊕◌, ◌⊖◌, ◌⊗◌, ◌⊘◌, exp_steps, exp_neg, one, end, zero as nought}
use Rattle.math.proofs.Places.{zero_is, one_is}
use Rattle.math.proofs.Tests.{neg_above, neg_under}
use Rattle.bounds.proofs.Cases.{below_or_zero, above_or_zero, zero_not_below, zero_not_above, not_above}
use Rattle.bounds.proofs.ExpKernel.{exp_neg_unit}
use Rattle.scores.proofs.Floats.{le_zero}
use Rattle.lattice.specs.Lattice.{Edge}
use Rattle.lattice.specs.Layout.{joined, offsets, char_count}
use Rattle.formed.specs.Held.{Rows}
use Rattle.formed.specs.Word.{WordFormed}
use Rattle.cached.specs.Held.{Lattices}
use Rattle.connected.specs.Word.{low, high}
use Rattle.connected.proofs.Word.{last}
use Rattle.viterbi.proofs.Exact.{exact}
use Rattle.expectations.specs.Edges.{in_turn}
use Rattle.expectations.specs.Sums.{share, until, alphas, sum_of, beta_at, shares_to, expected_shares}
use Rattle.expectations.proofs.Ends.{length_to}
use Rattle.em.specs.Em.{weight_of, add_edge, add_edges, skipped, add_word, add_next, expected_of, total_of}
use Rattle.em.proofs.Counts.{Count, Amount, Counts, Sized, units_of, round_sized, amount_sized, stays_infinite, more, nought_count, nought_is, least}

-- ---- exp of a finite number
exp_below : (x : Float) → T (lt x nought) → T (lt (neg end) x) → exp_steps x ≡ exp_neg (neg x)
unfolding exp_steps
exp_below x h k = simp (is_true (lt x nought) h, is_true (lt (neg end) x) k)

exp_far : (x : Float) → T (lt x nought) → lt (neg end) x ≡ false → exp_steps x ≡ nought
unfolding exp_steps
exp_far x h k = simp (is_true (lt x nought) h, k)

exp_zero : (x : Float) → T (eq x nought) → exp_steps x ≡ one
unfolding exp_steps
exp_zero x h = simp (never (lt x nought) (zero_not_below x h), never (lt nought x) (zero_not_above x h), is_true (eq x nought) h)

exp_above : (x : Float) → T (lt nought x) → T (lt x end) → exp_steps x ≡ one ⊘ exp_neg x
unfolding exp_steps
exp_above x h k = simp (never (lt x nought) (λ a. not_above x a h), is_true (lt nought x) h, is_true (lt x end) k)

exp_beyond : (x : Float) → T (lt nought x) → lt x end ≡ false → exp_steps x ≡ inf false
unfolding exp_steps
exp_beyond x h k = simp (never (lt x nought) (λ a. not_above x a h), is_true (lt nought x) h, k)

one_count : Count one
one_count = (of_bits-fits binary64 _, plain_is one (2 ^ 1074) one_is)

-- 1 / 0 is infinite
one_fin : one ≡ fin false 1 (pos 0)
unfolding of_bits
one_fin = refl

pos_suc : (m : ℕ) → 0 < suc m
pos_suc m = omega arith

one_over : (z : Float) → Is z 0 → div binary64 (fin false 1 (pos 0)) z ≡ inf false
unfolding div
one_over nan i = absurd i
one_over (inf s) i = absurd i
one_over (fin true m e) i = absurd (true≢false i.0)
one_over (fin false zero e) i = refl
one_over (fin false (suc m) e) i = absurd (lt_irrefl 0 (subst (λ (z : ℕ). 0 < z) (i.1 ∙ zero-mul (down e)) (mul-pos (mul-pos (pos_suc m) (up_pos e)) (pow_pos 1074))))

inverse_amount : (z : Float) (v : ℕ) → Is z v → Amount (one ⊘ z)
inverse_amount z zero i = inl (ap (λ (x : Float). x ⊘ z) one_fin ∙ one_over z i)
inverse_amount z (suc v) i = amount_sized (one ⊘ z) (div-fits binary64 one z) (subst Sized (sym (div_units one z (2 ^ 1074) (suc v) one_is i (pos_suc v))) (round_sized (2 ^ 1074) (suc v)))

below_by : (x : Float) → T (fits binary64 x) → T (lt x nought) → (b : Bool) → lt (neg end) x ≡ b → Amount (exp_steps x)
below_by x f h true e =
    let s = exp_neg_unit (neg x) (neg-fits binary64 x f) (neg_above x h) (neg_under x (holds e)) in
    subst Amount (sym (exp_below x h (holds e))) (inr (mul-fits binary64 _ _, plain_is (exp_neg (neg x)) s.v s.is))
below_by x f h false e = subst Amount (sym (exp_far x h e)) (inr nought_count)

above_by : (x : Float) → T (fits binary64 x) → T (lt nought x) → (b : Bool) → lt x end ≡ b → Amount (exp_steps x)
above_by x f h true e = let s = exp_neg_unit x f h (holds e) in subst Amount (sym (exp_above x h (holds e))) (inverse_amount (exp_neg x) s.v s.is)
above_by x f h false e = subst Amount (sym (exp_beyond x h e)) (inl refl)

exp_amount : (x : Float) → T (fits binary64 x) → T (finite x) → Amount (exp_steps x)
exp_amount nan f t = absurd t
exp_amount (inf s) f t = absurd t
exp_amount (fin true m e) f t =
    let x = fin true m e in
    elim (below_or_zero x (subst (λ (z : Float). T (le x z)) (sym nought_is) (subst T (sym (le_zero x)) tt))) [
      | inl h ↦ below_by x f h (lt (neg end) x) refl
      | inr h ↦ subst Amount (sym (exp_zero x h)) (inr one_count)
    ]
exp_amount (fin false m e) f t =
    let x = fin false m e in
    let (v, i) = units_of x (f, tt) in
    elim (above_or_zero x (le_of_values nought x 0 (2 ^ 1074) v (2 ^ 1074) (pow_pos 1074) (pow_pos 1074) zero_is i (least v (2 ^ 1074)))) [
      | inl h ↦ above_by x f h (lt x end) refl
      | inr h ↦ subst Amount (sym (exp_zero x h)) (inr one_count)
    ]

share_amount : (x : Float) → T (fits binary64 x) → Amount (share x)
share_amount x f = cond_cases Amount (finite x) (exp_steps x) nought (λ e. exp_amount x f (holds e)) (λ e. inr nought_count)

-- ---- lists of amounts
abbrev pub Every : List Float → Type 0
Every [] = Unit
Every (x ∷ xs) = Amount x × Every xs

every_append : (xs ys : List Float) → Every xs → Every ys → Every (xs ++ ys)
every_append [] ys a b = b
every_append (x ∷ xs) ys a b = (a.0, every_append xs ys a.1 b)

every_at : (xs : List Float) (k : ℕ) → k < length xs → Every xs → Amount (get_or xs k nan)
every_at [] k l a = absurd (not-suc-le-zero l)
every_at (x ∷ xs) zero l a = a.0
every_at (x ∷ xs) (suc k) l a = every_at xs k (le_of_suc-le-suc l) a.1

every_nought : (n : ℕ) → Every (replicate n nought)
every_nought zero = tt
every_nought (suc n) = (inr nought_count, every_nought n)

every_set : (f : Float → Float) → ((x : Float) → Amount x → Amount (f x)) → (xs : List Float) (i : ℕ) → Every xs → Every (set xs i (f (get_or xs i nan)))
every_set f g [] i a = tt
every_set f g (x ∷ xs) zero a = (g x a.0, a.1)
every_set f g (x ∷ xs) (suc i) a = (a.0, every_set f g xs i a.1)

-- ---- shares
every_told : (f : ℕ → Float) → ((k : ℕ) → Amount (f k)) → (from n : ℕ) → Every (in_turn (λ told k. told ++ (f k ∷ [])) [] from n)
every_told f g from zero = tt
every_told f g from (suc n) = every_append (in_turn (λ told k. told ++ (f k ∷ [])) [] from n) (f (from + n) ∷ []) (every_told f g from n) (g (from + n), tt)

module _ (offs starts ids : List ℕ) (scores : List Float) where
  every_to : (h : List Float) (beta : ℕ → Float) (z : Float) (p : ℕ) → Every (shares_to offs starts ids scores h beta z p)
  every_to h beta z zero = tt
  every_to h beta z (suc p) =
      every_append (shares_to offs starts ids scores h beta z p) _ (every_to h beta z p)
      (every_told (λ k. share (until starts ids scores h k ⊕ beta p ⊖ z)) (λ k. share_amount _ (sub-fits binary64 (until starts ids scores h k ⊕ beta p) z)) (low offs p) (high offs p - low offs p))

  every_share : (n : ℕ) → Every (expected_shares offs starts ids scores n)
  unfolding expected_shares
  every_share n = cond_cases Every (finite (sum_of offs starts ids scores n)) (shares_to offs starts ids scores (alphas offs starts ids scores n) (beta_at offs starts ids scores n) (sum_of offs starts ids scores n) (suc n)) (replicate (length starts) nought)
      (λ e. every_to (alphas offs starts ids scores n) (beta_at offs starts ids scores n) (sum_of offs starts ids scores n) (suc n)) (λ e. every_nought (length starts))

  length_shares : {n : ℕ} → WordFormed offs starts ids (length scores) n → length (expected_shares offs starts ids scores n) ≡ length starts
  unfolding expected_shares
  length_shares {n} w = cond_cases (λ (xs : List Float). length xs ≡ length starts) (finite (sum_of offs starts ids scores n)) (shares_to offs starts ids scores (alphas offs starts ids scores n) (beta_at offs starts ids scores n) (sum_of offs starts ids scores n) (suc n)) (replicate (length starts) nought)
      (λ e. length_to scores w (alphas offs starts ids scores n) (beta_at offs starts ids scores n) (sum_of offs starts ids scores n) (suc n) (omega arith) ∙ ap (λ (k : ℕ). get_or offs k 0) (sym (add-one n)) ∙ last w)
      (λ e. length-replicate (length starts) nought)

-- ---- an amount times a frequency, and sums
infinite_times : (w : Float) (v : ℕ) → Is w v → 0 < v → mul binary64 (inf false) w ≡ inf false
unfolding mul
infinite_times nan v i p = absurd i
infinite_times (inf s) v i p = absurd i
infinite_times (fin true m e) v i p = absurd (true≢false i.0)
infinite_times (fin false (suc m) e) v i p = ap (λ (b : Bool). cond b nan (inf false)) (ne_eqb (suc m) 0 (λ (z : suc m ≡ 0). lt_irrefl 0 (omega arith)))
infinite_times (fin false zero e) v i p = absurd (nowhere (up e) (2 ^ 1074) (v * down e) i.1 (mul-pos p (down_pos e)))
  where
    nowhere : (u U d : ℕ) → 0 * u * U ≡ d → 0 < d → ⊥
    nowhere u U d e h = omega arith

times_amount : (x w : Float) (v : ℕ) → Amount x → Is w v → 0 < v → Amount (x ⊗ w)
times_amount x w v a i p = elim a [
  | inl e ↦ inl (ap (λ (y : Float). y ⊗ w) e ∙ infinite_times w v i p)
  | inr c ↦
      let (u, j) = units_of x c in
      amount_sized (x ⊗ w) (mul-fits binary64 x w) (subst Sized (sym (mul_units x w u v j i)) (round_sized (u * v) (2 ^ 1074 * 2 ^ 1074)))
]

infinite_both : inf false ⊕ inf false ≡ inf false
unfolding add
infinite_both = refl

to_infinity : (x : Float) → T (plain x) → x ⊕ inf false ≡ inf false
unfolding add
to_infinity nan p = absurd p
to_infinity (inf s) p = absurd p
to_infinity (fin s m e) p = refl

infinite_first : (y : Float) → Amount y → inf false ⊕ y ≡ inf false
infinite_first y b = elim b [ inl e ↦ ap (λ (z : Float). inf false ⊕ z) e ∙ infinite_both | inr c ↦ stays_infinite y c.1 ]

infinite_second : (x : Float) → Amount x → x ⊕ inf false ≡ inf false
infinite_second x a = elim a [ inl e ↦ ap (λ (z : Float). z ⊕ inf false) e ∙ infinite_both | inr c ↦ to_infinity x c.1 ]

plus_amount : (x y : Float) → Amount x → Amount y → Amount (x ⊕ y)
plus_amount x y a b = elim b [ inl e ↦ inl (ap (λ (z : Float). x ⊕ z) e ∙ infinite_second x a) | inr c ↦ (more x y a c).sum ]

-- ---- a word
module _ (ids : List ℕ) (shares : List Float) (weight : Float) (v : ℕ) (is : Is weight v) (some : 0 < v) (long : length ids ≤ length shares) (every : Every shares) where
  edges_every : (expected : List Float) → Every expected → (n : ℕ) → n ≤ length ids → Every (in_turn (add_edge ids shares weight) expected 0 n)
  edges_every expected a zero l = a
  edges_every expected a (suc n) l =
      let k : 0 + n < length shares = let z = zero-add n in omega arith in
      every_set (λ x. x ⊕ get_or shares (0 + n) nan ⊗ weight) (λ x b. plus_amount x (get_or shares (0 + n) nan ⊗ weight) b (times_amount (get_or shares (0 + n) nan) weight v (every_at shares (0 + n) k every) is some))
      (in_turn (add_edge ids shares weight) expected 0 n) (get_or ids (0 + n) 0) (edges_every expected a n (omega arith))

  added_every : (expected : List Float) → Every expected → Every (add_edges ids shares weight expected)
  unfolding add_edges
  added_every expected a = edges_every expected a (length ids - 0) (omega arith)

counted : (n : ℕ) (b : Bool) → (eqb n 0 || b) ≡ false → 0 < n
counted zero b e = absurd (true≢false e)
counted (suc n) b e = pos_suc n

-- a frequency from 1 that an f64 holds
abbrev pub Exact : ℕ → Type 0
Exact frequency = (0 < frequency) × (frequency < 9007199254740992)

word_every : (offs starts ids : List ℕ) (n : ℕ) (scores : List Float) (frequency : ℕ) (expected : List Float) → WordFormed offs starts ids (length scores) n → (0 < n → Exact frequency) → Every expected → Every (add_word offs starts ids n scores frequency expected)
unfolding add_word
word_every offs starts ids n scores frequency expected w f a =
    cond_cases Every (skipped offs starts n) expected (add_edges ids (expected_shares offs starts ids scores n) (weight_of frequency) expected) (λ e. a) (λ e.
    let g = f (counted n _ e) in
    let same = w.formed.inside.equally_many in
    let many = length_shares offs starts ids scores w in
    added_every ids (expected_shares offs starts ids scores n) (weight_of frequency) (frequency * 2 ^ 1074) (int_is frequency g.1) (mul-pos g.0 (pow_pos 1074)) (omega arith) (every_share offs starts ids scores n) expected a)

-- ---- all words
-- a word with a character has a frequency from 1 that an f64 holds
abbrev pub Frequent : List (List (List Edge)) → List ℕ → Type 0
Frequent lattices frequencies = (word : ℕ) → word < length lattices → 0 < char_count (get_or lattices word []) → Exact (get_or frequencies word 0)

lattice_sound : (pieces : ℕ) (lattices : List (List (List Edge))) (word : ℕ) → word < length lattices → Lattices pieces lattices → (0 < length (get_or lattices word [])) × Rows pieces 0 (get_or lattices word [])
lattice_sound pieces [] word l s = absurd (not-suc-le-zero l)
lattice_sound pieces ([] ∷ lattices) word l s = absurd s
lattice_sound pieces ((row ∷ rows) ∷ lattices) zero l s = (pos_suc (length rows), s.0)
lattice_sound pieces ((row ∷ rows) ∷ lattices) (suc word) l s = lattice_sound pieces lattices word (le_of_suc-le-suc l) s.1

module _ (lattices : List (List (List Edge))) (frequencies : List ℕ) (scores : List Float) (sound : Lattices (length scores) lattices) (frequent : Frequent lattices frequencies) where
  words_every : (n : ℕ) → n ≤ length lattices → Every (in_turn (add_next lattices frequencies scores) (replicate (length scores) nought) 0 n)
  words_every zero l = every_nought (length scores)
  words_every (suc n) l =
      let word : 0 + n < length lattices = let z = zero-add n in omega arith in
      let lattice = get_or lattices (0 + n) [] in
      let s = lattice_sound (length scores) lattices (0 + n) word sound in
      let some = s.0 in
      let w = (exact {scores = scores} {n = char_count lattice} lattice refl refl refl (omega arith) s.1).word in
      word_every (offsets lattice) (map (λ e. e.start) (joined lattice)) (map (λ e. e.id) (joined lattice)) (char_count lattice) scores (get_or frequencies (0 + n) 0) (in_turn (add_next lattices frequencies scores) (replicate (length scores) nought) 0 n) w (frequent (0 + n) word) (words_every n (omega arith))

  pub expected_amounts : Every (expected_of lattices frequencies scores)
  expected_amounts = words_every (length lattices - 0) (omega arith)

-- ---- where the total is finite, each is a count
module _ (expected : List Float) (every : Every expected) where
  abbrev sum_to : ℕ → Float
  sum_to k = in_turn (λ total piece. total ⊕ get_or expected piece nan) nought 0 k

  abbrev Infinite : ℕ → Type 0
  Infinite k = Amount (sum_to k) × ((j : ℕ) → j < k → get_or expected j nan ≡ inf false → sum_to k ≡ inf false)

  none : (j : ℕ) → j < 0 → ⊥
  none j h = omega arith

  infinite : (k : ℕ) → k ≤ length expected → Infinite k
  infinite zero l = (inr nought_count, λ j h. absurd (none j h))
  infinite (suc k) l =
      let here : 0 + k < length expected = let z = zero-add k in omega arith in
      let o = infinite k (omega arith) in
      let c = every_at expected (0 + k) here every in (
        plus_amount (sum_to k) (get_or expected (0 + k) nan) o.0 c,
        λ j h e. elim (dec_lt j k) [
          | yes a ↦ ap (λ (z : Float). z ⊕ get_or expected (0 + k) nan) (o.1 j a e) ∙ infinite_first (get_or expected (0 + k) nan) c
          | no a ↦ let z : j ≡ 0 + k = omega arith in ap (λ (x : Float). sum_to k ⊕ x) (subst (λ (p : ℕ). get_or expected p nan ≡ inf false) z e) ∙ infinite_second (sum_to k) o.0
        ],
      )

  pub finite_counts : T (finite (total_of expected)) → Counts expected
  finite_counts t piece l = elim (every_at expected piece l every) [
    | inl e ↦ absurd (subst (λ (x : Float). T (finite x)) ((infinite (length expected - 0) (omega arith)).1 piece (omega arith) e) t)
    | inr c ↦ c
  ]
