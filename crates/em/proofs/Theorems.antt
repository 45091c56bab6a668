-- What a pass promises beyond its equation: one outcome; which words are skipped; new scores are zero or below, and as many as before; small examples. Assumes nothing.
use Rattle.std.proofs.Common.{◌≡◌, ℕ, zero, suc, ◌<◌, max, T, List, [], ◌∷◌, map, length, get_or, sym, refl, subst, arith}
use lib.ListN.{length-map}
use lib.Ieee.{Float, nan, add, sub, mul, div, neg, lt, le, eq, of_int, of_bits, to_bits, to_unsigned}
use lib.Ieee.Scale.{finite}
use Rattle.laws.specs.Tests.{Says}
use Rattle.laws.proofs.Choices.{cond_cases}
use Rattle.laws.proofs.Outcome.{one_outcome}
use Rattle.math.specs.Steps.{lit, exp_steps, ln_steps, ln1p_steps, zero as nought}
use Rattle.lattice.specs.Lattice.{Edge}
use Rattle.formed.specs.Word.{WordFormed}
use Rattle.cached.specs.Held.{Lattices}
use Rattle.connected.specs.Cut.{Connected}
use Rattle.scores.specs.Floats.{ZeroOrBelow}
use Rattle.viterbi.specs.Slices.{Scored}
use Rattle.em.specs.Reach.{connects}
use Rattle.expectations.specs.LogAdd.{log_add}
use Rattle.expectations.specs.Sums.{expected_shares}
use Rattle.em.specs.Em.{add_edges, add_word, expected_of, total_of, floor, new_score, rescored, em, em_times, em_many}
use Rattle.em.proofs.Reaching.{connects_says}
use Rattle.em.proofs.Lengths.{times_long}
use Rattle.em.proofs.Amounts.{Frequent, expected_amounts, finite_counts}
use Rattle.em.proofs.Counts.{Counts, total_least, new_below, map_at}

-- ---- one outcome
pub one_pass : (lattices : List (List (List Edge))) (frequencies : List ℕ) (scores one other : List Float) → one ≡ em lattices frequencies scores → other ≡ em lattices frequencies scores → one ≡ other
one_pass lattices frequencies scores one other p q = one_outcome p q

pub one_round : (lattices : List (List (List Edge))) (frequencies : List ℕ) (iterations : ℕ) (scores one other : List Float) → one ≡ em_many lattices frequencies iterations scores → other ≡ em_many lattices frequencies iterations scores → one ≡ other
one_round lattices frequencies iterations scores one other p q = one_outcome p q

-- ---- "no connection": the test says whether a well-formed lattice has a cut
pub skips_the_unconnected : (offsets starts ids : List ℕ) (pieces n : ℕ) → WordFormed offsets starts ids pieces n → Says (connects offsets starts n) (Connected offsets starts n)
skips_the_unconnected offsets starts ids pieces n w = connects_says offsets starts w

-- ---- new scores are zero or below, where each piece is expected a finite number of times that is not negative
rescored_below : (scores expected : List Float) → Scored scores → Counts expected → Scored (rescored scores expected)
unfolding rescored
rescored_below scores expected old counts =
    cond_cases Scored (le (total_of expected) nought) scores (map (new_score (total_of expected)) expected) (λ e. old) (λ e id l.
    let inside : id < length expected = subst (λ (n : ℕ). id < n) (length-map expected (new_score (total_of expected))) l in
    subst ZeroOrBelow (sym (map_at (new_score (total_of expected)) expected id nan nan inside))
    (new_below (total_of expected) (get_or expected id nan) (counts id inside) (total_least expected counts id inside)))

pub zero_or_below : (lattices : List (List (List Edge))) (frequencies : List ℕ) (scores : List Float) → Scored scores → Counts (expected_of lattices frequencies scores) → Scored (em lattices frequencies scores)
unfolding em
zero_or_below lattices frequencies scores old counts = rescored_below scores (expected_of lattices frequencies scores) old counts

-- what is expected is never NaN and never negative, so a finite total is enough
pub zero_or_below_of_finite : (lattices : List (List (List Edge))) (frequencies : List ℕ) (scores : List Float) → Lattices (length scores) lattices → Frequent lattices frequencies → T (finite (total_of (expected_of lattices frequencies scores)))
    → Scored scores → Scored (em lattices frequencies scores)
zero_or_below_of_finite lattices frequencies scores sound frequent t old =
    zero_or_below lattices frequencies scores old (finite_counts (expected_of lattices frequencies scores) (expected_amounts lattices frequencies scores sound frequent) t)

-- and so after any number of passes
pub zero_or_below_times : (lattices : List (List (List Edge))) (frequencies : List ℕ) (times : ℕ) (scores : List Float) → Scored scores
    → ((done : ℕ) → done < times → Counts (expected_of lattices frequencies (em_times lattices frequencies done scores))) → Scored (em_times lattices frequencies times scores)
zero_or_below_times lattices frequencies zero scores old counts = old
zero_or_below_times lattices frequencies (suc times) scores old counts =
    zero_or_below lattices frequencies (em_times lattices frequencies times scores) (zero_or_below_times lattices frequencies times scores old (λ done l. counts done (omega arith))) (counts times (omega arith))

-- ---- as many scores as there were
pub as_many : (lattices : List (List (List Edge))) (frequencies : List ℕ) (iterations : ℕ) (scores : List Float) → length (em_many lattices frequencies iterations scores) ≡ length scores
as_many lattices frequencies iterations scores = times_long lattices frequencies (max 1 iterations) scores

-- ---- small examples. The word a three times, with the pieces a and b of scores -1: a is all there is, and b "gets -1021"
abbrev minus_one : Float
minus_one = lit 0xbff0_0000_0000_0000

abbrev minus_two : Float
minus_two = lit 0xc000_0000_0000_0000

abbrev edge : ℕ → ℕ → Edge
edge start id = record { start = start; id = id }

pub lone_piece : em (([] ∷ (edge 0 0 ∷ []) ∷ []) ∷ []) (3 ∷ []) (minus_one ∷ minus_one ∷ []) ≡ nought ∷ floor ∷ []
unfolding em rescored add_word add_edges connects expected_shares log_add exp_steps ln_steps ln1p_steps add sub mul div neg lt le eq of_int of_bits to_bits to_unsigned
lone_piece = refl

-- "Words with n = 0 or no connection are skipped. Total ≤ 0 changes nothing": the empty word, and ab where only a is a piece
pub nothing_expected : em (([] ∷ []) ∷ ([] ∷ (edge 0 0 ∷ []) ∷ [] ∷ []) ∷ []) (5 ∷ 3 ∷ []) (minus_one ∷ minus_two ∷ []) ≡ minus_one ∷ minus_two ∷ []
unfolding em rescored add_word add_edges connects expected_shares log_add exp_steps ln_steps ln1p_steps add sub mul div neg lt le eq of_int of_bits to_bits to_unsigned
nothing_expected = refl

-- document 01's aba twice, with the pieces a, b, ab, ba: expected about 8/3, 2/3, 2/3, 2/3 times, so scores of about ln 4/7 and ln 1/7
pub aba_twice : em (([] ∷ (edge 0 0 ∷ []) ∷ (edge 0 2 ∷ edge 1 1 ∷ []) ∷ (edge 1 3 ∷ edge 2 0 ∷ []) ∷ []) ∷ []) (2 ∷ []) (minus_one ∷ minus_one ∷ minus_two ∷ minus_two ∷ []) ≡ lit 0xbfe1_e85f_5e70_40e6 ∷ lit 0xbfff_2272_ae32_5a1e ∷ lit 0xbfff_2272_ae32_5a1e ∷ lit 0xbfff_2272_ae32_5a1e ∷ []
unfolding em rescored add_word add_edges connects expected_shares log_add exp_steps ln_steps ln1p_steps add sub mul div neg lt le eq of_int of_bits to_bits to_unsigned
aba_twice = refl
