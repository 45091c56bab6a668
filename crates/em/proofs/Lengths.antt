-- A pass has as many scores as there were. Assumes nothing.
use Rattle.std.proofs.Common.{◌≡◌, ℕ, zero, suc, ◌-◌, List, map, length, replicate, refl, ◌∙◌, length-set}
use lib.ListN.{length-map, length-replicate}
use lib.Ieee.{Float, le}
use Rattle.math.specs.Steps.{zero as nought}
use Rattle.laws.proofs.Choices.{cond_cases}
use Rattle.lattice.specs.Lattice.{Edge}
use Rattle.expectations.specs.Edges.{in_turn}
use Rattle.expectations.specs.Sums.{expected_shares}
use Rattle.em.specs.Em.{weight_of, add_edge, add_edges, skipped, add_word, add_next, expected_of, total_of, new_score, rescored, em, em_times}

edges_long : (ids : List ℕ) (shares : List Float) (weight : Float) (expected : List Float) (n : ℕ) → length (in_turn (add_edge ids shares weight) expected 0 n) ≡ length expected
edges_long ids shares weight expected zero = refl
edges_long ids shares weight expected (suc n) = length-set (in_turn (add_edge ids shares weight) expected 0 n) _ _ ∙ edges_long ids shares weight expected n

added_long : (ids : List ℕ) (shares : List Float) (weight : Float) (expected : List Float) → length (add_edges ids shares weight expected) ≡ length expected
unfolding add_edges
added_long ids shares weight expected = edges_long ids shares weight expected (length ids - 0)

word_long : (offsets starts ids : List ℕ) (n : ℕ) (scores : List Float) (frequency : ℕ) (expected : List Float) → length (add_word offsets starts ids n scores frequency expected) ≡ length expected
unfolding add_word
word_long offsets starts ids n scores frequency expected =
    cond_cases (λ (xs : List Float). length xs ≡ length expected) (skipped offsets starts n) expected (add_edges ids (expected_shares offsets starts ids scores n) (weight_of frequency) expected) (λ e. refl)
    (λ e. added_long ids (expected_shares offsets starts ids scores n) (weight_of frequency) expected)

words_long : (lattices : List (List (List Edge))) (frequencies : List ℕ) (scores expected : List Float) (n : ℕ) → length (in_turn (add_next lattices frequencies scores) expected 0 n) ≡ length expected
words_long lattices frequencies scores expected zero = refl
words_long lattices frequencies scores expected (suc n) = word_long _ _ _ _ scores _ (in_turn (add_next lattices frequencies scores) expected 0 n) ∙ words_long lattices frequencies scores expected n

pub expected_long : (lattices : List (List (List Edge))) (frequencies : List ℕ) (scores : List Float) → length (expected_of lattices frequencies scores) ≡ length scores
expected_long lattices frequencies scores = words_long lattices frequencies scores (replicate (length scores) nought) (length lattices - 0) ∙ length-replicate (length scores) nought

rescored_long : (scores expected : List Float) → length expected ≡ length scores → length (rescored scores expected) ≡ length scores
unfolding rescored
rescored_long scores expected e =
    cond_cases (λ (xs : List Float). length xs ≡ length scores) (le (total_of expected) nought) scores (map (new_score (total_of expected)) expected) (λ t. refl) (λ t. length-map expected (new_score (total_of expected)) ∙ e)

pub em_long : (lattices : List (List (List Edge))) (frequencies : List ℕ) (scores : List Float) → length (em lattices frequencies scores) ≡ length scores
unfolding em
em_long lattices frequencies scores = rescored_long scores (expected_of lattices frequencies scores) (expected_long lattices frequencies scores)

pub times_long : (lattices : List (List (List Edge))) (frequencies : List ℕ) (times : ℕ) (scores : List Float) → length (em_times lattices frequencies times scores) ≡ length scores
times_long lattices frequencies zero scores = refl
times_long lattices frequencies (suc times) scores = em_long lattices frequencies (em_times lattices frequencies times scores) ∙ times_long lattices frequencies times scores
