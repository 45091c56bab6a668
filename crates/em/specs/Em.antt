-- One pass of expectation and maximization over a cache: document 01's port order 9. A float's bits depend on the order of its sums: words in order, then edges in order; the total in the order of pieces. Definitions only.
use Rattle.std.specs.Prelude.{ℕ, zero, suc, max, Bool, cond, not, ◌||◌, List, [], map, length, get_or, replicate, pos, ◌==◌, slice_index, slice_index_or, slice_set, Float}
use Rattle.std.specs.Float.{nan, binary64}
use Rattle.std.specs.Float.Ieee.{of_int, neg, lt, le}
use Rattle.math.specs.Steps.{◌⊕◌, ◌⊗◌, ◌⊘◌, lit, ln_steps, zero as nought}
use Rattle.lattice.specs.Lattice.{Edge}
use Rattle.lattice.specs.Layout.{joined, offsets, char_count}
use Rattle.expectations.specs.Edges.{over}
use Rattle.expectations.specs.Sums.{expected_shares}
use Rattle.em.specs.Reach.{connects}

-- ---- expectation
-- a frequency as an f64, the nearest
abbrev pub weight_of : ℕ → Float
weight_of frequency = of_int binary64 (pos frequency)

-- edge k: its piece is expected by its share times the frequency more
abbrev pub add_edge : List ℕ → List Float → Float → List Float → ℕ → List Float
add_edge ids shares weight expected k = slice_set expected (slice_index ids k) (get_or expected (slice_index ids k) nan ⊕ get_or shares k nan ⊗ weight)

-- a word's edges, in order
unfoldable pub add_edges : List ℕ → List Float → Float → List Float → List Float
add_edges ids shares weight expected = over (add_edge ids shares weight) expected 0 (length ids)

-- "Words with n = 0 or no connection are skipped."
abbrev pub skipped : List ℕ → List ℕ → ℕ → Bool
skipped offsets starts n = n == 0 || not (connects offsets starts n)

unfoldable pub add_word : List ℕ → List ℕ → List ℕ → ℕ → List Float → ℕ → List Float → List Float
add_word offsets starts ids n scores frequency expected =
    cond (skipped offsets starts n) expected (add_edges ids (expected_shares offsets starts ids scores n) (weight_of frequency) expected)

-- a word by its lattice
abbrev pub add_lattice : List (List Edge) → List Float → ℕ → List Float → List Float
add_lattice lattice scores frequency expected =
    add_word (offsets lattice) (map (λ e. e.start) (joined lattice)) (map (λ e. e.id) (joined lattice)) (char_count lattice) scores frequency expected

-- word after word, each with its frequency
abbrev pub add_next : List (List (List Edge)) → List ℕ → List Float → List Float → ℕ → List Float
add_next lattices frequencies scores expected word = add_lattice (slice_index_or lattices word []) scores (slice_index frequencies word) expected

-- how often each piece is expected: all words in order, from zeros
abbrev pub expected_of : List (List (List Edge)) → List ℕ → List Float → List Float
expected_of lattices frequencies scores = over (add_next lattices frequencies scores) (replicate (length scores) nought) 0 (length lattices)

-- ---- maximization
abbrev pub total_of : List Float → Float
total_of expected = over (λ total piece. total ⊕ get_or expected piece nan) nought 0 (length expected)

-- "A piece with no expectation gets -1021."
abbrev pub floor : Float
floor = neg (lit 0x408f_e800_0000_0000)

-- "Underflow of count/total gives minus infinity": it is ln's
abbrev pub new_score : Float → Float → Float
new_score total count = cond (lt nought count) (ln_steps (count ⊘ total)) floor

-- "Total ≤ 0 changes nothing."
unfoldable pub rescored : List Float → List Float → List Float
rescored scores expected = cond (le (total_of expected) nought) scores (map (new_score (total_of expected)) expected)

-- ---- the scores after a pass, and after so many
unfoldable pub em : List (List (List Edge)) → List ℕ → List Float → List Float
em lattices frequencies scores = rescored scores (expected_of lattices frequencies scores)

abbrev pub em_times : List (List (List Edge)) → List ℕ → ℕ → List Float → List Float
em_times lattices frequencies zero scores = scores
em_times lattices frequencies (suc times) scores = em lattices frequencies (em_times lattices frequencies times scores)

-- "EM runs max(1, iterations) a round."
abbrev pub em_many : List (List (List Edge)) → List ℕ → ℕ → List Float → List Float
em_many lattices frequencies iterations scores = em_times lattices frequencies (max 1 iterations) scores
