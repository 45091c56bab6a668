-- The lattices of short words are small and well formed. Assumes nothing.
use mathlib.Core.Path.{◌≡◌, ap}
use mathlib.Core.Bool.{cond}
use mathlib.Core.List.{List, [], ◌∷◌}
use mathlib.Core.Option.{Option, none}
use Prim.Native.Nat.{ℕ, zero, suc, ◌+◌, ◌*◌, ◌-◌, ◌≤◌, ◌<◌}
use native.Mathlib.Decide.{dec_lt}
use native.Mathlib.Nat.{le_trans, mul-suc, mul-le-mul}
use native.Mathlib.Omega.{arith}
use lib.ListN.{length, get_or, length-append}
use borrow.Author.Tests.{lt-leb}
use Rattle.lattice.specs.Lattice.{between, edge_id, edge, starting, ending, rows, lattice, cache}
use Rattle.lattice.specs.Pieces.{id_of}
use Rattle.lattice.specs.Layout.{joined, edge_count}
use Rattle.builder.proofs.Starts.{starting_none}
use Rattle.builder.proofs.Ends.{edge_one, count_more, rows_long}
use Rattle.cached.specs.Held.{Lattices}
use Rattle.cached.proofs.Theorems.{built_lattices}
use Rattle.em.specs.Steps.{Small}

-- ---- an end has at most one edge for each start that is not too far before it
starting_from : (f : ℕ → Option ℕ) (low n : ℕ) → ((k : ℕ) → k < low → f k ≡ none) → length (starting f n) ≤ n - low
starting_from f low zero h = omega arith
starting_from f low (suc n) h = elim (dec_lt n low) [
  | yes l ↦ let a = ap length (starting_none f (suc n) (λ k m. h k (omega arith))) in omega arith
  | no l ↦ let a = starting_from f low n h in let b = edge_one n (f n) in let c = length-append (starting f n) (edge n (f n)) in omega arith
]

-- a product of two numbers is beyond `omega`
sum_few : {a b c x y z : ℕ} → c ≡ a + b → a ≤ x → b ≤ y → z ≡ x + y → c ≤ z
sum_few e h l d = omega arith

module _ (setting : ℕ) (pieces : List (List ℕ)) (word : List ℕ) where
  too_far : (end k : ℕ) → k < end - setting → edge_id setting pieces word end k ≡ none
  too_far end k l = ap (λ b. cond b (id_of pieces (between word k end)) none) (lt-leb (end - k) setting (omega arith))

  end_few : (end : ℕ) → length (ending setting pieces word end) ≤ setting
  end_few end = let a = starting_from (edge_id setting pieces word end) (end - setting) end (too_far end) in omega arith

  -- position 0 ends none
  rows_few : (k : ℕ) → length (joined (rows (ending setting pieces word) (suc k))) ≤ setting * k
  rows_few zero = omega arith
  rows_few (suc k) = sum_few (count_more (ending setting pieces word) (suc k)) (rows_few k) (end_few (suc k)) (mul-suc setting k)

  pub lattice_few : edge_count (lattice setting pieces word) ≤ setting * length word
  lattice_few = rows_few (length word)

  pub one_small : setting ≤ 32 → length word ≤ 255 → Small (lattice setting pieces word)
  one_small h l =
      let e : length (lattice setting pieces word) ≡ suc (length word) = rows_long (ending setting pieces word) (suc (length word)) in
      record { chars = omega arith; edges = le_trans lattice_few (mul-le-mul h l) }

-- ---- each of a cache
pub all_small : (setting : ℕ) → setting ≤ 32 → (pieces words : List (List ℕ)) → ((k : ℕ) → k < length words → length (get_or words k []) ≤ 255)
    → (k : ℕ) → k < length words → Small (get_or (cache setting pieces words) k [])
all_small setting h pieces [] short k l = absurd (omega arith)
all_small setting h pieces (word ∷ words) short zero l = one_small setting pieces word h (short 0 l)
all_small setting h pieces (word ∷ words) short (suc k) l = all_small setting h pieces words (λ j m. short (suc j) (omega arith)) k (omega arith)

pub all_lattices : (setting : ℕ) (pieces words : List (List ℕ)) → Lattices (length pieces) (cache setting pieces words)
all_lattices setting pieces words = built_lattices setting pieces words
