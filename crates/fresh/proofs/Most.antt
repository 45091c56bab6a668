-- At most so many edges and offsets: a character has a byte or more, and ends at most as many edges as the length setting. Assumes nothing.
use mathlib.Core.Path.{◌≡◌, ap}
use mathlib.Core.Bool.{cond}
use mathlib.Core.List.{List, []}
use mathlib.Core.Option.{Option, none}
use Prim.Native.Nat.{ℕ, zero, suc, ◌+◌, ◌*◌, ◌-◌, ◌≤◌, ◌<◌}
use native.Mathlib.Decide.{dec_lt}
use native.Mathlib.Nat.{le_refl, le_trans, mul-suc, mul-add, mul-le-mul_left, mul-le-mul}
use native.Mathlib.Omega.{arith}
use lib.ListN.{length, drop, length-append, length-take}
use borrow.Author.Tests.{lt-leb}
use Rattle.utf8.specs.Encode.{encode, spelling, Scalars, none as no-scalar, more, Spells}
use Rattle.utf8.specs.Chars.{chars_of}
use Rattle.utf8.proofs.Whole.{stands}
use Rattle.utf8.proofs.Spelt.{at_front}
use Rattle.spans.specs.Spans.{many, from, bytes, chars_at}
use Rattle.spans.specs.Check.{Good, AllGood}
use Rattle.lattice.specs.Lattice.{between, edge_id, edge, starting, ending, rows, lattice}
use Rattle.lattice.specs.Pieces.{id_of}
use Rattle.lattice.specs.Layout.{joined, edge_count}
use Rattle.lattice.proofs.Flat.{edges, ends}
use Rattle.builder.proofs.Starts.{starting_none}
use Rattle.builder.proofs.Ends.{edge_one, count_more}
use Rattle.builder.proofs.Words.{cache_of, edges_next, ends_next}
use Rattle.fresh.specs.Steps.{Short, bytes_of}

-- ---- a word has no more characters than bytes
spelt_few : {cs : List ℕ} → Scalars cs → length cs ≤ length (spelling cs)
unfolding spelling
spelt_few no-scalar = omega arith
spelt_few (more {c} {cs} h r) = let a = spelt_few r in let b = (stands (at_front c h [])).some in let d = length-append (encode c) (spelling cs) in omega arith

pub chars_few : {s : List ℕ} → Spells s (chars_of s) → length (chars_of s) ≤ length s
chars_few p = let a = spelt_few p.scalars in let b = ap length p.spelt in omega arith

word_few : {text words : List ℕ} {k : ℕ} → Good text words 255 k → length (chars_at text words k) ≤ bytes words k
word_few {text} {words} {k} g = let a = chars_few g.utf8 in let b = length-take (bytes words k) (drop (from words k) text) in omega arith

-- ---- an end has at most one edge for each start that is not too far before it
starting_from : (f : ℕ → Option ℕ) (low n : ℕ) → ((k : ℕ) → k < low → f k ≡ none) → length (starting f n) ≤ n - low
starting_from f low zero h = omega arith
starting_from f low (suc n) h = elim (dec_lt n low) [
  | yes l ↦ let a = ap length (starting_none f (suc n) (λ k m. h k (omega arith))) in omega arith
  | no l ↦ let a = starting_from f low n h in let b = edge_one n (f n) in let c = length-append (starting f n) (edge n (f n)) in omega arith
]

-- a product of two numbers is beyond `omega`
sum_few : {a b c x y z : ℕ} → c ≡ a + b → a ≤ x → b ≤ y → z ≡ x + y → c ≤ z
sum_few e h l d = omega arith

module _ (setting : ℕ) (pieces : List (List ℕ)) (word : List ℕ) where
  too_far : (end k : ℕ) → k < end - setting → edge_id setting pieces word end k ≡ none
  too_far end k l = ap (λ b. cond b (id_of pieces (between word k end)) none) (lt-leb (end - k) setting (omega arith))

  end_few : (end : ℕ) → length (ending setting pieces word end) ≤ setting
  end_few end = let a = starting_from (edge_id setting pieces word end) (end - setting) end (too_far end) in omega arith

  -- position 0 ends none
  rows_few : (k : ℕ) → length (joined (rows (ending setting pieces word) (suc k))) ≤ setting * k
  rows_few zero = omega arith
  rows_few (suc k) = sum_few (count_more (ending setting pieces word) (suc k)) (rows_few k) (end_few (suc k)) (mul-suc setting k)

  lattice_few : edge_count (lattice setting pieces word) ≤ setting * length word
  lattice_few = rows_few (length word)

-- ---- the cache of the first k words
module _ (setting : ℕ) (pieces : List (List ℕ)) (text words : List ℕ) where
  pub edges_few : (k : ℕ) → AllGood text words 255 k → length (edges (cache_of setting pieces text words k)) ≤ setting * bytes_of words k
  edges_few zero good = omega arith
  edges_few (suc k) good =
      sum_few (edges_next setting pieces text words k) (edges_few k (λ j l. good j (omega arith)))
      (le_trans (lattice_few setting pieces (chars_at text words k)) (mul-le-mul_left setting (word_few (good k (omega arith)))))
      (mul-add setting (bytes_of words k) (bytes words k))

  pub ends_few : (k : ℕ) → AllGood text words 255 k → length (ends (cache_of setting pieces text words k)) ≤ bytes_of words k + 2 * k
  ends_few zero good = omega arith
  ends_few (suc k) good =
      let a = ends_few k (λ j l. good j (omega arith)) in
      let b = ends_next setting pieces text words k in
      let c = word_few (good k (omega arith)) in
      omega arith

-- ---- the bytes of the first k words
bytes_few : {words : List ℕ} → Short words → (k : ℕ) → k ≤ many words → bytes_of words k ≤ 255 * k
bytes_few s zero h = omega arith
bytes_few s (suc k) h = let a = bytes_few s k (omega arith) in let b = s.short k (omega arith) in omega arith

-- ---- what `ample` asks for has 64 bits
pub small : {words : List ℕ} {sum : ℕ} → Short words → sum ≡ bytes_of words (many words) → sum ≤ 4177920
small {words} s e = let a = bytes_few s (many words) (le_refl (many words)) in let b = s.few in omega arith

pub product_small : {words : List ℕ} {setting sum : ℕ} → Short words → setting ≤ 32 → sum ≡ bytes_of words (many words) → setting * sum ≤ 133693440
product_small s h e = mul-le-mul h (small s e)
