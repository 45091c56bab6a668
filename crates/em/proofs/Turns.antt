-- One turn of each loop, and what the choices of a pass come to. Assumes nothing.
use Rattle.std.proofs.Common.{◌≡◌, ℕ, zero, suc, ◌+◌, ◌<◌, ◌≤◌, Bool, true, false, cond, not, ◌||◌, eqb, List, [], ◌∷◌, ◌++◌, map, length, get_or, take, drop, set, sym, refl, ap, ◌∙◌, subst, ap₂, add-one, arith, length-append, length-drop, length-take-le, take-suc, take_at, ne_eqb}
use mathlib.Core.List.{map-append}
use native.Mathlib.Decide.{dec_lt}
use lib.ListN.{length-map}
use lib.Ieee.{Float, nan, le}
use Rattle.math.specs.Steps.{◌⊕◌, zero as nought}
use Rattle.laws.specs.Tests.{Says}
use Rattle.formed.specs.Word.{WordFormed}
use Rattle.connected.specs.Cut.{Connected}
use Rattle.connected.specs.Word.{low}
use Rattle.connected.proofs.Word.{first, last, naming}
use Rattle.connected.proofs.Theorems.{one_answer}
use Rattle.expectations.specs.Edges.{over}
use Rattle.expectations.specs.Sums.{expected_shares}
use Rattle.expectations.proofs.InTurn.{over_none, over_more}
use Rattle.expectations.proofs.Filled.{Filled, filled_more}
use Rattle.em.specs.Reach.{connects}
use Rattle.em.specs.Em.{weight_of, add_edge, add_edges, skipped, add_word, total_of, new_score, rescored}
use Rattle.em.specs.Steps.{AllCounted}
use Rattle.em.proofs.Reaching.{connects_says}

-- ---- a word's edges
pub record Adding (ids : List ℕ) (emitted : List Float) (weight : Float) (before : List Float) (k : ℕ) (expected : List Float) : Type 0 where
  pub long : length expected ≡ length before
  pub counted : AllCounted ids (length emitted) (length before)
  pub is : expected ≡ over (add_edge ids emitted weight) before 0 k

module _ {ids : List ℕ} {emitted : List Float} {weight : Float} {before : List Float} where
  pub adding_none : AllCounted ids (length emitted) (length before) → Adding ids emitted weight before 0 before
  adding_none a = record { long = refl; counted = a; is = sym (over_none (add_edge ids emitted weight) before 0) }

  pub adding_all : {k : ℕ} {expected : List Float} → k ≡ length ids → Adding ids emitted weight before k expected → expected ≡ add_edges ids emitted weight before
  unfolding add_edges
  adding_all e a = a.is ∙ ap (over (add_edge ids emitted weight) before 0) e

-- ---- a word: skipped, or not
module _ (offsets starts ids : List ℕ) (n : ℕ) (scores : List Float) (frequency : ℕ) (expected : List Float) where
  word_by : (t : Bool) → skipped offsets starts n ≡ t → add_word offsets starts ids n scores frequency expected ≡ cond t expected (add_edges ids (expected_shares offsets starts ids scores n) (weight_of frequency) expected)
  unfolding add_word
  word_by t e = ap (λ (b : Bool). cond b expected (add_edges ids (expected_shares offsets starts ids scores n) (weight_of frequency) expected)) e

  pub word_empty : n ≡ 0 → expected ≡ add_word offsets starts ids n scores frequency expected
  word_empty z = sym (word_by true (ap (λ (k : ℕ). eqb k 0 || not (connects offsets starts n)) z))

  or_true : (b : Bool) → (b || true) ≡ true
  or_true true = refl
  or_true false = refl

  module _ (w : WordFormed offsets starts ids (length scores) n) (r : Bool) (said : Says r (Connected offsets starts n)) where
    answer : connects offsets starts n ≡ r
    answer = one_answer (Connected offsets starts n) (connects offsets starts n) r (connects_says offsets starts w) said

    pub word_unconnected : r ≡ false → expected ≡ add_word offsets starts ids n scores frequency expected
    word_unconnected f = sym (word_by true (ap (λ (b : Bool). eqb n 0 || not b) (answer ∙ f) ∙ or_true (eqb n 0)))

    pub word_added : r ≡ true → (n ≡ 0 → ⊥) → {shares : List Float} {weight : Float} {next : List Float} → shares ≡ expected_shares offsets starts ids scores n → weight ≡ weight_of frequency → next ≡ add_edges ids shares weight expected
        → next ≡ add_word offsets starts ids n scores frequency expected
    word_added t some s w e =
        e ∙ ap₂ (λ (x : List Float) (y : Float). add_edges ids x y expected) s w
        ∙ sym (word_by false (ap₂ ◌||◌ (ne_eqb n 0 some) (ap not (answer ∙ t))))

-- each edge of a word has an entry, and its piece a count
module _ {offsets starts ids : List ℕ} {pieces n : ℕ} (w : WordFormed offsets starts ids pieces n) where
  named_to : (p k : ℕ) → p ≤ n + 1 → k < low offsets p → get_or ids k 0 < pieces
  named_to zero k l h = let f = first w in absurd (nowhere f h)
    where
      nowhere : low offsets 0 ≡ 0 → k < low offsets 0 → ⊥
      nowhere f h = omega arith
  named_to (suc p) k l h = elim (dec_lt k (low offsets p)) [
    | yes a ↦ named_to p k (omega arith) a
    | no a ↦ (naming w p (omega arith)).named k (omega arith) (subst (λ (q : ℕ). k < get_or offsets q 0) (sym (add-one p)) h)
  ]

  pub all_counted : {m count : ℕ} → length starts ≤ m → count ≡ pieces → AllCounted ids m count
  all_counted l e =
      let same = w.formed.inside.equally_many in
      let end = last w in
      record { entries = omega arith; named = λ k h. subst (λ (c : ℕ). get_or ids k 0 < c) (sym e) (named_to (n + 1) k (omega arith) (omega arith)) }

-- the entries of a word's edges, once they are emitted
pub entries_long : (shares emitted before : List Float) (n : ℕ) → emitted ≡ shares ++ drop n before → length emitted ≡ length before → n ≤ length before → length shares ≡ n
entries_long shares emitted before n e l h = let a = ap length e ∙ length-append shares (drop n before) in let b = length-drop n before in omega arith

pub entries : (shares emitted before : List Float) (n : ℕ) → emitted ≡ shares ++ drop n before → length emitted ≡ length before → n ≤ length before → take n emitted ≡ shares
entries shares emitted before n e l h = ap (take n) e ∙ take_at shares (drop n before) n (entries_long shares emitted before n e l h)

-- ---- the total
abbrev pub sum_to : List Float → ℕ → Float
sum_to expected k = over (λ total piece. total ⊕ get_or expected piece nan) nought 0 k

pub sum_none : (expected : List Float) → nought ≡ sum_to expected 0
sum_none expected = sym (over_none (λ total piece. total ⊕ get_or expected piece nan) nought 0)

pub sum_more : (expected : List Float) (k : ℕ) {sum : Float} → sum ≡ sum_to expected k → sum ⊕ get_or expected k nan ≡ sum_to expected (k + 1)
sum_more expected k e = ap (λ (x : Float). x ⊕ get_or expected k nan) e ∙ sym (over_more (λ total piece. total ⊕ get_or expected piece nan) nought 0 k (omega arith))

pub sum_all : (expected : List Float) (k : ℕ) {sum : Float} → k ≡ length expected → sum ≡ sum_to expected k → sum ≡ total_of expected
sum_all expected k n e = e ∙ ap (sum_to expected) n

-- ---- new scores, one after the other
module _ (sum : Float) (expected : List Float) where
  abbrev pub new_to : ℕ → List Float
  new_to k = map (new_score sum) (take k expected)

  length_new : (k : ℕ) → k ≤ length expected → length (new_to k) ≡ k
  length_new k l = length-map (take k expected) (new_score sum) ∙ length-take-le k expected l

  new_more : (k : ℕ) → k < length expected → new_to k ++ (new_score sum (get_or expected k nan) ∷ []) ≡ new_to (k + 1)
  new_more k l =
      sym (map-append (new_score sum) (take k expected) (get_or expected k nan ∷ []))
      ∙ ap (map (new_score sum)) (sym (take-suc expected k nan l))
      ∙ ap new_to (sym (add-one k))

  pub rescore_more : {scores now : List Float} (k : ℕ) {r : Float} → length expected ≡ length scores → k < length expected → Filled (new_to k) scores k now → r ≡ new_score sum (get_or expected k nan)
      → Filled (new_to (k + 1)) scores (k + 1) (set now k r)
  rescore_more {scores} {now} k {r} same l f e =
      subst (λ (x : List Float). Filled x scores (k + 1) (set now k r)) (ap (λ (v : Float). new_to k ++ (v ∷ [])) e ∙ new_more k l)
      (filled_more r (length_new k (omega arith)) (omega arith) f)

-- ---- the scores, by the total
module _ (scores expected : List Float) where
  rescored_by : (sum : Float) (t : Bool) → sum ≡ total_of expected → le sum nought ≡ t → rescored scores expected ≡ cond t scores (map (new_score sum) expected)
  unfolding rescored
  rescored_by sum t s e =
      ap (λ (x : Float). cond (le x nought) scores (map (new_score x) expected)) (sym s)
      ∙ ap (λ (b : Bool). cond b scores (map (new_score sum) expected)) e

  pub unchanged : (sum : Float) → sum ≡ total_of expected → le sum nought ≡ true → scores ≡ rescored scores expected
  unchanged sum s e = sym (rescored_by sum true s e)

  pub changed : (sum : Float) {next : List Float} → sum ≡ total_of expected → le sum nought ≡ false → next ≡ map (new_score sum) expected → next ≡ rescored scores expected
  changed sum s e n = n ∙ sym (rescored_by sum false s e)
