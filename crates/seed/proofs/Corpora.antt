-- The positions of the words are those of the corpus, and what is found at them. Assumes nothing.
use mathlib.Core.Path.{◌≡◌, refl, sym, ap, ◌∙◌, subst}
use mathlib.Core.List.{List, [], ◌∷◌, ◌++◌}
use Prim.Native.Nat.{ℕ, zero, suc, ◌+◌, ◌≤◌, ◌<◌}
use native.Mathlib.Omega.{arith}
use native.Mathlib.Decide.{dec_lt}
use lib.ListN.{length, get_or, take, drop, length-map, length-take}
use lib.Seq.{take-append-le, take_all}
use Rattle.spans.specs.Spans.{many, chars_at, first}
use Rattle.positions.specs.Positions.{text_at}
use Rattle.positions.specs.Gathered.{begin, Gathered}
use Rattle.positions.proofs.Rows.{begin_more}
use Rattle.positions.proofs.Theorems as positions
use Rattle.order.specs.Sort.{In}
use Rattle.order.proofs.Laws.{sum_sort, sort_in}
use Rattle.ranking.specs.Corpus.{Corpus, word_at, frequency_at, count, weight}
use Rattle.ranking.specs.Positions.{characters, before, Positioned}
use Rattle.ranking.specs.Counting.{Entry, span, by_text, listed_in_order, found, spelt}
use Rattle.ranking.proofs.Lists.{in_span, span_length}
use Rattle.ranking.proofs.Bounds.{count_le}
use Rattle.ranking.proofs.Ranks.{in_order_rising}
use Rattle.ranking.proofs.Runs.{adds}
use Rattle.ranking.proofs.Emitted.{emit_right}
use Rattle.ranking.proofs.Places.{count_over_lem}
use Rattle.ranking.proofs.Found.{found_walk}
use Rattle.ranks.proofs.Made.{made_at}
use Rattle.listed.proofs.Theorems.{first_map}
use Rattle.candidates.specs.Columns.{frequency_of}
use Rattle.seed.specs.Seed.{corpus_of}

-- ---- a list by number
first_long : {A : Type 0} (f : ℕ → A) (n : ℕ) → length (first f n) ≡ n
first_long f n = ap length (first_map f n) ∙ length-map (span 0 n) f ∙ span_length 0 n

first_at : {A : Type 0} (f : ℕ → A) (n k : ℕ) (d : A) → k < n → get_or (first f n) k d ≡ f k
first_at {A} f n k d h = ap (λ (l : List A). get_or l k d) (first_map f n) ∙ made_at f n k d h

first_take : {A : Type 0} (f : ℕ → A) (n k : ℕ) → k ≤ n → take k (first f n) ≡ first f k
first_take f zero zero h = refl
first_take f zero (suc k) h = absurd (omega arith)
first_take {A} f (suc n) k h = elim (dec_lt k (suc n)) [
  | yes l ↦ take-append-le k (first f n) (f n ∷ []) (omega (arith, first_long f n)) ∙ first_take f n k (omega arith)
  | no l ↦ let e : k ≡ suc n = omega arith in
      take_all k (first f (suc n)) (omega (arith, first_long f (suc n))) ∙ ap (first f) (sym e)
]

characters_more : (corpus : Corpus) (w : List ℕ × ℕ) → characters (corpus ++ (w ∷ [])) ≡ characters corpus + length w.0
characters_more [] w = omega arith
characters_more (v ∷ corpus) w = omega (arith, characters_more corpus w)

module _ (text words frequencies : List ℕ) where
  abbrev word_of : ℕ → List ℕ × ℕ
  word_of k = (chars_at text words k, get_or frequencies k 0)

  characters_first : (k : ℕ) → characters (first word_of k) ≡ begin text words k
  characters_first zero = refl
  characters_first (suc k) = omega (arith, characters_more (first word_of k) (word_of k), characters_first k, begin_more text words k)

  before_is : (k : ℕ) → k ≤ many words → before (corpus_of text words frequencies) k ≡ begin text words k
  before_is k h = ap characters (first_take word_of (many words) k h) ∙ characters_first k

  module _ {reach : ℕ} {chars places : List ℕ} {n : ℕ} (g : Gathered text words reach (many words) chars places n) where
    pub corpus_positioned : Positioned (corpus_of text words frequencies) reach (text_at chars places) (frequency_of places frequencies) n
    corpus_positioned = record {
      many = g.counted ∙ sym (characters_first (many words));
      text_is = λ k i h h'.
          let a : k < many words = omega (arith, first_long word_of (many words)) in
          let w : word_at (corpus_of text words frequencies) k ≡ chars_at text words k = ap (λ (x : List ℕ × ℕ). x.0) (first_at word_of (many words) k ([], 0) a) in
          ap (λ (b : ℕ). text_at chars places (b + i)) (before_is k (omega arith))
          ∙ positions.text_is g k i a (subst (λ (cs : List ℕ). i < length cs) w h')
          ∙ ap (λ (cs : List ℕ). take reach (drop i cs)) (sym w);
      frequency_is = λ k i h h'.
          let a : k < many words = omega (arith, first_long word_of (many words)) in
          let w : word_at (corpus_of text words frequencies) k ≡ chars_at text words k = ap (λ (x : List ℕ × ℕ). x.0) (first_at word_of (many words) k ([], 0) a) in
          let v : frequency_at (corpus_of text words frequencies) k ≡ get_or frequencies k 0 = ap (λ (x : List ℕ × ℕ). x.1) (first_at word_of (many words) k ([], 0) a) in
          ap (λ (b : ℕ). frequency_of places frequencies (b + i)) (before_is k (omega arith))
          ∙ ap (λ (j : ℕ). get_or frequencies j 0) (g.places_are k i a (subst (λ (cs : List ℕ). i < length cs) w h')).word_is
          ∙ sym v;
    }

-- ---- what is found: a position, no more characters than its text has, and a count of at most W
pub record Entered (text : ℕ → List ℕ) (n high most : ℕ) (e : Entry) : Type 0 where
  pub position : e.0 < n
  pub short : e.1.0 ≤ high
  pub inside : e.1.0 ≤ length (text e.0)
  pub small : e.1.1 ≤ most

pub found_entered : {corpus : Corpus} {reach : ℕ} {text : ℕ → List ℕ} {frequency : ℕ → ℕ} {n : ℕ}
    → Positioned corpus reach text frequency n → (low high least : ℕ) → high ≤ reach
    → (e : Entry) → In e (found text frequency low high least n) → Entered text n high (weight corpus) e
found_entered {corpus} {reach} {text} {frequency} {n} z low high least h e i =
    let order = listed_in_order text n in
    let r = emit_right text frequency low high least [] order (in_order_rising text n) e
    (subst (λ (l : List Entry). In e l) (found_walk text frequency low high least order) i) in
    let m : length (spelt text e) ≤ high = omega (arith, length-take e.1.0 (text e.0), r.short) in
    let s = in_span e.0 0 n (sort_in (by_text text) e.0 (span 0 n) r.at) in
    let c : e.1.1 ≡ count corpus (spelt text e) =
    r.counted ∙ sum_sort (adds text frequency (spelt text e)) (by_text text) (span 0 n) ∙ count_over_lem z (spelt text e) (omega arith) in
    record {
      position = omega arith;
      short = r.short;
      inside = r.inside;
      small = omega (arith, c, count_le corpus (spelt text e));
    }
