-- The loop of `utf8_words`, one word more at each turn. Assumes nothing.
use Rattle.std.specs.Prelude.{Result, Ok, Err}
use mathlib.Core.Path.{◌≡◌, refl, sym, ap, ap₂, ◌∙◌, subst}
use mathlib.Core.List.{List, [], ◌∷◌, ◌++◌, map}
use Prim.Native.Nat.{ℕ, suc, ◌+◌, ◌*◌, ◌≤◌, ◌<◌}
use native.Mathlib.Numerals.{add-one}
use native.Mathlib.Omega.{arith}
use lib.ListN.{length, get_or, set, length-append, length-map}
use Rattle.utf8.specs.Chars.{measured}
use Rattle.spans.specs.Spans.{many, from, bytes, octets}
use Rattle.lattice.specs.Written.{over}
use Rattle.lattice.proofs.Fronts.{over_long, stored}
use Rattle.corpus.specs.Kept.{pick, chosen, spans_at, frequencies_at, Keeping, Kept}
use Rattle.corpus.specs.Steps.{Turning, Turns}
use Rattle.corpus.proofs.Chosen.{chosen_few}

-- ---- lists by indexes, with one index more
pub spans_long : (words ks : List ℕ) → length (spans_at words ks) ≡ 2 * length ks
spans_long words [] = refl
spans_long words (k ∷ ks) = let h = spans_long words ks in omega arith

spans_more : (words ks : List ℕ) (k : ℕ) → spans_at words (ks ++ k ∷ []) ≡ spans_at words ks ++ from words k ∷ bytes words k ∷ []
spans_more words [] k = refl
spans_more words (j ∷ ks) k = ap (λ (l : List ℕ). from words j ∷ bytes words j ∷ l) (spans_more words ks k)

pub map_more : {A : Type 0} (f : ℕ → A) (ks : List ℕ) (k : ℕ) → map f (ks ++ k ∷ []) ≡ map f ks ++ f k ∷ []
map_more f [] k = refl
map_more {A} f (j ∷ ks) k = ap (λ (l : List A). f j ∷ l) (map_more f ks k)

pub frequencies_long : (frequencies ks : List ℕ) → length (frequencies_at frequencies ks) ≡ length ks
frequencies_long frequencies ks = length-map ks (λ k. get_or frequencies k 0)

-- ---- the fronts of the slices hold what is chosen
pub record Fronts (words frequencies ks kept₀ counts₀ kept counts : List ℕ) (r : ℕ) : Type 0 where
  pub count : r ≡ length ks
  pub spans_are : kept ≡ over (spans_at words ks) kept₀
  pub frequencies_are : counts ≡ over (frequencies_at frequencies ks) counts₀

module _ {words frequencies ks kept₀ counts₀ kept counts : List ℕ} {r : ℕ} (k : ℕ) (f : Fronts words frequencies ks kept₀ counts₀ kept counts r) (a : 2 * r + 2 ≤ length kept₀) (b : r < length counts₀) where
  put_spans : set (set kept (2 * r) (from words k)) (2 * r + 1) (bytes words k) ≡ over (spans_at words (ks ++ k ∷ [])) kept₀
  put_spans =
      let front = spans_at words ks in
      let n : 2 * r ≡ length front = let l = spans_long words ks in let c = f.count in omega arith in
      ap (λ (i : ℕ). set (set kept (2 * r) (from words k)) i (bytes words k)) (add-one (2 * r))
      ∙ ap₂ (λ (x : List ℕ) (i : ℕ). set (set x i (from words k)) (suc i) (bytes words k)) f.spans_are n
      ∙ stored front (from words k ∷ bytes words k ∷ []) kept₀ (omega arith)
      ∙ ap (λ (x : List ℕ). over x kept₀) (sym (spans_more words ks k))

  put_frequency : set counts r (get_or frequencies k 0) ≡ over (frequencies_at frequencies (ks ++ k ∷ [])) counts₀
  put_frequency =
      let front = frequencies_at frequencies ks in
      let n : r ≡ length front = let l = frequencies_long frequencies ks in let c = f.count in omega arith in
      ap₂ (λ (x : List ℕ) (i : ℕ). set x i (get_or frequencies k 0)) f.frequencies_are n
      ∙ stored front (get_or frequencies k 0 ∷ []) counts₀ (omega arith)
      ∙ ap (λ (x : List ℕ). over x counts₀) (sym (map_more (λ j. get_or frequencies j 0) ks k))

  pub fronts_more : (t : Result ℕ ℕ) (kept' counts' : List ℕ) (s : ℕ) → Turns t words frequencies k r kept counts kept' counts' s
      → Fronts words frequencies (pick t k ks) kept₀ counts₀ kept' counts' s
  fronts_more (Ok c) kept' counts' s p =
      record {
        count = let l = length-append ks (k ∷ []) in let c = f.count in let o = p.one_more in omega arith;
        spans_are = p.span ∙ put_spans;
        frequencies_are = p.frequency ∙ put_frequency;
      }
  fronts_more (Err b) kept' counts' s p =
      record { count = p.no_more ∙ f.count; spans_are = p.same_spans ∙ f.spans_are; frequencies_are = p.same_frequencies ∙ f.frequencies_are }

-- ---- How far the loop has come.
pub record Choosing (text words frequencies kept₀ counts₀ kept counts : List ℕ) (r k : ℕ) : Type 0 where
  pub upto : k ≤ many words
  pub fronts : Fronts words frequencies (chosen text words k) kept₀ counts₀ kept counts r

pub choosing_none : (text words frequencies kept counts : List ℕ) → Choosing text words frequencies kept counts kept counts 0 0
choosing_none text words frequencies kept counts = record { upto = omega arith; fronts = record { count = refl; spans_are = refl; frequencies_are = refl } }

module _ {text words frequencies kept₀ counts₀ : List ℕ} (asked : Keeping text words frequencies kept₀ counts₀)
    {kept counts : List ℕ} {r k : ℕ} (c : Choosing text words frequencies kept₀ counts₀ kept counts r k) where
  few : r ≤ k
  few = let e = c.fronts.count in let l = chosen_few text words k in omega arith

  kept_long : length kept ≡ length kept₀
  kept_long =
      let e = c.fronts.count in
      let l = spans_long words (chosen text words k) in
      ap length c.fronts.spans_are ∙ over_long (spans_at words (chosen text words k)) kept₀ (let f = few in let u = c.upto in let m = asked.kept_room in omega arith)

  counts_long : length counts ≡ length counts₀
  counts_long =
      let e = c.fronts.count in
      let l = frequencies_long frequencies (chosen text words k) in
      ap length c.fronts.frequencies_are ∙ over_long (frequencies_at frequencies (chosen text words k)) counts₀ (let f = few in let u = c.upto in let m = asked.counts_room in omega arith)

  pub choosing_turn : k < many words → Turning text words frequencies kept counts k r
  choosing_turn l =
      let p = asked.paired in
      let x = kept_long in
      let y = counts_long in
      let u = asked.kept_room in
      let v = asked.counts_room in
      record { within = l; paired = omega arith; inside = (asked.good k l).inside; few = few; kept_room = omega arith; counts_room = omega arith }

  pub choosing_more : k < many words → {kept' counts' : List ℕ} {s : ℕ} → Turns (measured (octets text words k)) words frequencies k r kept counts kept' counts' s
      → Choosing text words frequencies kept₀ counts₀ kept' counts' s (k + 1)
  choosing_more l {kept'} {counts'} {s} t =
      let f = few in
      let u = asked.kept_room in
      let v = asked.counts_room in
      let e : suc k ≡ k + 1 = omega arith in
      record {
        upto = omega arith;
        fronts = subst (λ (j : ℕ). Fronts words frequencies (chosen text words j) kept₀ counts₀ kept' counts' s) e
            (fronts_more k c.fronts (omega arith) (omega arith) (measured (octets text words k)) kept' counts' s t);
      }

  pub choosing_all : many words ≤ k → Kept text words frequencies (many words) kept₀ counts₀ kept counts r
  choosing_all l =
      let e : k ≡ many words = let u = c.upto in omega arith in
      let g = subst (λ (j : ℕ). Fronts words frequencies (chosen text words j) kept₀ counts₀ kept counts r) e c.fronts in
      record { count = g.count; spans_are = g.spans_are; frequencies_are = g.frequencies_are }
