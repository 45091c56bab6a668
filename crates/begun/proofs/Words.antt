-- The words that the start of training leaves: the UTF-8 words of the corpus, in the fronts of two slices. Assumes nothing.
use mathlib.Core.Path.{◌≡◌, refl, sym, ap, ◌∙◌}
use mathlib.Core.List.{List, [], ◌∷◌, ◌++◌, map}
use Prim.Native.Nat.{ℕ, zero, suc, ◌*◌, ◌≤◌, ◌<◌}
use native.Mathlib.Omega.{arith}
use lib.ListN.{length, get_or, take, drop, length-append, length-take}
use Rattle.spans.specs.Spans.{many, from, bytes, chars_at, first, listed}
use Rattle.spans.specs.Check.{Good, AllGood}
use Rattle.corpus.specs.Kept.{chosen, spans_at, frequencies_at}
use Rattle.corpus.proofs.Chosen.{chosen_few}
use Rattle.corpus.proofs.Keeps.{spans_long, frequencies_long}
use Rattle.corpus.proofs.Theorems.{counts_front, kept_corpus, ready}
use Rattle.ranking.proofs.Lists.{map_join, map_map}
use Rattle.listing.specs.Start.{Lent, Work, Left, Given, corpus}
use Rattle.listing.proofs.Words.{cut_many, cut_good, cut_words}
use Rattle.trie.proofs.Same.{length_first}
use Rattle.fresh.proofs.Most.{chars_few}
use Rattle.model.proofs.Nodes.{first_at}
use Rattle.begun.specs.Words.{words_in, frequencies_in}

map_first : {A B : Type 0} (f : A → B) (h : ℕ → A) (n : ℕ) → map f (first h n) ≡ first (λ k. f (h k)) n
map_first f h zero = refl
map_first {A} {B} f h (suc n) = map_join f (first h n) (h n ∷ []) ∙ ap (λ (l : List B). l ++ f (h n) ∷ []) (map_first f h n)

-- a word has no more characters than bytes
chars_short : (text spans : List ℕ) (most k : ℕ) → Good text spans most k → length (chars_at text spans k) ≤ most
chars_short text spans most k g =
    let a = chars_few g.utf8 in
    let b = length-take (bytes spans k) (drop (from spans k) text) in
    let c = g.short in
    omega arith

module _ (x : Lent) (w : Work) (y : Left) (r count required : ℕ) (g : Given x w y r count required) where
  abbrev ks : List ℕ
  ks = chosen x.text x.words (many x.words)

  -- ---- how many
  pub words_few : r ≤ 16384
  words_few =
      let a = chosen_few x.text x.words (many x.words) in
      let b = g.words_are.count in
      let c = g.fit.room.few_words in
      omega arith

  pub words_some : 0 < r
  words_some = (ready g.words_are g.fit.words_fit).some

  pub kept_in : 2 * r ≤ length y.kept
  kept_in =
      let front = spans_at x.words ks in
      let a = spans_long x.words ks in
      let b = ap length g.words_are.spans_are in
      let c = length-append front (drop (length front) w.kept) in
      let d = g.words_are.count in
      omega arith

  pub counts_in : r ≤ length y.counts
  counts_in =
      let front = frequencies_at x.frequencies ks in
      let a = frequencies_long x.frequencies ks in
      let b = ap length g.words_are.frequencies_are in
      let c = length-append front (drop (length front) w.counts) in
      let d = g.words_are.count in
      omega arith

  pub words_many : many (take (2 * r) y.kept) ≡ r
  words_many = cut_many y.kept r kept_in

  -- ---- which
  pub words_good : AllGood x.text (take (2 * r) y.kept) 255 r
  words_good k l = let e = words_many in cut_good y.kept r kept_in (ready g.words_are g.fit.words_fit).good k (omega arith)

  pub words_listed : listed x.text (take (2 * r) y.kept) ≡ words_in (corpus x)
  words_listed =
      sym (map_first (λ (v : List ℕ × ℕ). v.0) (λ k. (chars_at x.text (take (2 * r) y.kept) k, get_or (take r y.counts) k 0)) (many (take (2 * r) y.kept)))
      ∙ ap words_in (cut_words y.kept r kept_in x.text y.counts ∙ kept_corpus g.words_are)

  pub words_long : length (words_in (corpus x)) ≡ r
  words_long = sym (ap length words_listed) ∙ length_first (chars_at x.text (take (2 * r) y.kept)) (many (take (2 * r) y.kept)) ∙ words_many

  -- "A word has 0 to 255 bytes"
  pub words_short : (k : ℕ) → k < length (words_in (corpus x)) → length (get_or (words_in (corpus x)) k []) ≤ 255
  words_short k l =
      let n = words_many in
      let m = words_long in
      let e : length (get_or (words_in (corpus x)) k []) ≡ length (chars_at x.text (take (2 * r) y.kept) k) =
      ap (λ (ws : List (List ℕ)). length (get_or ws k [])) (sym words_listed)
      ∙ ap length (first_at (chars_at x.text (take (2 * r) y.kept)) [] (many (take (2 * r) y.kept)) k (omega arith)) in
      let h = chars_short x.text (take (2 * r) y.kept) 255 k (words_good k (omega arith)) in
      omega arith

  -- ---- their frequencies
  pub frequencies_are : take r y.counts ≡ frequencies_in (corpus x)
  frequencies_are =
      counts_front g.words_are
      ∙ sym (map_map (λ (v : List ℕ × ℕ). v.1) (λ (k : ℕ). (chars_at x.text x.words k, get_or x.frequencies k 0)) ks)

  pub frequencies_many : length (frequencies_in (corpus x)) ≡ r
  frequencies_many = sym (ap length frequencies_are) ∙ taken
    where
      taken : length (take r y.counts) ≡ r
      taken = let a = length-take r y.counts in let b = counts_in in omega arith
