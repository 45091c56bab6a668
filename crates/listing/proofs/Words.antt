-- The words that are kept, as the list needs them. Assumes nothing.
use Rattle.std.specs.Prelude.{Result, Ok, Err}
use mathlib.Core.Path.{◌≡◌, refl, sym, ap, ap₂, ◌∙◌, subst}
use mathlib.Core.List.{List, [], ◌∷◌, ◌++◌}
use Prim.Native.Nat.{ℕ, zero, suc, ◌+◌, ◌*◌, ◌≤◌, ◌<◌}
use native.Mathlib.Omega.{arith}
use lib.ListN.{length, get_or, take, drop, length-append, get_or-append}
use lib.Seq.{get_or-take, get_or-append-add, length-take-le}
use Rattle.utf8.specs.Encode.{Spells}
use Rattle.utf8.specs.Chars.{measured, chars_of}
use Rattle.spans.specs.Spans.{many, from, bytes, octets, chars_at, first}
use Rattle.spans.specs.Check.{Good, AllGood}
use Rattle.positions.specs.Gathered.{bytes_before}
use Rattle.positions.proofs.Lists.{first_same}
use Rattle.corpus.specs.Kept.{pick, chosen, spans_at, weight_in, words_of}
use Rattle.ranking.specs.Corpus.{Corpus, weight}

-- ---- a span is what its two numbers are
good_as : {text s s' : List ℕ} {most k : ℕ} → from s k ≡ from s' k → bytes s k ≡ bytes s' k → Good text s most k → Good text s' most k
good_as {text} {s} {s'} {most} {k} f b g =
    let o : octets text s k ≡ octets text s' k = ap₂ (λ (m n : ℕ). take n (drop m text)) f b in
    record {
      inside = let h = g.inside in omega arith;
      short = let h = g.short in omega arith;
      utf8 = subst (λ (x : List ℕ). Spells x (chars_of x)) o g.utf8;
    }

-- ---- the first r spans of a slice, cut out of it
module _ (kept : List ℕ) (r : ℕ) (h : 2 * r ≤ length kept) where
  pub cut_many : many (take (2 * r) kept) ≡ r
  cut_many = let e = length-take-le (2 * r) kept h in omega arith

  cut_from : (k : ℕ) → k < r → from kept k ≡ from (take (2 * r) kept) k
  cut_from k l = sym (get_or-take (2 * r) kept (2 * k) 0 (omega arith))

  cut_bytes : (k : ℕ) → k < r → bytes kept k ≡ bytes (take (2 * r) kept) k
  cut_bytes k l = sym (get_or-take (2 * r) kept (2 * k + 1) 0 (omega arith))

  pub cut_good : {text : List ℕ} {most : ℕ} → AllGood text kept most r → AllGood text (take (2 * r) kept) most (many (take (2 * r) kept))
  cut_good g k l = let e = cut_many in good_as (cut_from k (omega arith)) (cut_bytes k (omega arith)) (g k (omega arith))

  pub cut_words : (text counts : List ℕ) → first (λ k. (chars_at text (take (2 * r) kept) k, get_or (take r counts) k 0)) (many (take (2 * r) kept)) ≡ words_of text kept counts r
  cut_words text counts =
      ap (first (λ k. (chars_at text (take (2 * r) kept) k, get_or (take r counts) k 0))) cut_many
      ∙ first_same (λ k. (chars_at text (take (2 * r) kept) k, get_or (take r counts) k 0)) (λ k. (chars_at text kept k, get_or counts k 0)) r
      (λ k l. ap₂ (λ (x : List ℕ) (y : ℕ). (x, y))
      (ap chars_of (ap₂ (λ (m n : ℕ). take n (drop m text)) (sym (cut_from k l)) (sym (cut_bytes k l))))
      (get_or-take r counts k 0 l))

-- ---- W by two names
pub same_weight : (corpus : Corpus) → weight corpus ≡ weight_in corpus
same_weight [] = refl
same_weight (w ∷ corpus) = ap (λ (n : ℕ). w.1 * length w.0 + n) (same_weight corpus)

-- ---- those that are kept have no more bytes than all
spans_more : (words ks : List ℕ) (k : ℕ) → spans_at words (ks ++ k ∷ []) ≡ spans_at words ks ++ from words k ∷ bytes words k ∷ []
spans_more words [] k = refl
spans_more words (j ∷ ks) k = ap (λ (l : List ℕ). from words j ∷ bytes words j ∷ l) (spans_more words ks k)

spans_long : (words ks : List ℕ) → length (spans_at words ks) ≡ 2 * length ks
spans_long words [] = refl
spans_long words (k ∷ ks) = let e = spans_long words ks in omega arith

front_bytes : (s t : List ℕ) (m : ℕ) → 2 * m ≤ length s → bytes_before (s ++ t) m ≡ bytes_before s m
front_bytes s t zero h = refl
front_bytes s t (suc m) h = ap₂ (λ (a b : ℕ). a + b) (front_bytes s t m (omega arith)) (get_or-append s t 0 (2 * m + 1) (omega arith))

one_more : (words ks : List ℕ) (k : ℕ) → bytes_before (spans_at words (ks ++ k ∷ [])) (length (ks ++ k ∷ [])) ≡ bytes_before (spans_at words ks) (length ks) + bytes words k
one_more words ks k =
    let s = spans_at words ks in
    let t : List ℕ = from words k ∷ bytes words k ∷ [] in
    let l = spans_long words ks in
    let n : length (ks ++ k ∷ []) ≡ suc (length ks) = let e = length-append ks (k ∷ []) in omega arith in
    let i : 2 * length ks + 1 ≡ length s + 1 = omega arith in
    ap₂ bytes_before (spans_more words ks k) n
    ∙ ap₂ (λ (a b : ℕ). a + b) (front_bytes s t (length ks) (omega arith))
    (ap (λ (j : ℕ). get_or (s ++ t) j 0) i ∙ get_or-append-add s t 1 0)

pick_bytes : (words ks : List ℕ) (n all : ℕ) (t : Result ℕ ℕ) → bytes_before (spans_at words ks) (length ks) ≤ all → bytes_before (spans_at words (pick t n ks)) (length (pick t n ks)) ≤ all + bytes words n
pick_bytes words ks n all (Ok c) h = let e = one_more words ks n in omega arith
pick_bytes words ks n all (Err b) h = omega arith

pub kept_bytes : (text words : List ℕ) (n : ℕ) → bytes_before (spans_at words (chosen text words n)) (length (chosen text words n)) ≤ bytes_before words n
kept_bytes text words zero = omega arith
kept_bytes text words (suc n) = pick_bytes words (chosen text words n) n (bytes_before words n) (measured (octets text words n)) (kept_bytes text words n)
