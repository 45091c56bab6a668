-- The words that training uses: "Non-UTF-8 words in training are skipped". Definitions only.
use Rattle.std.specs.Prelude.{◌≡◌, List, [], ◌∷◌, ◌++◌, map, ℕ, zero, suc, ◌+◌, ◌*◌, ◌≤◌, ◌<◌, length, get_or, Result, Ok, Err}
use Rattle.utf8.specs.Chars.{measured}
use Rattle.spans.specs.Spans.{many, from, bytes, octets, chars_at, first}
use Rattle.spans.specs.Check.{AllGood}
use Rattle.lattice.specs.Written.{over}
use Rattle.corpus.specs.Corpus.{GoodWords}

-- ---- the indexes of the UTF-8 words among the first n, in order
abbrev pub pick : Result ℕ ℕ → ℕ → List ℕ → List ℕ
pick (Ok c) k before = before ++ k ∷ []
pick (Err b) k before = before

abbrev pub chosen : List ℕ → List ℕ → ℕ → List ℕ
chosen text words zero = []
chosen text words (suc k) = pick (measured (octets text words k)) k (chosen text words k)

-- ---- the spans and the frequencies of words, by their indexes
abbrev pub spans_at : List ℕ → List ℕ → List ℕ
spans_at words [] = []
spans_at words (k ∷ ks) = from words k ∷ bytes words k ∷ spans_at words ks

abbrev pub frequencies_at : List ℕ → List ℕ → List ℕ
frequencies_at frequencies ks = map (λ k. get_or frequencies k 0) ks

-- ---- the corpus: the characters and the frequency of each UTF-8 word, in order
abbrev pub corpus_of : List ℕ → List ℕ → List ℕ → List (List ℕ × ℕ)
corpus_of text words frequencies = map (λ k. (chars_at text words k, get_or frequencies k 0)) (chosen text words (many words))

-- its weight: the sum of frequency times characters
abbrev pub weight_in : List (List ℕ × ℕ) → ℕ
weight_in [] = 0
weight_in ((chars, frequency) ∷ rest) = frequency * length chars + weight_in rest

-- the same of r words that are all used, as training reads them
abbrev pub words_of : List ℕ → List ℕ → List ℕ → ℕ → List (List ℕ × ℕ)
words_of text kept counts r = first (λ k. (chars_at text kept k, get_or counts k 0)) r

-- ---- what training is promised of the r words that are kept
pub record Ready (text kept counts : List ℕ) (r : ℕ) : Type 0 where
  pub some : 0 < r
  pub good : AllGood text kept 255 r
  pub frequent : (k : ℕ) → k < r → 1 ≤ get_or counts k 0
  pub distinct : (i j : ℕ) → i < j → j < r → octets text kept i ≡ octets text kept j → ⊥
  pub light : weight_in (words_of text kept counts r) ≤ 281474976710656

-- ---- what a call asks: words that are not bad, a frequency for each, and room for all
pub record Keeping (text words frequencies kept counts : List ℕ) : Type 0 where
  pub good : GoodWords text words frequencies (many words)
  pub paired : length frequencies ≡ many words
  pub kept_room : 2 * many words ≤ length kept
  pub counts_room : many words ≤ length counts

-- and what it leaves: of the first n words, those that are UTF-8 are written over the fronts of the slices, r of them
pub record Kept (text words frequencies : List ℕ) (n : ℕ) (kept counts kept' counts' : List ℕ) (r : ℕ) : Type 0 where
  pub count : r ≡ length (chosen text words n)
  pub spans_are : kept' ≡ over (spans_at words (chosen text words n)) kept
  pub frequencies_are : counts' ≡ over (frequencies_at frequencies (chosen text words n)) counts
