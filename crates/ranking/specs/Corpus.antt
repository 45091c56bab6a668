-- A corpus, and how often a string stands in it. Words and strings are lists of characters, as code points. Definitions only.
use Rattle.std.specs.Prelude.{◌≡◌, true, cond, List, [], ◌∷◌, ℕ, ◌+◌, ◌*◌, ◌<◌, length, get_or, drop}
use Rattle.order.specs.Spelling.{begins}

-- words with their frequencies
abbrev pub Corpus : Type 0
Corpus = List (List ℕ × ℕ)

-- word k of the corpus, and its frequency
abbrev pub word_at : Corpus → ℕ → List ℕ
word_at corpus k = (get_or corpus k ([], 0)).0

abbrev pub frequency_at : Corpus → ℕ → ℕ
frequency_at corpus k = (get_or corpus k ([], 0)).1

-- the number of places of a word at which s stands: for each start, whether it begins what follows
abbrev pub places : List ℕ → List ℕ → ℕ
places s [] = 0
places s (c ∷ word) = cond (begins s (c ∷ word)) 1 0 + places s word

-- the count of s: over the words, frequency times places
abbrev pub count : Corpus → List ℕ → ℕ
count [] s = 0
count (w ∷ corpus) s = w.1 * places s w.0 + count corpus s

-- W: "the sum of frequency times characters"
abbrev pub weight : Corpus → ℕ
weight [] = 0
weight (w ∷ corpus) = w.1 * length w.0 + weight corpus

-- s stands in the corpus: at some place of some word, and never across two words
pub record Stands (corpus : Corpus) (s : List ℕ) : Type 0 where
  pub word : ℕ
  pub place : ℕ
  pub in_corpus : word < length corpus
  pub in_word : place < length (word_at corpus word)
  pub there : begins s (drop place (word_at corpus word)) ≡ true
