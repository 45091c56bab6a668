-- When the words are refused: document 01's table, rows 3 to 6, in this order. Definitions only.
use Rattle.std.specs.Prelude.{◌≡◌, List, ℕ, ◌*◌, ◌≤◌, ◌<◌, length, Result, Ok, Err}
use Rattle.refusal.specs.declared.Refusal.{Refusal}
use Rattle.refusal.specs.declared.Refusal.TheVariants.{BadWord, RepeatedWord, TooHeavy, EmptyCorpus}
use Rattle.spans.specs.Spans.{many}
use Rattle.repeats.specs.Repeats.{Again, Lowest}
use Rattle.corpus.specs.Corpus.{GoodWords, FirstBad, SomeUtf8, weight_of}

-- what a call asks, which NoRoom has checked before: "At most 16,384 words", a frequency for each word, and two numbers of the
-- work table for each
pub record Asked (text words frequencies table : List ℕ) : Type 0 where
  pub few_words : many words ≤ 16384
  pub paired : length frequencies ≡ many words
  pub table_room : 2 * many words ≤ length table

-- no word has equal bytes to an earlier word
abbrev pub Once : List ℕ → List ℕ → Type 0
Once text words = (k : ℕ) → k < many words → Again text words k → ⊥

-- "W is at most 2^48"
abbrev pub Light : List ℕ → List ℕ → List ℕ → Type 0
Light text words frequencies = weight_of text words frequencies ≤ 281474976710656

-- all is in order
pub record InOrder (text words frequencies : List ℕ) : Type 0 where
  pub good : GoodWords text words frequencies (many words)
  pub once : Once text words
  pub light : Light text words frequencies
  pub some : SomeUtf8 text words

-- or it is refused: by the first row that applies, at the lowest place
pub data Why (text words frequencies : List ℕ) : Refusal → Type 0 where
  bad_word : {k : ℕ} → FirstBad text words frequencies k → Why text words frequencies (BadWord k)
  repeated : {k : ℕ} → GoodWords text words frequencies (many words) → Lowest text words k
      → Why text words frequencies (RepeatedWord k)
  too_heavy : GoodWords text words frequencies (many words) → Once text words → (Light text words frequencies → ⊥)
      → Why text words frequencies TooHeavy
  empty : GoodWords text words frequencies (many words) → Once text words → Light text words frequencies
      → (SomeUtf8 text words → ⊥) → Why text words frequencies EmptyCorpus

abbrev pub Answers : List ℕ → List ℕ → List ℕ → Result (Unit {0}) Refusal → Type 0
Answers text words frequencies (Ok _) = InOrder text words frequencies
Answers text words frequencies (Err refusal) = Why text words frequencies refusal
