-- What the turns of the loops ask and promise. Definitions only.
use Rattle.std.specs.Prelude.{◌≡◌, List, ℕ, ◌+◌, ◌*◌, ◌≤◌, ◌<◌, length, get_or, set, Result, Ok, Err}
use Rattle.spans.specs.Spans.{many, from, bytes, Inside}
use Rattle.corpus.specs.Corpus.{GoodWords}

-- words that are not bad, with a frequency for each
pub record Lent (text words frequencies : List ℕ) : Type 0 where
  pub good : GoodWords text words frequencies (many words)
  pub paired : length frequencies ≡ many words

-- a turn of the sum, which is at most one above 2^48
pub record Weighing (text words frequencies : List ℕ) (k weight : ℕ) : Type 0 where
  pub within : k < many words
  pub paired : k < length frequencies
  pub inside : Inside text words k
  pub light : weight ≤ 281474976710657

-- a turn of the choice, with r of the first k kept
pub record Turning (text words frequencies kept counts : List ℕ) (k r : ℕ) : Type 0 where
  pub within : k < many words
  pub paired : k < length frequencies
  pub inside : Inside text words k
  pub few : r ≤ k
  pub kept_room : 2 * k + 2 ≤ length kept
  pub counts_room : k < length counts

-- the word is put after the r that are kept, and there is one more; or it is skipped
pub record Puts (words frequencies : List ℕ) (k r : ℕ) (kept counts kept' counts' : List ℕ) (s : ℕ) : Type 0 where
  pub one_more : s ≡ r + 1
  pub span : kept' ≡ set (set kept (2 * r) (from words k)) (2 * r + 1) (bytes words k)
  pub frequency : counts' ≡ set counts r (get_or frequencies k 0)

pub record Skips (r : ℕ) (kept counts kept' counts' : List ℕ) (s : ℕ) : Type 0 where
  pub no_more : s ≡ r
  pub same_spans : kept' ≡ kept
  pub same_frequencies : counts' ≡ counts

abbrev pub Turns : Result ℕ ℕ → List ℕ → List ℕ → ℕ → ℕ → List ℕ → List ℕ → List ℕ → List ℕ → ℕ → Type 0
Turns (Ok c) words frequencies k r kept counts kept' counts' s = Puts words frequencies k r kept counts kept' counts' s
Turns (Err b) words frequencies k r kept counts kept' counts' s = Skips r kept counts kept' counts' s
