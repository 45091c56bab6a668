-- Words, which of them are bad, which are UTF-8, and what they weigh. Definitions only.
use Rattle.std.specs.Prelude.{List, ℕ, zero, suc, ◌+◌, ◌*◌, ◌≤◌, ◌<◌, get_or, Result, Ok, Err}
use Rattle.utf8.specs.Encode.{Spells}
use Rattle.utf8.specs.Chars.{measured}
use Rattle.spans.specs.Spans.{many, bytes, Inside, octets, chars_at}

-- ---- "A word has 0 to 255 bytes and a frequency from 1", and lies inside the text
pub record GoodWord (text words frequencies : List ℕ) (k : ℕ) : Type 0 where
  pub frequent : 1 ≤ get_or frequencies k 0
  pub short : bytes words k ≤ 255
  pub inside : Inside text words k

abbrev pub GoodWords : List ℕ → List ℕ → List ℕ → ℕ → Type 0
GoodWords text words frequencies n = (k : ℕ) → k < n → GoodWord text words frequencies k

-- the first that is bad
pub record FirstBad (text words frequencies : List ℕ) (k : ℕ) : Type 0 where
  pub within : k < many words
  pub before : GoodWords text words frequencies k
  pub bad : GoodWord text words frequencies k → ⊥

abbrev pub Judges : List ℕ → List ℕ → List ℕ → Result (Unit {0}) ℕ → Type 0
Judges text words frequencies (Ok _) = GoodWords text words frequencies (many words)
Judges text words frequencies (Err k) = FirstBad text words frequencies k

abbrev pub AllInside : List ℕ → List ℕ → Type 0
AllInside text words = (k : ℕ) → k < many words → Inside text words k

-- ---- UTF-8
abbrev pub Utf8 : List ℕ → List ℕ → ℕ → Type 0
Utf8 text words k = Spells (octets text words k) (chars_at text words k)

abbrev pub SomeUtf8 : List ℕ → List ℕ → Type 0
SomeUtf8 text words = (k : ℕ) × (k < many words) × Utf8 text words k

-- ---- "W, the sum of frequency times characters over UTF-8 words"
-- what a word weighs, by what it measures: one that is UTF-8, and one that is not
abbrev pub weighs : Result ℕ ℕ → ℕ → ℕ
weighs (Ok n) frequency = frequency * n
weighs (Err k) frequency = 0

abbrev pub weight_at : List ℕ → List ℕ → List ℕ → ℕ → ℕ
weight_at text words frequencies k = weighs (measured (octets text words k)) (get_or frequencies k 0)

-- the sum of the first n values of f
abbrev pub total : (ℕ → ℕ) → ℕ → ℕ
total f zero = 0
total f (suc n) = total f n + f n

-- W
abbrev pub weight_of : List ℕ → List ℕ → List ℕ → ℕ
weight_of text words frequencies = total (weight_at text words frequencies) (many words)
