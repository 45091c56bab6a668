-- The best cut of one word over a list of pieces, when it is refused and what it leaves: document 01, "The one-word cut: 2
-- (piece length), 3 (too long or not UTF-8; place 0), 14, 15, 10, 7, 11, 12". Definitions only.
use Rattle.std.specs.Prelude.{◌≡◌, List, [], map, ℕ, ◌+◌, ◌*◌, ◌/◌, ◌≤◌, ◌<◌, max, length, get_or, Float, Result, Ok, Err}
use Rattle.std.specs.Float.{nan}
use Rattle.refusal.specs.declared.Refusal.{Refusal}
use Rattle.refusal.specs.declared.Refusal.TheVariants.{BadSetting, BadWord, BadPiece, RepeatedPiece, BadScore, NoRoom, NoPath}
use Rattle.utf8.specs.Encode.{Spells}
use Rattle.utf8.specs.Chars.{chars_of}
use Rattle.spans.specs.Spans.{many, listed}
use Rattle.spans.specs.Check.{FirstBad}
use Rattle.repeats.specs.Repeats.{Lowest}
use Rattle.lattice.specs.Lattice.{Edge, lattice}
use Rattle.lattice.specs.Layout.{joined, offsets}
use Rattle.inputs.specs.Inputs.{Short, GoodPieces, Once}
use Rattle.trie.specs.Prefixes.{prefixes_of}
use Rattle.trie.specs.Listed.{newest}
use Rattle.fresh.specs.Build.{Work, places, Zeros as WorkZeros}
use Rattle.scores.specs.Cuts.{Lattice}
use Rattle.scores.specs.Floats.{ZeroOrBelow}
use Rattle.scores.specs.Best.{FiniteCut}
use Rattle.viterbi.specs.Slices.{lattice_of}
use Rattle.viterbi.specs.Answers.{Found}
use Rattle.cut.specs.declared.Cut.{Cut}

-- what is lent: the length setting, the word, the pieces and their text, the scores
pub record Lent : Type 0 where
  pub setting : ℕ
  pub word : List ℕ
  pub spellings : List ℕ
  pub pieces : List ℕ
  pub scores : List Float

-- ---- the word's lattice, by its characters
abbrev pub chars : Lent → List ℕ
chars x = chars_of x.word

abbrev pub rows : Lent → List (List Edge)
rows x = lattice x.setting (listed x.spellings x.pieces) (chars x)

abbrev pub ids : Lent → List ℕ
ids x = map (λ e. e.id) (joined (rows x))

abbrev pub whole_lattice : Lent → Lattice Float
whole_lattice x = lattice_of (offsets (rows x)) (map (λ e. e.start) (joined (rows x))) (ids x) x.scores

-- the characters of some pieces, one after the other
abbrev pub spelt : Lent → List ℕ → List ℕ
spelt x path = joined (map (λ id. get_or (listed x.spellings x.pieces) id []) path)

-- ---- what is asked of it
-- "1,048,576 lent pieces" and bytes of their text; and the work table has two numbers for each piece
pub record Bounded (x : Lent) (table : List ℕ) : Type 0 where
  pub few_pieces : many x.pieces ≤ 1048576
  pub short_pieces : length x.spellings ≤ 1048576
  pub table_room : 2 * many x.pieces ≤ length table

-- neither "too long" nor "not UTF-8"
pub record GoodWord (word : List ℕ) : Type 0 where
  pub short : length word ≤ 255
  pub utf8 : Spells word (chars_of word)

-- the score of a piece, "NaN, above zero or (one-word cut) missing": one that is missing reads as NaN
abbrev pub AllScored : Lent → ℕ → Type 0
AllScored x n = (id : ℕ) → id < n → ZeroOrBelow (get_or x.scores id nan)

-- of all that are lent, and of every piece
abbrev pub asked : Lent → ℕ
asked x = max (length x.scores) (many x.pieces)

pub record FirstUnscored (x : Lent) (id : ℕ) : Type 0 where
  pub within : id < asked x
  pub before : AllScored x id
  pub bad : ZeroOrBelow (get_or x.scores id nan) → ⊥

pub record InOrder (x : Lent) (table : List ℕ) : Type 0 where
  pub short : Short x.setting
  pub bounded : Bounded x table
  pub word_good : GoodWord x.word
  pub pieces_good : GoodPieces x.spellings x.pieces
  pub once : Once x.spellings x.pieces
  pub scored : AllScored x (asked x)

-- ---- or it is refused before any trie is made: by the first row that applies, at the lowest place
pub data Bad (x : Lent) (table : List ℕ) : Refusal → Type 0 where
  bad_setting : (Short x.setting → ⊥) → Bad x table (BadSetting 3)
  no_room : Short x.setting → (Bounded x table → ⊥) → Bad x table (NoRoom 0)
  bad_word : Short x.setting → Bounded x table → (GoodWord x.word → ⊥) → Bad x table (BadWord 0)
  bad_piece : {k : ℕ} → Short x.setting → Bounded x table → GoodWord x.word → FirstBad x.spellings x.pieces 1048576 k → Bad x table (BadPiece k)
  repeated : {k : ℕ} → Short x.setting → Bounded x table → GoodWord x.word → GoodPieces x.spellings x.pieces → Lowest x.spellings x.pieces k → Bad x table (RepeatedPiece k)
  bad_score : {id : ℕ} → Short x.setting → Bounded x table → GoodWord x.word → GoodPieces x.spellings x.pieces → Once x.spellings x.pieces → FirstUnscored x id
      → Bad x table (BadScore id)

abbrev pub Checks : Lent → List ℕ → Result (Unit {0}) Refusal → Type 0
Checks x table (Ok _) = InOrder x table
Checks x table (Err refusal) = Bad x table refusal

-- ---- the rooms: "distinct non-empty prefixes plus the root exceed half the lent trie places", or not; "for a path fewer than n
-- free slots", or not. The lattice of one word, and its n + 1 positions, need no lent room
abbrev pub TrieRoom : Lent → Work → Type 0
TrieRoom x w = length (prefixes_of (newest x.spellings x.pieces)) + 1 ≤ places w / 2

abbrev pub Slots : Lent → List ℕ → Type 0
Slots x path = length (chars x) ≤ length path

pub data Why (x : Lent) (w : Work) (path : List ℕ) : Refusal → Type 0 where
  bad : {refusal : Refusal} → Bad x w.table refusal → Why x w path refusal
  no_trie : InOrder x w.table → (TrieRoom x w → ⊥) → Why x w path (NoRoom 2)
  no_slots : InOrder x w.table → TrieRoom x w → (Slots x path → ⊥) → Why x w path (NoRoom 4)
  no_path : InOrder x w.table → TrieRoom x w → Slots x path → (FiniteCut (whole_lattice x) (length (chars x)) → ⊥) → Why x w path NoPath

-- ---- the answer. "A refusal changes no result slice, cache or path. An accepted call keeps .. path slots it doesn't fill"
pub record Given (x : Lent) (w : Work) (path path' : List ℕ) (score : Float) (count : ℕ) : Type 0 where
  pub in_order : InOrder x w.table
  pub trie_room : TrieRoom x w
  pub slots : Slots x path
  pub found : Found (whole_lattice x) (ids x) (length (chars x)) path path' score count

abbrev pub Answers : Lent → Work → List ℕ → List ℕ → Result Cut Refusal → Type 0
Answers x w path path' (Ok cut) = Given x w path path' cut.score cut.count
Answers x w path path' (Err refusal) = Why x w path refusal × (path' ≡ path)

-- "Work slices hold zeros after every call, accepted or refused"
abbrev pub Zeros : Work → Work → Type 0
Zeros w w' = WorkZeros w w'
