-- What a build is lent, and when it is refused before any trie is made: document 01's table, rows 2, 7 at place 0, 3, 14 and
-- 15, in this order. Definitions only.
use Rattle.std.specs.Prelude.{List, ℕ, ◌*◌, ◌≤◌, ◌<◌, length, Result, Ok, Err}
use Rattle.refusal.specs.declared.Refusal.{Refusal}
use Rattle.refusal.specs.declared.Refusal.TheVariants.{BadSetting, NoRoom, BadWord, BadPiece, RepeatedPiece}
use Rattle.spans.specs.Spans.{many}
use Rattle.spans.specs.Check.{AllGood, FirstBad}
use Rattle.repeats.specs.Repeats.{Again, Lowest}

-- "Piece length setting at most 32 characters."
abbrev pub Short : ℕ → Type 0
Short setting = setting ≤ 32

-- "At most 16,384 words, 1,048,576 bytes of text, 1,048,576 lent pieces"; and the work table has two numbers for each piece
pub record Bounded (text words spellings pieces table : List ℕ) : Type 0 where
  pub few_words : many words ≤ 16384
  pub few_pieces : many pieces ≤ 1048576
  pub short_text : length text ≤ 1048576
  pub short_pieces : length spellings ≤ 1048576
  pub table_room : 2 * many pieces ≤ length table

-- a word is inside its text, has at most 255 bytes, and is UTF-8
abbrev pub GoodWords : List ℕ → List ℕ → Type 0
GoodWords text words = AllGood text words 255 (many words)

-- a piece is inside its text, and UTF-8; that it has at most 1,048,576 bytes says no more, since its text has no more
abbrev pub GoodPieces : List ℕ → List ℕ → Type 0
GoodPieces text pieces = AllGood text pieces 1048576 (many pieces)

-- no spelling stands twice
abbrev pub Once : List ℕ → List ℕ → Type 0
Once text pieces = (k : ℕ) → k < many pieces → Again text pieces k → ⊥

-- all is in order
pub record InOrder (setting : ℕ) (text words spellings pieces table : List ℕ) : Type 0 where
  pub short : Short setting
  pub bounded : Bounded text words spellings pieces table
  pub words_good : GoodWords text words
  pub pieces_good : GoodPieces spellings pieces
  pub once : Once spellings pieces

-- or it is refused: by the first row that applies, at the lowest place
pub data Why (setting : ℕ) (text words spellings pieces table : List ℕ) : Refusal → Type 0 where
  bad_setting : (Short setting → ⊥) → Why setting text words spellings pieces table (BadSetting 3)
  no_room : Short setting → (Bounded text words spellings pieces table → ⊥) → Why setting text words spellings pieces table (NoRoom 0)
  bad_word : {k : ℕ} → Short setting → Bounded text words spellings pieces table → FirstBad text words 255 k → Why setting text words spellings pieces table (BadWord k)
  bad_piece : {k : ℕ} → Short setting → Bounded text words spellings pieces table → GoodWords text words → FirstBad spellings pieces 1048576 k
      → Why setting text words spellings pieces table (BadPiece k)
  repeated : {k : ℕ} → Short setting → Bounded text words spellings pieces table → GoodWords text words → GoodPieces spellings pieces → Lowest spellings pieces k
      → Why setting text words spellings pieces table (RepeatedPiece k)

abbrev pub Answers : ℕ → List ℕ → List ℕ → List ℕ → List ℕ → List ℕ → Result (Unit {0}) Refusal → Type 0
Answers setting text words spellings pieces table (Ok _) = InOrder setting text words spellings pieces table
Answers setting text words spellings pieces table (Err refusal) = Why setting text words spellings pieces table refusal
