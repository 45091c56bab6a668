-- What the functions are given. Definitions only.
use Rattle.std.specs.Prelude.{◌≡◌, List, ℕ, ◌≤◌, length, Float}
use Rattle.spans.specs.Spans.{many, chars_at}
use Rattle.spans.specs.Check.{AllGood}
use Rattle.rows.specs.Word.{Holds}

-- pieces inside their text and UTF-8, each of at most 255 bytes; the trie of them; and a score for each
pub record Lent (text pieces : List ℕ) (setting : ℕ) (keys ends : List ℕ) (scores : List Float) : Type 0 where
  pub good : AllGood text pieces 255 (many pieces)
  pub few_pieces : many pieces ≤ 4294967295
  pub narrow : setting ≤ 32
  pub few : length keys ≤ 4294967295
  pub holds : Holds keys ends (chars_at text pieces) (many pieces)
  pub scored : length scores ≡ many pieces

-- and a slot of each kind
pub record Given (text pieces : List ℕ) (setting : ℕ) (keys ends : List ℕ) (scores uses : List Float) (bits : List ℕ) : Type 0 where
  pub lent : Lent text pieces setting keys ends scores
  pub used : length uses ≡ many pieces
  pub slots : length bits ≡ many pieces
