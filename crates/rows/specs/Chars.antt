-- A word's characters in a slice. Definitions only.
use Rattle.std.specs.Prelude.{◌≡◌, List, ℕ, ◌≤◌, length}
use Rattle.utf8.specs.Encode.{Spells}
use Rattle.utf8.specs.Chars.{chars_of}
use Rattle.lattice.specs.Written.{over}

-- a word is UTF-8, and has a slot for each of its bytes
pub record Decoding (word chars : List ℕ) : Type 0 where
  pub utf8 : Spells word (chars_of word)
  pub room : length word ≤ length chars

pub record Decodes (word chars chars' : List ℕ) (n : ℕ) : Type 0 where
  pub count : n ≡ length (chars_of word)
  pub few : n ≤ length word
  pub chars_are : chars' ≡ over (chars_of word) chars
