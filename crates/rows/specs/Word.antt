-- The walks of a word of a list. Definitions only.
use Rattle.std.specs.Prelude.{◌≡◌, List, ℕ, ◌≤◌, length}
use Rattle.spans.specs.Spans.{first}
use Rattle.lattice.specs.Lattice.{lattice}
use Rattle.trie.specs.Prefixes.{prefixes_of}
use Rattle.trie.specs.Listed.{newest_of}
use Rattle.trie.specs.Trie.{Trie}
use Rattle.rows.specs.Grid.{lattice_in}

-- a trie's slices, and the room that any word may want: "A word has 0 to 255 bytes"
pub record Room (keys ends : List ℕ) (setting : ℕ) (chars grid : List ℕ) : Type 0 where
  pub few : length keys ≤ 4294967295
  pub level : length ends ≡ length keys
  pub narrow : setting ≤ 32
  pub room : 255 ≤ length chars
  pub wide : 8160 ≤ length grid

-- the slices are the trie of the first `count` pieces of f
abbrev pub Holds : List ℕ → List ℕ → (ℕ → List ℕ) → ℕ → Type 0
Holds keys ends f count = Trie keys ends (prefixes_of (newest_of f count)) (newest_of f count)

-- of whatever pieces the trie is: the grid is the word's lattice
pub record Walked (keys ends : List ℕ) (setting : ℕ) (grid word grid' : List ℕ) (n : ℕ) : Type 0 where
  pub count : n ≡ length word
  pub short : n ≤ 255
  pub long : length grid' ≡ length grid
  pub is : (f : ℕ → List ℕ) (count : ℕ) → Holds keys ends f count → lattice_in setting grid' n ≡ lattice setting (first f count) word
