-- The walks from each start of a word. Definitions only.
use Rattle.std.specs.Prelude.{◌≡◌, List, ℕ, suc, ◌+◌, ◌*◌, ◌≤◌, ◌<◌, length, get_or, drop}
use Rattle.trie.specs.Prefixes.{back, id_of}
use Rattle.trie.specs.Trie.{Trie}

-- a trie's slices, characters that a key can hold, and a grid with a row for each
pub record Walking (keys ends chars : List ℕ) (setting : ℕ) (grid : List ℕ) : Type 0 where
  pub few : length keys ≤ 4294967295
  pub level : length ends ≡ length keys
  pub small : (i : ℕ) → i < length chars → get_or chars i 0 < 4294967295
  pub short : length chars ≤ 255
  pub narrow : setting ≤ 32
  pub wide : 32 * length chars ≤ length grid

-- the number of the piece, the newest in the trie, that is spelt by step + 1 characters from the start on
abbrev pub spelt : List ℕ → List (List ℕ) → ℕ → ℕ → ℕ
spelt chars pieces start step = id_of pieces (back (drop start chars) (suc step))

-- row `start` of the grid tells which pieces begin there: as far as the length setting goes, and the word
abbrev pub Told : List ℕ → List (List ℕ) → ℕ → List ℕ → ℕ → Type 0
Told chars pieces setting grid start = (step : ℕ) → step < setting → start + step < length chars → get_or grid (32 * start + step) 0 ≡ spelt chars pieces start step

pub record Walks (keys ends chars : List ℕ) (setting : ℕ) (grid grid' : List ℕ) : Type 0 where
  pub long : length grid' ≡ length grid
  pub told : (prefixes pieces : List (List ℕ)) → Trie keys ends prefixes pieces → (start : ℕ) → start < length chars → Told chars pieces setting grid' start
