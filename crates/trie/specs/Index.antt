-- What `index` asks and promises: the trie of a whole list of pieces.
-- Assumes nothing.
use Rattle.std.specs.Prelude.{◌≡◌, List, ℕ, suc, ◌+◌, ◌/◌, ◌≤◌, ◌<◌, length, Option, Some, None}
use Rattle.utf8.specs.Encode.{Spells}
use Rattle.spans.specs.Spans.{many, Inside, octets, chars_at}
use Rattle.trie.specs.Prefixes.{prefixes_of}
use Rattle.trie.specs.Listed.{newest_of, newest}
use Rattle.trie.specs.Trie.{Trie}

-- every piece is inside its text and UTF-8
pub record Indexing (keys ends text pieces : List ℕ) : Type 0 where
  pub few : length keys ≤ 4294967295
  pub level : length ends ≡ length keys
  pub ids : many pieces < 4294967295
  pub inside : (k : ℕ) → k < many pieces → Inside text pieces k
  pub utf8 : (k : ℕ) → k < many pieces → Spells (octets text pieces k) (chars_at text pieces k)

-- the trie of all pieces, in n nodes besides the root
pub record Index (text pieces keys keys' ends' : List ℕ) (n : ℕ) : Type 0 where
  pub long : length keys' ≡ length keys
  pub trie : Trie keys' ends' (prefixes_of (newest text pieces)) (newest text pieces)
  pub counted : n ≡ length (prefixes_of (newest text pieces))

-- "distinct non-empty prefixes plus the root exceed half the lent trie places"
abbrev pub Indexes : List ℕ → List ℕ → List ℕ → List ℕ → List ℕ → Option ℕ → Type 0
Indexes text pieces keys keys' ends' (Some n) = Index text pieces keys keys' ends' n
Indexes text pieces keys keys' ends' None = length keys / 2 < length (prefixes_of (newest text pieces)) + 1

-- the trie of the first k pieces
pub record Upto (keys ends text pieces : List ℕ) (k count : ℕ) : Type 0 where
  pub trie : Trie keys ends (prefixes_of (newest_of (chars_at text pieces) k)) (newest_of (chars_at text pieces) k)
  pub counted : count ≡ length (prefixes_of (newest_of (chars_at text pieces) k))

-- one piece more
pub record Putting (keys ends text pieces : List ℕ) (k : ℕ) : Type 0 where
  pub indexing : Indexing keys ends text pieces
  pub within : k < many pieces

abbrev pub Puts : List ℕ → List ℕ → List ℕ → List ℕ → ℕ → ℕ → List ℕ → List ℕ → Option ℕ → Type 0
Puts keys ends text pieces k count keys' ends' (Some n) = Upto keys ends text pieces k count → Upto keys' ends' text pieces (suc k) n
Puts keys ends text pieces k count keys' ends' None =
    Upto keys ends text pieces k count → length keys / 2 < length (prefixes_of (newest_of (chars_at text pieces) (suc k))) + 1
