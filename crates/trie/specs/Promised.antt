-- What the functions ask, and what they promise of every trie that the slices may be.
-- Assumes nothing.
use Rattle.std.specs.Prelude.{◌≡◌, false, List, ◌∷◌, ℕ, ◌+◌, ◌/◌, ◌≤◌, ◌<◌, length, Option, Some, None}
use Rattle.utf8.specs.Encode.{Spells}
use Rattle.utf8.specs.Chars.{chars_of}
use Rattle.trie.specs.Prefixes.{back, whole, has, with, joined, id_of, Small}
use Rattle.trie.specs.declared.Spelt.{Spelt}
use Rattle.trie.specs.declared.Added.{Added}
use Rattle.trie.specs.declared.Added.TheVariants.{New, Again}
use Rattle.trie.specs.Trie.{node_at, Trie}

-- one character on, in whatever trie the places are: the child of the node of q
pub record Next (after : List ℕ) (c made m : ℕ) (q ends : List ℕ) (prefixes pieces : List (List ℕ)) : Type 0 where
  pub trie : Trie after ends (with prefixes (c ∷ q)) pieces
  pub counted : made ≡ length (with prefixes (c ∷ q))
  pub leads : node_at after (c ∷ q) ≡ Some m

pub record Grew (keys : List ℕ) (node c count : ℕ) (after : List ℕ) (m made : ℕ) : Type 0 where
  pub long : length after ≡ length keys
  pub low : 0 < m
  pub high : m ≤ length keys
  pub next : (q ends : List ℕ) (prefixes pieces : List (List ℕ)) → Trie keys ends prefixes pieces → count ≡ length prefixes
      → Small q → node_at keys q ≡ Some node → Next after c made m q ends prefixes pieces

-- or the child is not there, and there is no room for it
pub record Stuck (keys : List ℕ) (node c count : ℕ) (after : List ℕ) : Type 0 where
  pub same : after ≡ keys
  pub new : (q ends : List ℕ) (prefixes pieces : List (List ℕ)) → Trie keys ends prefixes pieces → count ≡ length prefixes
      → Small q → node_at keys q ≡ Some node → (has prefixes (c ∷ q) ≡ false) × (length keys / 2 < length prefixes + 2)

abbrev pub Grows : List ℕ → ℕ → ℕ → ℕ → List ℕ → Option Spelt → Type 0
Grows keys node c count after (Some r) = Grew keys node c count after r.node r.count
Grows keys node c count after None = Stuck keys node c count after

-- a piece's bytes are UTF-8
pub record Spelling (keys piece : List ℕ) : Type 0 where
  pub few : length keys ≤ 4294967295
  pub utf8 : Spells piece (chars_of piece)

-- the first k characters are spelt, in whatever trie the places were
pub record Path (after chars : List ℕ) (k made node : ℕ) (ends : List ℕ) (prefixes pieces : List (List ℕ)) : Type 0 where
  pub trie : Trie after ends (joined prefixes chars k) pieces
  pub counted : made ≡ length (joined prefixes chars k)
  pub leads : node_at after (back chars k) ≡ Some node

-- there is no room for the prefixes of the characters
pub record Full (keys chars after ends : List ℕ) (prefixes pieces : List (List ℕ)) : Type 0 where
  pub upto : ℕ
  pub inside : upto < length chars
  pub trie : Trie after ends (joined prefixes chars upto) pieces
  pub over : length keys / 2 < length (joined prefixes chars (length chars)) + 1

pub record Reached (keys chars : List ℕ) (count : ℕ) (after : List ℕ) (node made : ℕ) : Type 0 where
  pub long : length after ≡ length keys
  pub low : 0 < length chars → 0 < node
  pub high : node ≤ length keys
  pub path : (ends : List ℕ) (prefixes pieces : List (List ℕ)) → Trie keys ends prefixes pieces → count ≡ length prefixes
      → Path after chars (length chars) made node ends prefixes pieces

abbrev pub Reaches : List ℕ → List ℕ → ℕ → List ℕ → Option Spelt → Type 0
Reaches keys chars count after (Some r) = Reached keys chars count after r.node r.count
Reaches keys chars count after None =
    (ends : List ℕ) (prefixes pieces : List (List ℕ)) → Trie keys ends prefixes pieces → count ≡ length prefixes → Full keys chars after ends prefixes pieces

pub record Adding (keys ends piece : List ℕ) (id : ℕ) : Type 0 where
  pub spelling : Spelling keys piece
  pub level : length ends ≡ length keys
  pub few : id < 4294967295

-- a piece more; `earlier` is the id plus 1 of the last piece that had its spelling, or 0
pub record More (keys chars keys' ends' : List ℕ) (earlier made : ℕ) (prefixes pieces : List (List ℕ)) : Type 0 where
  pub long : length keys' ≡ length keys
  pub trie : Trie keys' ends' (joined prefixes chars (length chars)) (chars ∷ pieces)
  pub counted : made ≡ length (joined prefixes chars (length chars))
  pub told : 0 < length chars → earlier ≡ id_of pieces (whole chars)

abbrev pub AddsTo : List ℕ → List ℕ → List ℕ → ℕ → List ℕ → List ℕ → Option Added → List (List ℕ) → List (List ℕ) → Type 0
AddsTo keys ends chars count keys' ends' (Some (New made)) prefixes pieces = More keys chars keys' ends' 0 made prefixes pieces
AddsTo keys ends chars count keys' ends' (Some (Again i made)) prefixes pieces = More keys chars keys' ends' (i + 1) made prefixes pieces
AddsTo keys ends chars count keys' ends' None prefixes pieces = Full keys chars keys' ends prefixes pieces × (ends' ≡ ends)

abbrev pub Adds : List ℕ → List ℕ → List ℕ → ℕ → ℕ → List ℕ → List ℕ → Option Added → Type 0
Adds keys ends chars id count keys' ends' r =
    (prefixes pieces : List (List ℕ)) → Trie keys ends prefixes pieces → count ≡ length prefixes → id ≡ length pieces
    → AddsTo keys ends chars count keys' ends' r prefixes pieces
