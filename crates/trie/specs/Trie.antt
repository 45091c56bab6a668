-- What the two slices of a trie mean of prefixes and pieces.
-- Assumes nothing.
use Rattle.std.specs.Prelude.{◌≡◌, Bool, true, false, List, [], ◌∷◌, ℕ, suc, ◌+◌, ◌/◌, ◌≤◌, ◌<◌, length, get_or, Option, Some, None}
use Rattle.places.specs.Walk.{key_of}
use Rattle.places.specs.Map.{found_in}
use Rattle.places.specs.Entries.{Holds}
use Rattle.trie.specs.Prefixes.{has, id_of, Small}

-- one character on from a node
abbrev pub step : List ℕ → Option ℕ → ℕ → Option ℕ
step keys (Some m) c = found_in keys (key_of m c)
step keys None c = None

-- the node of a prefix, from the root
abbrev pub node_at : List ℕ → List ℕ → Option ℕ
node_at keys [] = Some 0
node_at keys (c ∷ q) = step keys (node_at keys q) c

abbrev pub is_node : Option ℕ → Bool
is_node (Some m) = true
is_node None = false

-- `keys` and `ends` hold the prefixes and the pieces
pub record Trie (keys ends : List ℕ) (prefixes pieces : List (List ℕ)) : Type 0 where
  -- the places hold as many entries as there are prefixes, and with the root they are at most half of the places
  pub entries : List ℕ
  pub holds : Holds keys entries
  pub count : length entries ≡ length prefixes
  pub room : length prefixes + 1 ≤ length keys / 2
  -- a spelling has a node exactly where it is one of the prefixes, and a node has children only if it is there
  pub known : (c : ℕ) (q : List ℕ) → Small (c ∷ q) → is_node (node_at keys (c ∷ q)) ≡ has prefixes (c ∷ q)
  pub live : (p d : ℕ) → d < 4294967295 → get_or keys p 0 ≡ 0 → found_in keys (key_of (suc p) d) ≡ None
  -- at each node stands the last piece with its spelling, and at no other place
  pub level : length ends ≡ length keys
  pub clean : (p : ℕ) → get_or keys p 0 ≡ 0 → get_or ends p 0 ≡ 0
  pub names : (c p : ℕ) (q : List ℕ) → Small (c ∷ q) → node_at keys (c ∷ q) ≡ Some (suc p) → get_or ends p 0 ≡ id_of pieces (c ∷ q)
  -- a spelling that is no prefix is no piece's
  pub only : (c : ℕ) (q : List ℕ) → has prefixes (c ∷ q) ≡ false → id_of pieces (c ∷ q) ≡ 0
