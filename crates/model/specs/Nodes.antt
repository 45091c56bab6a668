-- How many nodes a trie of pieces has beside its root. Definitions only.
use Rattle.std.specs.Prelude.{List, [], ℕ, length, get_or}
use Rattle.trie.specs.Prefixes.{prefixes_of}
use Rattle.trie.specs.Listed.{newest_of}

-- the distinct non-empty prefixes of the pieces, as crate trie counts them
abbrev pub nodes : List (List ℕ) → ℕ
nodes pieces = length (prefixes_of (newest_of (λ k. get_or pieces k []) (length pieces)))
