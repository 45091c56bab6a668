-- The seed list. Document 01, port order 8: "Characters [..]; then strings [..], cut to pool less required." Definitions only.
use Rattle.std.specs.Prelude.{◌≡◌, List, ◌++◌, map, ℕ, ◌+◌, ◌-◌, length, take}
use Rattle.ranking.specs.Corpus.{Corpus, count}
use Rattle.ranking.specs.Ranked.{Ranked}

-- before the cut: every character whatever its count, and the strings of 2 up to the length setting that are frequent enough
pub record Listed (corpus : Corpus) (setting least : ℕ) (characters strings : List (List ℕ)) : Type 0 where
  pub single : Ranked corpus 1 1 0 characters
  pub longer : Ranked corpus 2 setting least strings

-- "the seed list before its cut" has so many pieces
pub record Uncut (corpus : Corpus) (setting least size : ℕ) : Type 0 where
  pub characters : List (List ℕ)
  pub strings : List (List ℕ)
  pub listed : Listed corpus setting least characters strings
  pub size_is : size ≡ length characters + length strings

-- the list after its cut; the first `required` of it are the characters, which no cut takes
pub record Seeded (corpus : Corpus) (setting least pool : ℕ) (texts : List (List ℕ)) (required : ℕ) : Type 0 where
  pub characters : List (List ℕ)
  pub strings : List (List ℕ)
  pub listed : Listed corpus setting least characters strings
  pub required_is : required ≡ length characters
  pub texts_are : texts ≡ characters ++ take (pool - required) strings

-- the count of each piece
abbrev pub counts : Corpus → List (List ℕ) → List ℕ
counts corpus texts = map (count corpus) texts
