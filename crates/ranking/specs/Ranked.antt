-- Which strings are candidates, and in which order they stand. Document 01, port order 8: "Characters by count falling, then
-- bytes; then strings of 2 up to the length setting with count ≥ `min_frequency`, by count times characters falling, then
-- bytes". A character's count times characters is its count, so that both are one list with different bounds. Definitions only.
use Rattle.std.specs.Prelude.{◌≡◌, true, List, ◌⊎◌, ℕ, ◌*◌, ◌≤◌, ◌<◌, length}
use Rattle.order.specs.Sort.{In, Sorted}
use Rattle.order.specs.Spelling.{le}
use Rattle.ranking.specs.Corpus.{Corpus, count, Stands}

-- a string of `low` up to `high` characters that stands in the corpus, and whose count is at least `least`
pub record Candidate (corpus : Corpus) (low high least : ℕ) (s : List ℕ) : Type 0 where
  pub long : low ≤ length s
  pub short : length s ≤ high
  pub somewhere : Stands corpus s
  pub often : least ≤ count corpus s

-- "count times characters"
abbrev pub worth : Corpus → List ℕ → ℕ
worth corpus s = count corpus s * length s

-- "by count times characters falling, then bytes": `le` is the order of code points, which is that of bytes by
-- `bytes_order` of proofs/Bytes
abbrev pub Before : Corpus → List ℕ → List ℕ → Type 0
Before corpus s t = (worth corpus t < worth corpus s) ⊎ ((worth corpus s ≡ worth corpus t) × ((le s t ≡ true) × (s ≡ t → ⊥)))

-- the candidates in order: each before all that follow, only candidates, every candidate
pub record Ranked (corpus : Corpus) (low high least : ℕ) (strings : List (List ℕ)) : Type 0 where
  pub sorted : Sorted (Before corpus) strings
  pub only : (s : List ℕ) → In s strings → Candidate corpus low high least s
  pub every : (s : List ℕ) → Candidate corpus low high least s → In s strings
