-- What the steps ask for, and what they do. Definitions only.
use Rattle.std.specs.Prelude.{◌≡◌, List, ◌++◌, ℕ, ◌+◌, ◌-◌, ◌*◌, ◌≤◌, min, length, take, drop, Float}
use Rattle.ranking.specs.Counting.{Entry, ranked, tallies}
use Rattle.ranking.specs.Slots.{packed}
use Rattle.ranking.specs.Scores.{seed_scores}
use Rattle.ranks.specs.Ranks.{entries_of}
use Rattle.listed.specs.Spelled.{Spelling, Spelled}
use Rattle.seeding.specs.Phases.{Both}

-- ---- the first `many` pieces as spans, with their scores
pub record Writing (words places : List ℕ) (n many : ℕ) (pieces counts : List ℕ) (scores : List Float) : Type 0 where
  pub spelling : Spelling words places n (take (2 * many) pieces)
  pub pieces_room : 2 * many ≤ length pieces
  pub counts_room : many ≤ length counts
  pub scores_room : many ≤ length scores

pub record Written (words places : List ℕ) (n many : ℕ) (pieces counts : List ℕ) (scores : List Float) (pieces' : List ℕ) (scores' : List Float) : Type 0 where
  pub spelled : Spelled words places n (take (2 * many) pieces) (take (2 * many) pieces')
  pub scores_are : take many scores' ≡ seed_scores (take many counts)

-- ---- both parts by worth, and what the cut leaves of them
abbrev pub ordered : List ℕ → List ℕ → ℕ → ℕ → List Entry
ordered pieces counts required size =
    ranked (entries_of (take (2 * required) (take (2 * size) pieces)) (take required (take size counts)))
    ++ ranked (entries_of (drop (2 * required) (take (2 * size) pieces)) (drop required (take size counts)))

abbrev pub left : ℕ → ℕ → ℕ → ℕ
left required size pool = required + min (size - required) (pool - required)

pub record Listing (words places : List ℕ) (n required size pool : ℕ) (order work keys pieces counts : List ℕ) (scores : List Float) : Type 0 where
  pub both : Both (take (2 * size) pieces) (take size counts) order work keys required
  pub spelling : Spelling words places n (packed (take (left required size pool) (ordered pieces counts required size)))
  pub pieces_room : 2 * size ≤ length pieces
  pub counts_room : size ≤ length counts
  pub scores_room : size ≤ length scores

pub record ListedNow (words places : List ℕ) (n required size pool : ℕ) (pieces counts pieces' counts' : List ℕ) (scores' : List Float) (many : ℕ) : Type 0 where
  pub many_is : many ≡ left required size pool
  pub spelled : Spelled words places n (packed (take many (ordered pieces counts required size))) (take (2 * many) pieces')
  pub counts_are : take many counts' ≡ tallies (take many (ordered pieces counts required size))
  pub scores_are : take many scores' ≡ seed_scores (take many counts')
