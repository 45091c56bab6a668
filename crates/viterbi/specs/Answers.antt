-- What the best cut answers: "the best cut is either a score or no path". Definitions only.
use Rattle.std.specs.Prelude.{◌≡◌, List, ◌++◌, ℕ, ◌+◌, ◌<◌, length, drop, Float, Option, Some, None}
use Rattle.scores.specs.Cuts.{Lattice, sum}
use Rattle.scores.specs.Floats.{f64s}
use Rattle.scores.specs.Best.{FiniteCut, BestCut}
use Rattle.viterbi.specs.Slices.{WellFormed, Scored}
use Rattle.viterbi.specs.Walk.{spell}

-- what callers have checked, and "a word's n+1 positions"
pub record Asked (offsets starts ids : List ℕ) (scores best : List Float) (back : List ℕ) (n : ℕ) : Type 0 where
  pub well_formed : WellFormed offsets starts ids scores n
  pub scored : Scored scores
  pub best_room : n < length best
  pub back_room : n < length back

-- behind the word's n + 1 positions a work slice is as it was, so that whoever clears those leaves zeros
abbrev pub Behind : {A : Type 0} → ℕ → List A → List A → Type 0
Behind n before after = drop (n + 1) after ≡ drop (n + 1) before

-- the best cut's score, and its ids in front of the slots; a slot that is not filled is kept
pub record Found (l : Lattice Float) (ids : List ℕ) (n : ℕ) (before after : List ℕ) (score : Float) (count : ℕ) : Type 0 where
  pub cut : List ℕ
  pub is_best : BestCut l n cut
  pub score_is : score ≡ sum f64s l cut
  pub count_is : count ≡ length cut
  pub written : after ≡ spell ids cut ++ drop count before

-- no cut has a finite sum, and nothing is written
pub record Missed (l : Lattice Float) (n : ℕ) (before after : List ℕ) (count : ℕ) : Type 0 where
  pub none : FiniteCut l n → ⊥
  pub count_is : count ≡ 0
  pub kept : after ≡ before

abbrev pub Answers : Lattice Float → List ℕ → ℕ → List ℕ → List ℕ → Option Float → ℕ → Type 0
Answers l ids n before after (Some score) count = Found l ids n before after score count
Answers l ids n before after None count = Missed l n before after count
