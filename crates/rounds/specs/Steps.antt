-- What the rounds are given, and what they leave. Definitions only.
use Rattle.std.specs.Prelude.{◌≡◌, List, ℕ, ◌*◌, ◌≤◌, length, take, Float}
use Rattle.spans.specs.Spans.{listed}
use Rattle.spans.specs.Check.{AllGood}
use Rattle.model.specs.Model.{Model, Task, rounds, trained}
use Rattle.model.specs.Loop.{Sound, Going}
use Rattle.shrink.specs.declared.Shrunk.{Shrunk}
use Rattle.shrink.specs.At.{Slices, At, Fixed, Room}

-- ---- all of them
-- the settings and counts of a task, as a call has them
pub record Settled (t : Task) (iterations : ℕ) (factor : Float) (target required : ℕ) : Type 0 where
  pub iterations_are : t.iterations ≡ iterations
  pub factor_is : t.factor ≡ factor
  pub target_is : t.target ≡ target
  pub required_are : t.required ≡ required

-- at the loop's head EM has been run
pub record Pruning (setting : ℕ) (text : List ℕ) (words : ℕ) (frequencies : List ℕ) (iterations : ℕ) (factor : Float) (target required count edges : ℕ) (s : Slices) (expected bits ranked remap keys ends : ℕ) : Type 0 where
  pub t : Task
  pub begin : Model
  pub m : Model
  pub fixed : Fixed t setting words frequencies
  pub settled : Settled t iterations factor target required
  pub going : Going t begin m
  pub at : At t text m s count edges
  pub room : Room m.pieces count expected bits ranked remap keys ends

abbrev pub Prunes : ℕ → List ℕ → ℕ → List ℕ → ℕ → Float → ℕ → ℕ → ℕ → ℕ → Slices → Slices → Shrunk → Type 0
Prunes setting text words frequencies iterations factor target required count edges s s' r =
    (t : Task) (begin m : Model) → Fixed t setting words frequencies → Settled t iterations factor target required → Going t begin m → At t text m s count edges
    → At t text (rounds t (length begin.pieces) begin) s' r.pieces r.edges

pub record Rounding (setting : ℕ) (text : List ℕ) (words : ℕ) (frequencies : List ℕ) (iterations : ℕ) (factor : Float) (target required count edges : ℕ) (s : Slices) (expected bits ranked remap keys ends : ℕ) : Type 0 where
  pub t : Task
  pub begin : Model
  pub fixed : Fixed t setting words frequencies
  pub settled : Settled t iterations factor target required
  pub sound : Sound t begin
  pub at : At t text begin s count edges
  pub room : Room begin.pieces count expected bits ranked remap keys ends

-- so many pieces and scores are left
pub record Left (text : List ℕ) (m : Model) (pieces : List ℕ) (scores : List Float) (left : ℕ) : Type 0 where
  pub pieces_are : listed text (take (2 * left) pieces) ≡ m.pieces
  pub scores_are : take left scores ≡ m.scores
  pub in_pieces : 2 * left ≤ length pieces
  pub in_scores : left ≤ length scores
  pub good : AllGood text (take (2 * left) pieces) 255 left

abbrev pub Rounds : ℕ → List ℕ → ℕ → List ℕ → ℕ → Float → ℕ → ℕ → ℕ → ℕ → Slices → List ℕ → List Float → ℕ → Type 0
Rounds setting text words frequencies iterations factor target required count edges s pieces' scores' left =
    (t : Task) (begin : Model) → Fixed t setting words frequencies → Settled t iterations factor target required → Sound t begin → At t text begin s count edges
    → Left text (trained t begin) pieces' scores' left
