-- The best cut of a lent lattice, when it is refused and what it leaves: document 01, "Viterbi checks 9, 10, 7, 11, 12".
-- Definitions only.
use Rattle.std.specs.Prelude.{◌≡◌, false, List, ℕ, ◌≤◌, ◌<◌, pos, length, replicate, Float, Result, Ok, Err}
use Rattle.std.specs.Float.{fin}
use Rattle.refusal.specs.declared.Refusal.{Refusal}
use Rattle.refusal.specs.declared.Refusal.TheVariants.{BadLattice, BadScore, NoRoom, NoPath}
use Rattle.scores.specs.Cuts.{Lattice}
use Rattle.scores.specs.Table.{best as greatest}
use Rattle.scores.specs.Floats.{f64s}
use Rattle.scores.specs.Best.{FiniteCut}
use Rattle.formed.specs.Word.{WordFormed}
use Rattle.lent.specs.Lent.{AllScored, FirstBad}
use Rattle.viterbi.specs.Slices.{lattice_of, without}
use Rattle.viterbi.specs.Answers.{Found}
use Rattle.cut.specs.declared.Cut.{Cut}

-- one word's lattice and the scores, as they are lent
pub record Lent : Type 0 where
  pub offsets : List ℕ
  pub starts : List ℕ
  pub ids : List ℕ
  pub n : ℕ
  pub scores : List Float

abbrev pub whole_lattice : Lent → Lattice Float
whole_lattice x = lattice_of x.offsets x.starts x.ids x.scores

-- 9 and 10: well formed, "each piece id has a score"; no score "is NaN, above zero"
abbrev pub Formed : Lent → Type 0
Formed x = WordFormed x.offsets x.starts x.ids (length x.scores) x.n

abbrev pub Scored : Lent → Type 0
Scored x = AllScored x.scores (length x.scores)

-- 7: "a word's n+1 positions", of each work slice
abbrev pub Positions : ℕ → ℕ → Type 0
Positions n slots = n < slots

-- ---- why a call on a lent lattice is refused before its work: 9, then 10 at the lowest id, then 7 at 3
pub data Bad (x : Lent) (Room : Type 0) : Refusal → Type 0 where
  bad_lattice : (Formed x → ⊥) → Bad x Room (BadLattice 0)
  bad_score : {id : ℕ} → Formed x → FirstBad x.scores id → Bad x Room (BadScore id)
  no_room : Formed x → Scored x → (Room → ⊥) → Bad x Room (NoRoom 3)

-- ---- the best cut
abbrev pub Rooms : ℕ → List Float → List ℕ → Type 0
Rooms n best back = Positions n (length best) × Positions n (length back)

pub data Why (x : Lent) (best : List Float) (back path : List ℕ) : Refusal → Type 0 where
  bad : {refusal : Refusal} → Bad x (Rooms x.n best back) refusal → Why x best back path refusal
  no_slots : Formed x → Scored x → Rooms x.n best back → length path < x.n → Why x best back path (NoRoom 4)
  no_path : Formed x → Scored x → Rooms x.n best back → x.n ≤ length path → (FiniteCut (whole_lattice x) x.n → ⊥) → Why x best back path NoPath

pub record Given (x : Lent) (best : List Float) (back path path' : List ℕ) (score : Float) (count : ℕ) : Type 0 where
  pub formed : Formed x
  pub scored : Scored x
  pub rooms : Rooms x.n best back
  pub slots : x.n ≤ length path
  pub found : Found (whole_lattice x) x.ids x.n path path' score count

-- "A refusal changes no result slice, cache or path"
abbrev pub Answers : Lent → List Float → List ℕ → List ℕ → List ℕ → Result Cut Refusal → Type 0
Answers x best back path path' (Ok cut) = Given x best back path path' cut.score cut.count
Answers x best back path path' (Err refusal) = Why x best back path refusal × (path' ≡ path)

-- ---- the best score without a piece
pub record Without (x : Lent) (excluded : ℕ) (best : List Float) (score : Float) : Type 0 where
  pub formed : Formed x
  pub scored : Scored x
  pub room : Positions x.n (length best)
  pub greatest_is : score ≡ greatest f64s (lattice_of x.offsets x.starts x.ids (without excluded x.scores)) x.n

abbrev pub Excludes : Lent → ℕ → List Float → Result Float Refusal → Type 0
Excludes x excluded best (Ok score) = Without x excluded best score
Excludes x excluded best (Err refusal) = Bad x (Positions x.n (length best)) refusal

-- "Work slices hold zeros after every call"
abbrev pub zeros : ℕ → List ℕ
zeros slots = replicate slots 0

abbrev pub zero_floats : ℕ → List Float
zero_floats slots = replicate slots (fin false 0 (pos 0))
