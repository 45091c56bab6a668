-- Whether a word has a cut, and the shares of its edges in all cuts, when they are refused and what they leave: document 01,
-- "`expectations` .. 9, 10, 7; `is_connected` 9, 7". Definitions only.
use Rattle.std.specs.Prelude.{◌≡◌, Bool, List, ◌++◌, ℕ, ◌≤◌, length, drop, Float, Result, Ok, Err}
use Rattle.laws.specs.Tests.{Says}
use Rattle.refusal.specs.declared.Refusal.{Refusal}
use Rattle.refusal.specs.declared.Refusal.TheVariants.{BadLattice, NoRoom}
use Rattle.formed.specs.Word.{WordFormed}
use Rattle.connected.specs.Cut.{Connected}
use Rattle.expectations.specs.Sums.{expected_sum, expected_shares}
use Rattle.cut.specs.Cut.{Lent, Formed, Scored, Positions, Bad}

-- ---- is there a cut? No score is lent, so any number of 32 bits is a piece's id
abbrev pub Linked : List ℕ → List ℕ → List ℕ → ℕ → Type 0
Linked offsets starts ids n = WordFormed offsets starts ids 4294967296 n

pub data Unasked (offsets starts ids : List ℕ) (n : ℕ) (reach : List ℕ) : Refusal → Type 0 where
  bad_lattice : (Linked offsets starts ids n → ⊥) → Unasked offsets starts ids n reach (BadLattice 0)
  no_room : Linked offsets starts ids n → (Positions n (length reach) → ⊥) → Unasked offsets starts ids n reach (NoRoom 3)

pub record Asked (offsets starts ids : List ℕ) (n : ℕ) (reach : List ℕ) (P : Type 0) : Type 0 where
  pub linked : Linked offsets starts ids n
  pub room : Positions n (length reach)
  pub answer : P

abbrev pub Connects : List ℕ → List ℕ → List ℕ → ℕ → List ℕ → Result Bool Refusal → Type 0
Connects offsets starts ids n reach (Ok cuts) = Asked offsets starts ids n reach (Says cuts (Connected offsets starts n))
Connects offsets starts ids n reach (Err refusal) = Unasked offsets starts ids n reach refusal

-- ---- the shares: n + 1 positions in both work slices, and an entry an edge
pub record Rooms (x : Lent) (alpha beta emitted : List Float) : Type 0 where
  pub in_alpha : Positions x.n (length alpha)
  pub in_beta : Positions x.n (length beta)
  pub in_emitted : length x.starts ≤ length emitted

pub record Summed (x : Lent) (alpha beta emitted emitted' : List Float) (z : Float) : Type 0 where
  pub formed : Formed x
  pub scored : Scored x
  pub rooms : Rooms x alpha beta emitted
  pub sum_is : z ≡ expected_sum x.offsets x.starts x.ids x.scores x.n
  pub shares_are : emitted' ≡ expected_shares x.offsets x.starts x.ids x.scores x.n ++ drop (length x.starts) emitted

abbrev pub Expects : Lent → List Float → List Float → List Float → List Float → Result Float Refusal → Type 0
Expects x alpha beta emitted emitted' (Ok z) = Summed x alpha beta emitted emitted' z
Expects x alpha beta emitted emitted' (Err refusal) = Bad x (Rooms x alpha beta emitted) refusal × (emitted' ≡ emitted)
