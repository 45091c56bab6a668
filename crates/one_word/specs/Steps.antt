-- What the steps of a one-word cut ask and promise. Definitions only.
use Rattle.std.specs.Prelude.{◌≡◌, List, [], ◌∷◌, ℕ, ◌+◌, ◌≤◌, min, length, take, Float, Result, Ok, Err}
use Rattle.refusal.specs.declared.Refusal.{Refusal}
use Rattle.refusal.specs.declared.Refusal.TheVariants.{NoRoom, NoPath}
use Rattle.formed.specs.Word.{WordFormed}
use Rattle.lent.specs.Lent.{AllScored}
use Rattle.scores.specs.Best.{FiniteCut}
use Rattle.viterbi.specs.Slices.{lattice_of}
use Rattle.viterbi.specs.Answers.{Found}
use Rattle.cut.specs.declared.Cut.{Cut}
use Rattle.one_word.specs.Word.{Lent, InOrder, Answers}

-- the word's first bytes, one more than a word may have, as the only span of a text
pub record Spanned (word : List ℕ) (bytes : ℕ) (span : List ℕ) : Type 0 where
  pub bytes_are : bytes ≡ min (length word) 256
  pub span_is : span ≡ 0 ∷ bytes ∷ []

-- ---- a lattice that stands in front of its slices, and its best cut
pub record Exact (offsets starts ids : List ℕ) (edges n : ℕ) (scores : List Float) : Type 0 where
  pub short : n ≤ 255
  pub in_offsets : n + 2 ≤ length offsets
  pub in_starts : edges ≤ length starts
  pub in_ids : edges ≤ length ids
  pub formed : WordFormed (take (n + 2) offsets) (take edges starts) (take edges ids) (length scores) n
  pub scored : AllScored scores (length scores)

pub data NotCut (offsets starts ids : List ℕ) (edges n : ℕ) (scores : List Float) (path : List ℕ) : Refusal → Type 0 where
  no_slots : (n ≤ length path → ⊥) → NotCut offsets starts ids edges n scores path (NoRoom 4)
  no_path : n ≤ length path → (FiniteCut (lattice_of (take (n + 2) offsets) (take edges starts) (take edges ids) scores) n → ⊥) → NotCut offsets starts ids edges n scores path NoPath

abbrev pub Cuts : List ℕ → List ℕ → List ℕ → ℕ → ℕ → List Float → List ℕ → List ℕ → Result Cut Refusal → Type 0
Cuts offsets starts ids edges n scores path path' (Ok cut) = (n ≤ length path) × Found (lattice_of (take (n + 2) offsets) (take edges starts) (take edges ids) scores) (take edges ids) n path path' cut.score cut.count
Cuts offsets starts ids edges n scores path path' (Err refusal) = NotCut offsets starts ids edges n scores path refusal × (path' ≡ path)

-- ---- what was checked, and what follows; the work table is no part of it any more
abbrev pub Ready : Lent → Type 0
Ready x = (table : List ℕ) × InOrder x table

abbrev pub Follows : Lent → List ℕ → List ℕ → List ℕ → List ℕ → Result Cut Refusal → Type 0
Follows x keys ends path path' r = (table : List ℕ) → InOrder x table → Answers x (record { keys = keys; ends = ends; table = table }) path path' r
