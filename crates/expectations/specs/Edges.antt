-- Edges one after the other. Definitions only.
use Rattle.std.specs.Prelude.{List, ℕ, zero, suc, ◌+◌, ◌-◌, ◌<◌, length, get_or}

-- n edges from edge k on, in order, each by one step
abbrev pub in_turn : {A : Type 0} → (A → ℕ → A) → A → ℕ → ℕ → A
in_turn step a k zero = a
in_turn step a k (suc n) = step (in_turn step a k n) (k + n)

-- the edges from `low` up to, not with, `high`
abbrev pub over : {A : Type 0} → (A → ℕ → A) → A → ℕ → ℕ → A
over step a low high = in_turn step a low (high - low)

-- edge k is there, starts before position m, and its piece has one of so many scores
pub record Edge (starts ids : List ℕ) (pieces m k : ℕ) : Type 0 where
  pub in_starts : k < length starts
  pub in_ids : k < length ids
  pub start_in : get_or starts k 0 < m
  pub id_in : get_or ids k 0 < pieces
