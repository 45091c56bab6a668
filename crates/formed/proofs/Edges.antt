-- A word's edges and offsets under other names. Assumes nothing.
use mathlib.Core.Path.{◌≡◌, subst, ap}
use mathlib.Core.List.{List}
use Prim.Native.Nat.{ℕ, ◌+◌, ◌-◌, ◌<◌}
use native.Mathlib.Nat.{add-zero}
use lib.ListN.{get_or}
use Rattle.formed.specs.declared.Span.{Span}
use Rattle.formed.specs.Formed.{EdgeFormed, offset}

pub same_first : {starts ids : List ℕ} {pieces end first other k : ℕ} → first ≡ other → EdgeFormed starts ids pieces end first k → EdgeFormed starts ids pieces end other k
same_first {starts} {ids} {pieces} {end} {first} {other} {k} e formed = subst (λ (f : ℕ). EdgeFormed starts ids pieces end f k) e formed

pub first_offset : (ends : List ℕ) (span : Span) → offset ends span 0 ≡ get_or ends span.at 0
first_offset ends span = ap (λ (k : ℕ). get_or ends k 0) (add-zero span.at)

-- the lowest start that edge k may have, of the edges of one end from `first` on: one past the start before
pub record Lowest (starts : List ℕ) (first k low : ℕ) : Type 0 where
  pub none : k ≡ first → low ≡ 0
  pub more : first < k → low ≡ get_or starts (k - 1) 0 + 1
