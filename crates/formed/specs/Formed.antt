-- When a lattice in slices is well formed: document 01, "A lattice is well formed when". Definitions only.
use Rattle.std.specs.Prelude.{◌≡◌, List, ℕ, ◌+◌, ◌-◌, ◌≤◌, ◌<◌, length, get_or}
use Rattle.formed.specs.declared.Span.{Span}

-- "starts and ids are equally many"; the span is inside the slices; "it has n+2 offsets"
pub record Inside (starts ids ends : List ℕ) (span : Span) : Type 0 where
  pub equally_many : length starts ≡ length ids
  pub from_to : span.from ≤ span.to
  pub edges_in : span.to ≤ length starts
  pub offsets_in : span.at + span.n + 2 ≤ length ends

-- "start < end", "each piece id has a score (for retain, a remap entry)", "starts strictly rise at each end"
pub record EdgeFormed (starts ids : List ℕ) (pieces end first k : ℕ) : Type 0 where
  pub before : get_or starts k 0 < end
  pub named : get_or ids k 0 < pieces
  pub rising : first < k → get_or starts (k - 1) 0 < get_or starts k 0

-- the last two of one edge, which may start at `low` or after
pub record EdgeFrom (starts ids : List ℕ) (pieces low k : ℕ) : Type 0 where
  pub named : get_or ids k 0 < pieces
  pub rising : low ≤ get_or starts k 0

-- offset p of the word, counted in its own edges
abbrev pub offset : List ℕ → Span → ℕ → ℕ
offset ends span p = get_or ends (span.at + p) 0

-- "edges between offsets p and p+1 end at p", for one end p
pub record EndFormed (starts ids ends : List ℕ) (pieces : ℕ) (span : Span) (p : ℕ) : Type 0 where
  pub rises : offset ends span p ≤ offset ends span (p + 1)
  pub counted : offset ends span (p + 1) ≤ span.to - span.from
  pub each : (k : ℕ) → span.from + offset ends span p ≤ k → k < span.from + offset ends span (p + 1) → EdgeFormed starts ids pieces p (span.from + offset ends span p) k

-- "n+2 offsets, rising from 0 to the edge count"
pub record Formed (starts ids ends : List ℕ) (pieces : ℕ) (span : Span) : Type 0 where
  pub inside : Inside starts ids ends span
  pub from_nought : offset ends span 0 ≡ 0
  pub to_count : offset ends span (span.n + 1) ≡ span.to - span.from
  pub ending : (p : ℕ) → p ≤ span.n → EndFormed starts ids ends pieces span p
