-- One word's lattice, lent as slices of its own. Definitions only.
use Rattle.std.specs.Prelude.{◌≡◌, List, ℕ, ◌+◌, length}
use Rattle.formed.specs.declared.Span.{Span}
use Rattle.formed.specs.Formed.{Formed}

-- all the edges, and the offsets from the first on
abbrev pub whole : List ℕ → ℕ → Span
whole starts n = record { from = 0; to = length starts; at = 0; n = n }

-- "A lattice is well formed when it has n+2 offsets ..", and its slices hold nothing else
pub record WordFormed (offsets starts ids : List ℕ) (pieces n : ℕ) : Type 0 where
  pub many : length offsets ≡ n + 2
  pub formed : Formed starts ids offsets pieces (whole starts n)
