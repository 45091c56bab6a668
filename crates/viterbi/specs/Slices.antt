-- One word's lattice as its slices, and what may be read of it. Definitions only.
use Rattle.std.specs.Prelude.{true, List, ℕ, ◌+◌, ◌≤◌, ◌<◌, length, get_or, set, Float}
use Rattle.std.specs.Float.{nan, inf}
use Rattle.formed.specs.Word.{WordFormed}
use Rattle.scores.specs.Cuts.{Edges, Lattice}
use Rattle.scores.specs.Table.{Pick}
use Rattle.scores.specs.Floats.{ZeroOrBelow}
use Rattle.viterbi.specs.declared.Choice.{Choice}

abbrev pub edges_of : List ℕ → List ℕ → List Float → Edges Float
edges_of starts ids scores = record { start = λ k. get_or starts k 0; score = λ k. get_or scores (get_or ids k 0) nan }

-- "edges between offsets p and p+1 end at p"
abbrev pub lattice_of : List ℕ → List ℕ → List ℕ → List Float → Lattice Float
lattice_of offsets starts ids scores = record { edges = edges_of starts ids scores; low = λ p. get_or offsets p 0; high = λ p. get_or offsets (p + 1) 0 }

-- the scores without a piece: an edge of it offers nothing, for minus infinity is above no sum. An id that no piece has takes none away
abbrev pub without : ℕ → List Float → List Float
without id scores = set scores id (inf true)

abbrev pub seen : Choice → Pick Float
seen c = record { top = c.top; via = c.via }

-- the lattice of a word of n characters is well formed, and "each piece id has a score"
pub record WellFormed (offsets starts ids : List ℕ) (scores : List Float) (n : ℕ) : Type 0 where
  pub word : WordFormed offsets starts ids (length scores) n

-- no score "is NaN, above zero"
abbrev pub Scored : List Float → Type 0
Scored scores = (id : ℕ) → id < length scores → ZeroOrBelow (get_or scores id nan)

-- ---- what the loops read
-- edge k, by the sums of `many` positions
pub record Readable (starts ids : List ℕ) (scores : List Float) (many k : ℕ) : Type 0 where
  pub in_starts : k < length starts
  pub in_ids : k < length ids
  pub start_in : get_or starts k 0 < many
  pub id_in : get_or ids k 0 < length scores

-- each edge that ends at `end`
pub record EndReadable (offsets starts ids : List ℕ) (scores : List Float) (many end : ℕ) : Type 0 where
  pub in_offsets : end + 1 < length offsets
  pub ordered : get_or offsets end 0 ≤ get_or offsets (end + 1) 0
  pub each : (k : ℕ) → get_or offsets end 0 ≤ k → k < get_or offsets (end + 1) 0 → Readable starts ids scores many k
