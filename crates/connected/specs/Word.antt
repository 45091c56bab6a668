-- What the loops read of one word's lattice. Definitions only.
use Rattle.std.specs.Prelude.{List, ℕ, ◌+◌, ◌≤◌, ◌<◌, length, get_or}
use Rattle.formed.specs.Word.{WordFormed}

-- offsets and starts of a well-formed lattice, whatever its ids are
pub record Linked (offsets starts : List ℕ) (n : ℕ) : Type 0 where
  pub ids : List ℕ
  pub pieces : ℕ
  pub word : WordFormed offsets starts ids pieces n

-- "edges between offsets p and p+1 end at p": they are numbered from `low p` up to, not with, `high p`
abbrev pub low : List ℕ → ℕ → ℕ
low offsets p = get_or offsets p 0

abbrev pub high : List ℕ → ℕ → ℕ
high offsets p = get_or offsets (p + 1) 0

-- the edges of a range are there, and start before `end`
pub record Starting (starts : List ℕ) (end low high : ℕ) : Type 0 where
  pub rises : low ≤ high
  pub edges_in : high ≤ length starts
  pub before : (k : ℕ) → low ≤ k → k < high → get_or starts k 0 < end

-- and their pieces are there
pub record Naming (ids : List ℕ) (pieces low high : ℕ) : Type 0 where
  pub ids_in : high ≤ length ids
  pub named : (k : ℕ) → low ≤ k → k < high → get_or ids k 0 < pieces
