-- A grid of numbers as a lattice: row `start` holds at `step` the piece that is spelt by step + 1 characters from the start on,
-- as its id plus 1, or 0 where there is none. Definitions only.
use Rattle.std.specs.Prelude.{cond, List, ℕ, zero, suc, ◌+◌, ◌*◌, ◌-◌, leb, get_or}
use Rattle.std.proofs.Math.Option.{Option, none, some}
use Rattle.lattice.specs.Lattice.{Edge, starting, rows}

-- which piece a number is
abbrev pub piece_of : ℕ → Option ℕ
piece_of zero = none
piece_of (suc id) = some id

-- which piece a start and an end have, as far as the length setting goes
abbrev pub cell : List ℕ → ℕ → ℕ → ℕ
cell grid end start = get_or grid (32 * start + (end - start - 1)) 0

abbrev pub grid_id : ℕ → List ℕ → ℕ → ℕ → Option ℕ
grid_id setting grid end start = cond (leb (end - start) setting) (piece_of (cell grid end start)) none

-- the edges of an end, and the lattice of n characters
abbrev pub ending_in : ℕ → List ℕ → ℕ → List Edge
ending_in setting grid end = starting (grid_id setting grid end) end

abbrev pub lattice_in : ℕ → List ℕ → ℕ → List (List Edge)
lattice_in setting grid n = rows (ending_in setting grid) (suc n)
