-- Edges put into slices, and the room that they need. Definitions only.
use Rattle.std.specs.Prelude.{◌≡◌, List, map, ℕ, ◌+◌, ◌*◌, ◌≤◌, ◌<◌, length}
use Rattle.std.proofs.lemmas.List.Edits.{sets}
use Rattle.lattice.specs.Lattice.{Edge, edge}
use Rattle.lattice.specs.Layout.{joined, offsets}
use Rattle.rows.specs.Grid.{piece_of, ending_in, lattice_in}

-- the edges stand from `write` on, and `next` is the next free slot
pub record Put (starts ids : List ℕ) (write : ℕ) (edges : List Edge) (starts' ids' : List ℕ) (next : ℕ) : Type 0 where
  pub count : next ≡ write + length edges
  pub starts_are : starts' ≡ sets starts write (map (λ e. e.start) edges)
  pub ids_are : ids' ≡ sets ids write (map (λ e. e.id) edges)

-- there are slots for so many edges
pub record Room (starts ids : List ℕ) (write edges : ℕ) : Type 0 where
  pub in_starts : write + edges ≤ length starts
  pub in_ids : write + edges ≤ length ids

-- ---- what each function requires
pub record Slot (starts ids : List ℕ) (found start write : ℕ) : Type 0 where
  pub room : Room starts ids write (length (edge start (piece_of found)))
  pub small : start < 4294967296

-- a grid of n rows
pub record Grid (grid : List ℕ) (setting n : ℕ) : Type 0 where
  pub rows : 32 * n ≤ length grid
  pub few : n ≤ 255
  pub narrow : setting ≤ 32

pub record End (starts ids grid : List ℕ) (setting end write : ℕ) : Type 0 where
  pub grid_is : Grid grid setting end
  pub room : Room starts ids write (length (ending_in setting grid end))

pub record Whole (offs starts ids grid : List ℕ) (setting n write : ℕ) : Type 0 where
  pub grid_is : Grid grid setting n
  pub many : length offs ≡ n + 2
  pub room : Room starts ids write (length (joined (lattice_in setting grid n)))

-- a word's edges from `write` on, and its offsets
pub record Ended (offs starts ids grid : List ℕ) (setting n write : ℕ) (offs' starts' ids' : List ℕ) (next : ℕ) : Type 0 where
  pub edges : Put starts ids write (joined (lattice_in setting grid n)) starts' ids' next
  pub offsets_are : offs' ≡ offsets (lattice_in setting grid n)
