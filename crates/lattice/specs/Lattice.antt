-- A word's lattice: its edges, by end and then by start. Definitions only.
use Rattle.std.specs.Prelude.{cond, List, [], ◌∷◌, ◌++◌, map, ℕ, zero, suc, ◌-◌, leb, length, take, drop}
use Rattle.std.proofs.Math.Option.{Option, none, some}
use Rattle.lattice.specs.Pieces.{id_of}

-- an edge among those that end at one position: where it starts, and which piece it is
pub record Edge : Type 0 where
  pub start : ℕ
  pub id : ℕ

-- "An edge exists exactly when a piece of 1 character up to the length setting spells it": the piece from start to end, for a start before the end
abbrev pub between : List ℕ → ℕ → ℕ → List ℕ
between word start end = take (end - start) (drop start word)

abbrev pub edge_id : ℕ → List (List ℕ) → List ℕ → ℕ → ℕ → Option ℕ
edge_id setting pieces word end start = cond (leb (end - start) setting) (id_of pieces (between word start end)) none

-- the edge, if there is one
abbrev pub edge : ℕ → Option ℕ → List Edge
edge start none = []
edge start (some id) = record { start = start; id = id } ∷ []

-- those of the first n starts, rising; f says which piece an edge is
abbrev pub starting : (ℕ → Option ℕ) → ℕ → List Edge
starting f zero = []
starting f (suc n) = starting f n ++ edge n (f n)

-- those that end at a position, from every start before it
abbrev pub ending : ℕ → List (List ℕ) → List ℕ → ℕ → List Edge
ending setting pieces word end = starting (edge_id setting pieces word end) end

-- the first n ends, rising
abbrev pub rows : (ℕ → List Edge) → ℕ → List (List Edge)
rows f zero = []
rows f (suc n) = rows f n ++ (f n ∷ [])

-- a lattice is the edges of each end, from 0 to the number of characters
abbrev pub lattice : ℕ → List (List ℕ) → List ℕ → List (List Edge)
lattice setting pieces word = rows (ending setting pieces word) (suc (length word))

-- a cache is a lattice for each word
abbrev pub cache : ℕ → List (List ℕ) → List (List ℕ) → List (List (List Edge))
cache setting pieces words = map (lattice setting pieces) words
