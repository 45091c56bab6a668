-- A cache as flat lists, which its slices hold: starts and ids of edges, n + 2 offsets for a word of n characters, and a span of four numbers a word, as in 000. Definitions only.
use Rattle.std.specs.Prelude.{List, [], ◌∷◌, ◌++◌, map, ℕ, ◌+◌, ◌-◌, length}
use Rattle.lattice.specs.Lattice.{Edge}

-- the edges of a lattice one end after the other, and of a cache one word after the other
abbrev pub joined : {A : Type 0} → List (List A) → List A
joined [] = []
joined (l ∷ ls) = l ++ joined ls

-- where the edges of each end begin, and after the last end where they stop: edges between offsets p and p + 1 end at p
abbrev pub offsets_from : ℕ → List (List Edge) → List ℕ
offsets_from at [] = at ∷ []
offsets_from at (row ∷ rows) = at ∷ offsets_from (at + length row) rows

-- a word's offsets count from its own first edge
abbrev pub offsets : List (List Edge) → List ℕ
offsets lattice = offsets_from 0 lattice

-- how many edges a lattice has, and how many characters its word: it has a row for each position, 0 too
abbrev pub edge_count : List (List Edge) → ℕ
edge_count lattice = length (joined lattice)

abbrev pub char_count : List (List Edge) → ℕ
char_count lattice = length lattice - 1

-- where each word's edges begin and end, where its offsets begin, and its number of characters; words follow each other
abbrev pub spans_from : ℕ → ℕ → List (List (List Edge)) → List ℕ
spans_from edge end [] = []
spans_from edge end (lattice ∷ lattices) = edge ∷ (edge + edge_count lattice) ∷ end ∷ char_count lattice ∷ spans_from (edge + edge_count lattice) (end + length (offsets lattice)) lattices

pub record Flat : Type 0 where
  pub starts : List ℕ
  pub ids : List ℕ
  pub ends : List ℕ
  pub spans : List ℕ

-- words follow each other from slot 0
abbrev pub flat : List (List (List Edge)) → Flat
flat lattices = record { starts = map (λ e. e.start) (joined (joined lattices)); ids = map (λ e. e.id) (joined (joined lattices)); ends = joined (map offsets lattices); spans = spans_from 0 0 lattices }
