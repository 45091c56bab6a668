-- How often each piece is used: 001's `uses`. A float's bits depend on the order of its sums: words in order, then the pieces of a word's best cut in order. Definitions only.
use Rattle.std.specs.Prelude.{ℕ, zero, suc, List, [], ◌∷◌, map, length, get_or, replicate, pos, slice_index, slice_index_or, slice_set, Float}
use Rattle.std.specs.Float.{nan, binary64}
use Rattle.std.specs.Float.Ieee.{of_int}
use Rattle.math.specs.Steps.{◌⊕◌, zero as nought}
use Rattle.lattice.specs.Lattice.{Edge}
use Rattle.lattice.specs.Layout.{joined, offsets, char_count}
use Rattle.viterbi.specs.Path.{path}

-- a frequency as an f64, the nearest
abbrev pub weight_of : ℕ → Float
weight_of frequency = of_int binary64 (pos frequency)

-- a piece is used so many times more
abbrev pub add_one : Float → List Float → ℕ → List Float
add_one weight uses id = slice_set uses id (get_or uses id nan ⊕ weight)

-- each piece on a path, in order
abbrev pub add_each : Float → List Float → List ℕ → List Float
add_each weight uses [] = uses
add_each weight uses (id ∷ ids) = add_each weight (add_one weight uses id) ids

-- a word of such a frequency
abbrev pub add_word : List ℕ → List ℕ → List ℕ → ℕ → List Float → ℕ → List Float → List Float
add_word offsets starts ids n scores frequency uses = add_each (weight_of frequency) uses (path offsets starts ids n scores)

-- a word by its lattice
abbrev pub add_lattice : List (List Edge) → List Float → ℕ → List Float → List Float
add_lattice lattice scores frequency uses =
    add_word (offsets lattice) (map (λ e. e.start) (joined lattice)) (map (λ e. e.id) (joined lattice)) (char_count lattice) scores frequency uses

-- after so many words, each with its frequency
abbrev pub uses_to : List (List (List Edge)) → List ℕ → List Float → ℕ → List Float
uses_to lattices frequencies scores zero = replicate (length scores) nought
uses_to lattices frequencies scores (suc word) = add_lattice (slice_index_or lattices word []) scores (slice_index frequencies word) (uses_to lattices frequencies scores word)

-- and after all
abbrev pub uses_of : List (List (List Edge)) → List ℕ → List Float → List Float
uses_of lattices frequencies scores = uses_to lattices frequencies scores (length lattices)
