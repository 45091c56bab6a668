-- What removing each piece would cost. Document 01, port order 10: "Loss is uses times the larger of 0 and score less alternative, +0 for either zero; plus infinity if there is no finite alternative; 0 unused." Definitions only.
use Rattle.std.specs.Prelude.{false, cond, List, [], map, ℕ, length, get_or, Float}
use Rattle.std.specs.Float.{nan, inf, binary64}
use Rattle.std.specs.Float.Ieee.{lt, eq, to_bits}
use Rattle.std.specs.Float.Ieee.Scale.{finite}
use Rattle.math.specs.Steps.{◌⊖◌, ◌⊗◌, zero as nought}
use Rattle.spans.specs.Spans.{first}
use Rattle.lattice.specs.Lattice.{Edge, lattice}
use Rattle.lattice.specs.Layout.{joined, offsets}
use Rattle.scores.specs.Cuts.{Lattice}
use Rattle.scores.specs.Table.{best}
use Rattle.scores.specs.Floats.{f64s}
use Rattle.viterbi.specs.Slices.{lattice_of, without}

-- the lattice of a text, by these scores
abbrev pub scored_by : List (List Edge) → List Float → Lattice Float
scored_by rows scores = lattice_of (offsets rows) (map (λ e. e.start) (joined rows)) (map (λ e. e.id) (joined rows)) scores

-- the best score of a text's cuts without a piece; minus infinity where none has a finite sum
unfoldable pub alternative : ℕ → List (List ℕ) → List ℕ → List Float → ℕ → Float
alternative setting pieces text scores id = best f64s (scored_by (lattice setting pieces text) (without id scores)) (length text)

-- "the larger of 0 and" x, "+0 for either zero"
abbrev pub larger : Float → Float
larger x = cond (lt nought x) x nought

-- "score less alternative"; "plus infinity if there is no finite alternative"
unfoldable pub penalty : Float → Float → Float
penalty score other = cond (finite other) (larger (score ⊖ other)) (inf false)

-- "0 unused"
unfoldable pub loss : Float → Float → Float → Float
loss used score other = cond (eq used nought) nought (used ⊗ penalty score other)

-- the loss of each piece, by its own text
abbrev pub loss_at : ℕ → List (List ℕ) → List Float → List Float → ℕ → Float
loss_at setting pieces scores uses id = loss (get_or uses id nan) (get_or scores id nan) (alternative setting pieces (get_or pieces id []) scores id)

abbrev pub losses_of : ℕ → List (List ℕ) → List Float → List Float → List Float
losses_of setting pieces scores uses = first (loss_at setting pieces scores uses) (length pieces)

-- "The uses and losses are +0 or greater, so their bit patterns order as they do"
abbrev pub bits_of : List Float → List ℕ
bits_of losses = map (to_bits binary64) losses
