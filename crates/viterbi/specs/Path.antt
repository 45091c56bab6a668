-- The ids on the best cut of a word, whatever the scores are, worked out from the table. Definitions only.
use Rattle.std.specs.Prelude.{cond, List, [], ℕ, Float}
use Rattle.std.specs.Float.Ieee.Scale.{finite}
use Rattle.scores.specs.Table.{best, best_cut}
use Rattle.scores.specs.Floats.{f64s}
use Rattle.viterbi.specs.Slices.{lattice_of}
use Rattle.viterbi.specs.Walk.{spell}

-- of a word of n characters, the first piece's first; none where the greatest sum is not finite
unfoldable pub path : List ℕ → List ℕ → List ℕ → ℕ → List Float → List ℕ
path offsets starts ids n scores =
    cond (finite (best f64s (lattice_of offsets starts ids scores) n)) (spell ids (best_cut f64s (lattice_of offsets starts ids scores) n)) []
