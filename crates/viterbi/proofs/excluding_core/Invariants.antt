use mathlib.Core.Path.{◌≡◌}
use Prim.Native.Nat.{◌<◌}
use lib.ListN.{length}
use lib.Ieee.{Float}
use Rattle.scores.specs.Table.{table}
use Rattle.scores.specs.Floats.{f64s}
use Rattle.viterbi.specs.Slices.{lattice_of, without}
use Rattle.viterbi.proofs.Filled.{Filled}
use Rattle.viterbi.proofs.excluding_core.Given as goal

abbrev pub invariant-loop-at : goal.invariant-loop-at
invariant-loop-at l =
    (l.lattice.n < length l.initial.best)
    × (l.piece ≡ l.excluded)
    × Filled Float (table f64s (lattice_of l.lattice.offsets.now l.lattice.starts.now l.lattice.ids.now (without l.excluded l.scores)) l.at) l.initial.best l.at l.best
