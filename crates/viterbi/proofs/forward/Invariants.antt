use Prim.Native.Nat.{ℕ, ◌<◌}
use lib.ListN.{length}
use lib.Ieee.{Float}
use Rattle.scores.specs.Table.{table, edges_to}
use Rattle.scores.specs.Floats.{f64s}
use Rattle.viterbi.specs.Slices.{lattice_of, without}
use Rattle.viterbi.proofs.Filled.{Filled}
use Rattle.viterbi.proofs.forward.Given as goal

abbrev pub invariant-loop-at : goal.invariant-loop-at
invariant-loop-at l =
    (l.lattice.n < length l.initial.best)
    × (l.lattice.n < length l.initial.back)
    × Filled Float (table f64s (lattice_of l.lattice.offsets.now l.lattice.starts.now l.lattice.ids.now (without l.excluded l.scores)) l.at) l.initial.best l.at l.best
    × Filled ℕ (edges_to f64s (lattice_of l.lattice.offsets.now l.lattice.starts.now l.lattice.ids.now (without l.excluded l.scores)) l.at) l.initial.back l.at l.back
