use mathlib.Core.Path.{refl}
use native.Mathlib.Omega.{arith}
use lib.ListN.{length-set}
use lib.Ieee.{of_bits}
use Rattle.scores.specs.Floats.{f64s}
use Rattle.viterbi.specs.Slices.{lattice_of, without}
use Rattle.viterbi.proofs.Shapes.{readable}
use Rattle.viterbi.proofs.Filled.{filled_one}
use Rattle.viterbi.proofs.Turns.{sum_turn}
use Rattle.viterbi.proofs.excluding_core.Goals as goal

pub loop-at-init : goal.loop-at-init
unfolding of_bits
loop-at-init c = (simp length-set (omega arith), refl, filled_one c.args.best.now _ (omega arith))

pub reach-requires-clause-readable : goal.reach-requires-clause-readable
reach-requires-clause-readable c = readable c.requires.well_formed c.loop-at.at (omega arith)

pub loop-at-preserved : goal.loop-at-preserved
loop-at-preserved c =
    let a = c.args in
    let i = c.loop-at.invariant in
    (i.0, i.1, rw (c.reach.ensures.best_after, i.1) (sum_turn f64s (lattice_of a.lattice.now.offsets.now a.lattice.now.starts.now a.lattice.now.ids.now (without a.excluded a.scores.now)) c.loop-at.at i.2 (omega arith)))
