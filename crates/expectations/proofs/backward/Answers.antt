use mathlib.Core.Path.{refl}
use Prim.Native.Nat.{◌-◌}
use native.Mathlib.Omega.{arith}
use Rattle.expectations.proofs.Ends.{at_end, holds_more}
use Rattle.expectations.proofs.backward.Goals as goal

pub backward_end-requires : goal.backward_end-requires
backward_end-requires c = at_end c.args.scores.now c.requires.0 (c.args.lattice.now.n - c.loop-done.done) _ (omega arith) (omega arith) c.low-low.ensures c.high-high.ensures

pub loop-done-preserved : goal.loop-done-preserved
loop-done-preserved c = (omega arith, holds_more c.args.lattice.now.offsets.now c.args.lattice.now.starts.now c.args.lattice.now.ids.now c.args.scores.now c.args.lattice.now.n c.loop-done.done c.loop-done.beta (omega arith) refl refl c.low-low.ensures c.high-high.ensures c.loop-done.invariant.1 c.backward_end.ensures)
