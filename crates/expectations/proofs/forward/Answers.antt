use Prim.Native.Nat.{◌+◌}
use native.Mathlib.Omega.{arith}
use lib.ListN.{length-set}
use lib.Seq.{length-take-le}
use lib.Ieee.{Float}
use Rattle.expectations.proofs.Filled.{filled_one}
use Rattle.expectations.proofs.Ends.{at_end, forward_end_more}
use Rattle.expectations.proofs.forward.Goals as goal

pub loop-q-init : goal.loop-q-init
loop-q-init c = filled_one c.args.alpha.now _ (omega arith)

pub forward_end-requires : goal.forward_end-requires
forward_end-requires c = let e = length-take-le (c.loop-q.q + 1) c.loop-q.alpha (omega (arith, length-set {A = Float})) in at_end c.args.scores.now c.requires.0 (c.loop-q.q + 1) _ (omega arith) (omega arith) c.low-low.ensures c.high-high.ensures

pub loop-q-preserved : goal.loop-q-preserved
loop-q-preserved c = forward_end_more c.args.lattice.now.offsets.now c.args.lattice.now.starts.now c.args.lattice.now.ids.now c.args.scores.now _ c.loop-q.alpha c.loop-q.q (omega (arith, length-set {A = Float})) c.low-low.ensures c.high-high.ensures c.loop-q.invariant c.forward_end.ensures
