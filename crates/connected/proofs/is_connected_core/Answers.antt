use native.Mathlib.Omega.{arith}
use Prim.Native.Nat.{ℕ}
use lib.ListN.{length-set}
use Rattle.connected.proofs.Reaching.{may_ask, turn}
use Rattle.connected.proofs.is_connected_core.Goals as goal

pub reached-requires : goal.reached-requires
reached-requires c = may_ask c.loop-q.reach c.requires.linked (omega arith) c.low-low.ensures c.high-high.ensures (omega (arith, length-set {A = ℕ}))

pub loop-q-preserved : goal.loop-q-preserved
loop-q-preserved c = turn c.loop-q.reach c.requires.linked (omega arith) c.low-low.ensures c.high-high.ensures c.loop-q.invariant c.reached.result _ c.from.ensures (omega (arith, length-set {A = ℕ})) c.reached.ensures
