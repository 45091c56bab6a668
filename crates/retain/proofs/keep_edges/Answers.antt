use native.Mathlib.Omega.{arith}
use Rattle.retain.proofs.Moving.{spot_of, moved_more}
use Rattle.retain.proofs.keep_edges.Goals as goal

pub keep_edge-at-requires : goal.keep_edge-at-requires
keep_edge-at-requires c = spot_of _ c.requires (omega arith) (omega arith) c.loop-edge.invariant

pub loop-edge-preserved : goal.loop-edge-preserved
loop-edge-preserved c = moved_more _ (omega arith) (omega arith) c.loop-edge.invariant c.keep_edge-at.ensures
