use native.Mathlib.Omega.{arith}
use Rattle.prune.proofs.Filled.{numbering_more}
use Rattle.prune.proofs.fill_ids.Goals as goal

pub loop-id-preserved : goal.loop-id-preserved
loop-id-preserved c = numbering_more c.loop-id.invariant (omega arith)
