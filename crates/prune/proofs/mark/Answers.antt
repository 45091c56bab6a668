use native.Mathlib.Omega.{arith}
use Rattle.prune.proofs.Marked.{marked_more}
use Rattle.prune.proofs.mark.Goals as goal

pub loop-id-preserved : goal.loop-id-preserved
loop-id-preserved c = marked_more c.args.survivors.now c.args.remap.now c.loop-id.id-index (omega arith) c.loop-id.invariant
