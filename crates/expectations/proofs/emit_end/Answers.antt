use native.Mathlib.Omega.{arith}
use Rattle.expectations.proofs.Turns.{shares_more}
use Rattle.expectations.proofs.emit_end.Goals as goal

pub loop-k-preserved : goal.loop-k-preserved
loop-k-preserved c = shares_more c.args.lattice.now.starts.now c.args.lattice.now.ids.now c.args.scores.now c.args.alpha.now c.args.onward c.args.z c.args.low c.args.emitted.now c.loop-k.emitted c.loop-k.k (omega arith) (omega arith) c.until.ensures c.share.ensures c.loop-k.invariant
