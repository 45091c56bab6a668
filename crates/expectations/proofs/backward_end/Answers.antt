use native.Mathlib.Omega.{arith}
use Rattle.expectations.proofs.Turns.{added_more}
use Rattle.expectations.proofs.backward_end.Goals as goal

pub loop-k-preserved : goal.loop-k-preserved
loop-k-preserved c = added_more c.args.lattice.now.starts.now c.args.lattice.now.ids.now c.args.scores.now c.args.onward c.args.low c.args.beta.now c.loop-k.beta c.loop-k.k (omega arith) (let l = c.requires.0.before c.loop-k.k (omega arith) (omega arith) in omega arith) c.loop-k.invariant c.backward_edge.ensures
