use mathlib.Core.Path.{refl}
use native.Mathlib.Omega.{arith}
use lib.ListN.{length, get_or}
use lib.Ieee.{nan}
use Rattle.expectations.proofs.Ends.{at_end, emit_more}
use Rattle.expectations.proofs.emit.Goals as goal

pub emit_end-requires : goal.emit_end-requires
emit_end-requires c =
    let r = at_end c.args.scores.now c.requires.0 c.loop-end.end (length c.args.alpha.now) (omega arith) (omega arith) c.low-low.ensures c.high-high.ensures in
    let e = r.0.edges_in in
    (r.0, r.1, omega arith)

pub loop-end-preserved : goal.loop-end-preserved
loop-end-preserved c = emit_more c.args.scores.now c.requires.0 c.args.alpha.now (λ p. get_or c.args.beta.now p nan) c.args.z c.args.emitted.now c.loop-end.emitted c.loop-end.end (omega arith) (omega arith) c.low-low.ensures c.high-high.ensures refl c.loop-end.invariant c.emit_end.ensures
