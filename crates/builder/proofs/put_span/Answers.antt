use Prim.Native.Nat.{◌*◌}
use Rattle.builder.proofs.Laying.{four_sets}
use lib.ListN.{length-set}
use native.Mathlib.Omega.{arith}
use Rattle.builder.proofs.put_span.Goals as goal

pub bounds-spans-p-2 : goal.bounds-spans-p-2
bounds-spans-p-2 c = simp length-set (omega (arith, c.requires.in_spans))

pub bounds-spans-p-3 : goal.bounds-spans-p-3
bounds-spans-p-3 c = simp length-set (omega (arith, c.requires.in_spans))

pub returns : goal.returns
returns c = four_sets c.args.spans.now (4 * c.args.k) c.args.from c.args.to c.args.at c.args.n
