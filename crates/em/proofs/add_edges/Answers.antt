use Rattle.std.proofs.Common.{arith}
use Rattle.em.proofs.Turns.{adding_all}
use Rattle.em.proofs.add_edges.Goals as goal

pub returns : goal.returns
returns c = adding_all (omega arith) c.loop-k.invariant
