use Rattle.std.proofs.Common.{refl, arith}
use Rattle.uses.proofs.Adding.{adding_in, adding_more}
use Rattle.uses.proofs.add_path.Goals as goal

pub bounds-uses-id : goal.bounds-uses-id
bounds-uses-id c = adding_in c.loop-id.invariant (omega arith) refl

pub bounds-uses-id-in-loop-id : goal.bounds-uses-id-in-loop-id
bounds-uses-id-in-loop-id c = adding_in c.loop-id.invariant (omega arith) refl

pub loop-id-preserved : goal.loop-id-preserved
loop-id-preserved c = adding_more c.loop-id.invariant (omega arith) refl
