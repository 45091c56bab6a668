use Rattle.hexadecimal.proofs.Writing.{writing_more, writing_end}
use Rattle.hexadecimal.proofs.write.Goals as goal

pub loop-k-preserved : goal.loop-k-preserved
loop-k-preserved c = writing_more c.loop-k.invariant c.loop-k-test.true _ c.digit.ensures

pub returns-clause-out_after : goal.returns-clause-out_after
returns-clause-out_after c = writing_end c.loop-k.invariant c.loop-k-test.false
