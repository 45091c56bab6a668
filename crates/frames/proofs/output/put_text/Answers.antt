-- `frames::put_text` meets its contract: a byte more.
-- Assumes nothing.
use Rattle.frames.proofs.Lines.{spelling_none, spelling_more}
use Rattle.frames.proofs.output.put_text.Goals as goal

pub loop-b-init : goal.loop-b-init
loop-b-init c = spelling_none _ _ _ c.requires

pub loop-b-preserved : goal.loop-b-preserved
loop-b-preserved c = spelling_more c.loop-b.invariant c.loop-b-test.true _ _ _ c.from.ensures c.put-next.ensures.put
