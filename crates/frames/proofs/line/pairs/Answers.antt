-- `frames::pairs` meets its contract: a pair more.
-- Assumes nothing.
use Rattle.frames.proofs.Decoding.{pairs_more}
use Rattle.frames.proofs.line.pairs.Goals as goal

pub loop-i-preserved : goal.loop-i-preserved
loop-i-preserved c = pairs_more c.loop-i.invariant _ c.loop-i-test.true (rw (c.nibble.ensures.value, c.nibble-in-loop-i.ensures.value))
