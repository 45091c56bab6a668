-- `train::read_input`: before the first read nothing has come, and a chunk more is fed to what has come.
use Rattle.std.proofs.Common.{refl, arith}
use Rattle.lines.proofs.Streaming.{come_none, come_more}
use Rattle.train.proofs.read.read_input.Goals as goal

pub loop-turn-init : goal.loop-turn-init
loop-turn-init c = (come_none _ _ (rw c.begun-input.ensures), rw c.begun-input.ensures (record { size = refl; within = omega arith }))

pub loop-turn-preserved : goal.loop-turn-preserved
loop-turn-preserved c = (come_more c.loop-turn.invariant.0 _ _ c.chunk-input.ensures.frequencies_after, c.chunk-input.ensures.held)
