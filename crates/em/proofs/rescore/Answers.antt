use Rattle.std.proofs.Common.{arith}
use Rattle.em.proofs.Turns.{rescore_more}
use Rattle.em.proofs.rescore.Goals as goal

pub loop-piece-preserved : goal.loop-piece-preserved
loop-piece-preserved c = rescore_more c.args.sum c.args.expected.now c.loop-piece.piece c.requires (omega arith) c.loop-piece.invariant c.new_score.ensures
