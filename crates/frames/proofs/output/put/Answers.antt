-- `frames::put` meets its contract: there is room.
-- Assumes nothing.
use Rattle.frames.proofs.Lines.{put_digits}
use Rattle.frames.proofs.output.put.Goals as goal

pub returns-clause-put : goal.returns-clause-put
returns-clause-put c = put_digits c.args.out.now c.args.at c.args.digits c.args.x c.requires _ c.write.ensures.out_after
