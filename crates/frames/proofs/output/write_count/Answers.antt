-- `frames::write_count` meets its contract: number after number.
-- Assumes nothing.
use Rattle.frames.proofs.Lines.{put_same, count_put}
use Rattle.std.proofs.Common.{rules}
use Rattle.frames.proofs.output.write_count.Goals as goal

pub returns-clause-out_after : goal.returns-clause-out_after
returns-clause-out_after c = count_put c.args.out.now c.args.at c.args.tokens (search rules) _ _ _ _ c.put-a.ensures.put (put_same 8 _ _ c.from.ensures c.put-b.ensures.put)
