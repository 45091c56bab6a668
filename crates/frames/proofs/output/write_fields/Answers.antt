-- `frames::write_fields` meets its contract: number after number.
-- Assumes nothing.
use Rattle.frames.proofs.Lines.{put_same, fields_put}
use Rattle.std.proofs.Common.{rules}
use Rattle.frames.proofs.output.write_fields.Goals as goal

pub returns-clause-out_after : goal.returns-clause-out_after
returns-clause-out_after c = fields_put c.args.out.now c.args.at c.args.fields (search rules) _ _ _ _ _ _ _ _ _ _ _ _ _ _ c.put-a.ensures.put (put_same 2 _ _ c.from.ensures c.put-b.ensures.put) (put_same 8 _ _ c.from-2.ensures c.put-c.ensures.put) (put_same 8 _ _ c.from-3.ensures c.put-d.ensures.put) (put_same 4 _ _ c.from-4.ensures c.put-e.ensures.put) (put_same 8 _ _ c.from-5.ensures c.put-f.ensures.put) (put_same 2 _ _ c.from-6.ensures c.put-g.ensures.put)
