-- `frames::write_token` meets its contract: number after number.
-- Assumes nothing.
use Rattle.frames.proofs.Lines.{put_same, token_puts}
use Rattle.std.proofs.Common.{rules}
use Rattle.frames.proofs.output.write_token.Goals as goal

pub returns-clause-out_after : goal.returns-clause-out_after
returns-clause-out_after c = token_puts c.args.out.now c.args.at c.args.id c.args.score c.args.text.now (search rules) (search rules) _ _ _ _ _ _ _ _ _ _ c.put-a.ensures.put (put_same 8 _ _ c.from.ensures c.put-b.ensures.put) (put_same 16 _ _ c.bits.ensures c.put-c.ensures.put) c.put-d.ensures.put c.put_text-e.ensures.put
