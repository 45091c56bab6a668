-- `tokens::put_all` meets its contract.
-- Assumes nothing.
use native.Mathlib.Omega.{arith}
use Rattle.tokens.proofs.Turns.{placed_none, placed_turn, placed_more, placed_all}
use Rattle.tokens.proofs.put_all.Goals as goal

pub loop-k-init : goal.loop-k-init
loop-k-init c = placed_none _ _ _ _ _ _

pub put_span-next-requires : goal.put_span-next-requires
put_span-next-requires c = placed_turn c.requires c.loop-k.invariant (omega arith)

pub loop-k-preserved : goal.loop-k-preserved
loop-k-preserved c = placed_more c.requires c.loop-k.invariant (omega arith) c.put_span-next.ensures

pub returns : goal.returns
returns c = placed_all c.requires c.loop-k.invariant (omega arith)
