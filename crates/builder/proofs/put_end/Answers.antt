use Rattle.builder.proofs.Starts.{loop_none, loop_slot, loop_more}
use native.Mathlib.Omega.{arith}
use mathlib.Core.Path.{◌≡◌}
use Rattle.builder.proofs.put_end.Goals as goal

pub loop-start-init : goal.loop-start-init
loop-start-init c = loop_none c.args.setting c.args.grid.now c.args.end c.requires c.lowest-start.ensures

pub cell-requires : goal.cell-requires
cell-requires c = (omega arith, c.requires.grid_is.rows)

pub put-at-requires : goal.put-at-requires
put-at-requires c = rw c.cell.ensures (loop_slot c.args.setting c.args.grid.now c.args.end c.requires c.loop-start.start (omega (arith, c.lowest-start.ensures)) (omega arith) c.loop-start.invariant)

pub loop-start-preserved : goal.loop-start-preserved
loop-start-preserved c = loop_more c.args.setting c.args.grid.now c.args.end c.requires c.loop-start.start (omega (arith, c.lowest-start.ensures)) (omega arith) c.loop-start.invariant (rw c.cell.ensures at c.put-at.ensures)

pub returns : goal.returns
returns c = let e : c.loop-start.start ≡ c.args.end = omega (arith, c.lowest-start.ensures) in rw e at c.loop-start.invariant
