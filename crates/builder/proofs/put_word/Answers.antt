use Rattle.builder.proofs.Ends.{ends_none, ends_room, ends_count, ends_more, ends_all}
use native.Mathlib.Omega.{arith}
use Rattle.builder.proofs.put_word.Goals as goal

pub loop-end-init : goal.loop-end-init
loop-end-init c = ends_none c.args.setting c.args.grid.now c.requires

pub put_end-at-requires : goal.put_end-at-requires
put_end-at-requires c = ends_room c.args.setting c.args.grid.now c.requires c.loop-end.invariant (omega arith)

pub overflow_sub-offsets : goal.overflow_sub-offsets
overflow_sub-offsets c = (ends_count c.args.setting c.args.grid.now c.requires c.loop-end.invariant (omega arith) c.put_end-at.ensures).0

pub overflow_cast-offsets : goal.overflow_cast-offsets
overflow_cast-offsets c = omega (arith, (ends_count c.args.setting c.args.grid.now c.requires c.loop-end.invariant (omega arith) c.put_end-at.ensures).1)

pub loop-end-preserved : goal.loop-end-preserved
loop-end-preserved c = ends_more c.args.setting c.args.grid.now c.requires c.loop-end.invariant (omega arith) c.put_end-at.ensures

pub returns-2 : goal.returns-2
returns-2 c = ends_all c.args.setting c.args.grid.now c.requires (ends_more c.args.setting c.args.grid.now c.requires c.loop-end.invariant (omega arith) c.put_end-at.ensures) (omega arith)
