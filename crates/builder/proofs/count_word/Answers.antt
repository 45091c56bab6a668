use Rattle.builder.proofs.Ends.{lower, rows_few, end_few, count_next, count_all}
use native.Mathlib.Omega.{arith}
use Rattle.builder.proofs.count_word.Goals as goal

pub count_end-count-requires : goal.count_end-count-requires
count_end-count-requires c = lower c.args.setting c.args.grid.now c.requires (omega arith)

pub overflow_add-count : goal.overflow_add-count
overflow_add-count c = omega (arith, c.loop-end.invariant, c.count_end-count.ensures, c.requires.few, rows_few c.args.setting c.args.grid.now c.loop-end.end (omega (arith, c.requires.few)), end_few c.args.setting c.args.grid.now c.loop-end.end)

pub loop-end-preserved : goal.loop-end-preserved
loop-end-preserved c = omega (arith, c.loop-end.invariant, c.count_end-count.ensures, count_next c.args.setting c.args.grid.now c.loop-end.end)

pub returns-2 : goal.returns-2
returns-2 c = count_all c.args.setting c.args.grid.now c.args.n c.loop-end.end (omega arith) (omega arith) c.loop-end.invariant c.count_end-count.ensures
