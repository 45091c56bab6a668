use Rattle.std.proofs.Common.{sym}
use native.Mathlib.Omega.{arith}
use Rattle.rows.proofs.Chars.{written_all, written_room, written_in, written_more}
use Rattle.rows.proofs.characters.Goals as goal

pub bounds-chars-n : goal.bounds-chars-n
bounds-chars-n c = written_room c.loop-found.invariant (sym c.in-Some.ensures)

pub overflow_add-at : goal.overflow_add-at
overflow_add-at c = omega (arith, written_in c.loop-found.invariant (sym c.in-Some.ensures))

pub loop-found-smaller : goal.loop-found-smaller
loop-found-smaller c = omega (arith, written_in c.loop-found.invariant (sym c.in-Some.ensures))

pub loop-found-preserved : goal.loop-found-preserved
loop-found-preserved c = written_more c.loop-found.invariant (sym c.in-Some.ensures)

pub returns : goal.returns
returns c = written_all c.loop-found.invariant (sym c.in_default.ensures)
