-- `retain::keep_word` meets its contract. The invariant is `Going`: the offsets before the position are new, and the edges that end before it have moved.
-- Assumes nothing.
use Rattle.retain.proofs.Offsets.{Going}
use Rattle.retain.proofs.keep_word.Given as goal

abbrev pub invariant-loop-position : goal.invariant-loop-position
invariant-loop-position l = Going l.initial.offsets l.initial.starts l.initial.ids l.remap l.base l.home l.n l.position l.offsets l.starts l.ids l.write
