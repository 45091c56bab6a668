-- `retain::keep_edges` meets its contract. The invariant: the edges up to the one at hand have moved.
-- Assumes nothing.
use Rattle.retain.specs.Moves.{kept_to, Moved}
use Rattle.retain.proofs.keep_edges.Given as goal

abbrev pub invariant-loop-edge : goal.invariant-loop-edge
invariant-loop-edge l = Moved l.initial.starts l.initial.ids l.remap l.write (kept_to l.remap l.initial.ids l.from l.edge) l.starts l.ids l.at
