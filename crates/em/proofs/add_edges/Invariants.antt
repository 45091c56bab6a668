-- `em::add_edges` meets its contract. The invariant is `Adding`: the edges so far are added.
-- Assumes nothing.
use Rattle.em.proofs.Turns.{Adding}
use Rattle.em.proofs.add_edges.Given as goal

abbrev pub invariant-loop-k : goal.invariant-loop-k
invariant-loop-k l = Adding l.ids l.emitted l.weight l.initial.expected l.k l.expected
