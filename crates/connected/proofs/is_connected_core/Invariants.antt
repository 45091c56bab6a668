-- `connected::is_connected_core` meets its contract. The invariant is `Marks`: the marks up to a position say which are reached.
-- Assumes nothing.
use Rattle.connected.proofs.Reaching.{Marks}
use Rattle.connected.proofs.is_connected_core.Given as goal

abbrev pub invariant-loop-q : goal.invariant-loop-q
invariant-loop-q l = Marks l.lattice.offsets.now l.lattice.starts.now l.reach l.q
