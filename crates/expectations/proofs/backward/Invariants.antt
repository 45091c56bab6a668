-- `expectations::backward` meets its contract. The invariant is `Holds`: every position has its sum over the ends that are done.
-- Assumes nothing.
use Prim.Native.Nat.{◌<◌}
use lib.ListN.{length}
use Rattle.expectations.specs.Sums.{Holds}
use Rattle.expectations.proofs.backward.Given as goal

abbrev pub invariant-loop-done : goal.invariant-loop-done
invariant-loop-done l = (l.lattice.n < length l.beta) × Holds l.lattice.offsets.now l.lattice.starts.now l.lattice.ids.now l.scores l.lattice.n l.done l.beta
