-- `expectations::forward` meets its contract. The invariant is `Filled`: the sums at positions 0 .. q stand in front.
-- Assumes nothing.
use Prim.Native.Nat.{◌+◌}
use Rattle.expectations.specs.Sums.{alphas}
use Rattle.expectations.proofs.Filled.{Filled}
use Rattle.expectations.proofs.forward.Given as goal

abbrev pub invariant-loop-q : goal.invariant-loop-q
invariant-loop-q l = Filled (alphas l.lattice.offsets.now l.lattice.starts.now l.lattice.ids.now l.scores l.q) l.initial.alpha (l.q + 1) l.alpha
