-- `expectations::emit_end` meets its contract. The invariant is `Filled`: the shares up to edge k stand in front.
-- Assumes nothing.
use mathlib.Core.List.{◌++◌}
use lib.ListN.{take}
use Rattle.expectations.specs.Sums.{shares}
use Rattle.expectations.proofs.Filled.{Filled}
use Rattle.expectations.proofs.emit_end.Given as goal

abbrev pub invariant-loop-k : goal.invariant-loop-k
invariant-loop-k l = Filled (take l.low l.initial.emitted ++ shares l.lattice.starts.now l.lattice.ids.now l.scores l.alpha l.onward l.z l.low l.k) l.initial.emitted l.k l.emitted
