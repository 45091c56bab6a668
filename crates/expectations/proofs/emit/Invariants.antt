-- `expectations::emit` meets its contract. The invariant is `Filled`: the shares of the ends before stand in front.
-- Assumes nothing.
use lib.ListN.{get_or}
use lib.Ieee.{nan}
use Rattle.connected.specs.Word.{low}
use Rattle.expectations.specs.Sums.{shares_to}
use Rattle.expectations.proofs.Filled.{Filled}
use Rattle.expectations.proofs.emit.Given as goal

abbrev pub invariant-loop-end : goal.invariant-loop-end
invariant-loop-end l = Filled (shares_to l.lattice.offsets.now l.lattice.starts.now l.lattice.ids.now l.scores l.alpha (λ p. get_or l.beta p nan) l.z l.end) l.initial.emitted (low l.lattice.offsets.now l.end) l.emitted
