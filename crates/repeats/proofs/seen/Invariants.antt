-- `repeats::seen` meets its contract: from e on no index has the bytes of k. The measure is e, which falls.
-- Assumes nothing.
use Rattle.repeats.proofs.Walks.{Walking}
use Rattle.repeats.proofs.seen.Given as goal

abbrev pub invariant-loop-e : goal.invariant-loop-e
invariant-loop-e l = Walking l.text l.spans l.k l.e

abbrev pub decreases-loop-e : goal.decreases-loop-e
decreases-loop-e l = l.e
