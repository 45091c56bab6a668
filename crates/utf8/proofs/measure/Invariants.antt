-- `utf8::measure` meets its contract. The invariant says how far the loop has come; the measure is what is left of the text.
-- Assumes nothing.
use Prim.Native.Nat.{◌-◌}
use lib.ListN.{length}
use Rattle.utf8.proofs.Whole.{Along}
use Rattle.utf8.proofs.measure.Given as goal

abbrev pub invariant-loop-at : goal.invariant-loop-at
invariant-loop-at l = Along l.text l.at l.count

abbrev pub decreases-loop-at : goal.decreases-loop-at
decreases-loop-at l = length l.text - l.at
