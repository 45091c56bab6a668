-- `em::total` meets its contract. The invariant is the sum of the counts so far, in their order.
-- Assumes nothing.
use Rattle.std.proofs.Common.{◌≡◌}
use Rattle.em.proofs.Turns.{sum_to}
use Rattle.em.proofs.total.Given as goal

abbrev pub invariant-loop-count : goal.invariant-loop-count
invariant-loop-count l = l.sum ≡ sum_to l.expected l.count-index
