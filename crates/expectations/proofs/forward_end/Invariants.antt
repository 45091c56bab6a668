-- `expectations::forward_end` meets its contract. The sum so far is the definition's up to edge k.
-- Assumes nothing.
use mathlib.Core.Path.{◌≡◌}
use Rattle.expectations.specs.Sums.{forward_sum}
use Rattle.expectations.proofs.forward_end.Given as goal

abbrev pub invariant-loop-k : goal.invariant-loop-k
invariant-loop-k l = l.sum ≡ forward_sum l.lattice.starts.now l.lattice.ids.now l.scores l.alpha l.low l.k
