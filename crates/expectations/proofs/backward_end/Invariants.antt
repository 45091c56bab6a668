-- `expectations::backward_end` meets its contract. The invariant is `Added`: every position has what the edges before k add to it.
-- Assumes nothing.
use Rattle.expectations.specs.Sums.{Added}
use Rattle.expectations.proofs.backward_end.Given as goal

abbrev pub invariant-loop-k : goal.invariant-loop-k
invariant-loop-k l = Added l.lattice.starts.now l.lattice.ids.now l.scores l.onward l.low l.k l.initial.beta l.beta
