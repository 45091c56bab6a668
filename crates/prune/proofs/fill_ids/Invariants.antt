-- `prune::fill_ids` meets its contract. The invariant: the slots up to the one at hand hold their numbers.
-- Assumes nothing.
use Rattle.prune.proofs.Filled.{Numbering}
use Rattle.prune.proofs.fill_ids.Given as goal

abbrev pub invariant-loop-id : goal.invariant-loop-id
invariant-loop-id l = Numbering l.initial.ranked l.ranked l.id
