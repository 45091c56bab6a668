-- `prune::renew_all` meets its contract. The invariant: the entries up to the one at hand have their new ids.
-- Assumes nothing.
use Rattle.prune.proofs.Renewed.{Renewing}
use Rattle.prune.proofs.renew_all.Given as goal

abbrev pub invariant-loop-entry : goal.invariant-loop-entry
invariant-loop-entry l = Renewing l.initial.remap l.remap l.next l.entry-index
