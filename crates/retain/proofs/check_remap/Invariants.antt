-- `retain::check_remap` meets its contract. The invariant: what is still to be found is found in the entries that are left.
-- Assumes nothing.
use mathlib.Core.Path.{◌≡◌}
use Prim.Native.Nat.{◌≤◌}
use lib.ListN.{drop}
use Rattle.retain.specs.Remaps.{checked, checked_from}
use Rattle.retain.proofs.check_remap.Given as goal

abbrev pub invariant-loop-entry : goal.invariant-loop-entry
invariant-loop-entry l = (l.survivors ≤ l.entry) × (checked l.remap ≡ checked_from l.survivors l.entry (drop l.entry l.remap))
