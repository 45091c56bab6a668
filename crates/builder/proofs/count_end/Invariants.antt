use Rattle.builder.proofs.Starts.{upto}
use lib.ListN.{length}
use Prim.Native.Nat.{◌≤◌}
use mathlib.Core.Path.{◌≡◌}
use Rattle.builder.proofs.count_end.Given as goal

abbrev pub invariant-loop-start : goal.invariant-loop-start
invariant-loop-start l = (l.count ≡ length (upto l.setting l.grid l.end l.start)) × (l.count ≤ l.start)
