use Rattle.lent.specs.Lent.{AllScored}
use lib.ListN.{length}
use Prim.Native.Nat.{◌≤◌}
use Rattle.lent.proofs.check_scores.Given as goal

abbrev pub invariant-loop-i : goal.invariant-loop-i
invariant-loop-i l = (l.i ≤ length l.scores) × AllScored l.scores l.i
