use Prim.Native.Nat.{◌≤◌, ◌+◌}
use Rattle.formed.specs.Formed.{EndFormed}
use Rattle.laws.proofs.Ranges.{Between}
use Rattle.formed.proofs.formed.Given as goal

abbrev pub invariant-loop-end : goal.invariant-loop-end
invariant-loop-end l = (l.end ≤ l.span.n + 1) × Between (EndFormed l.starts l.ids l.ends l.pieces l.span) 0 l.end
