use Prim.Native.Nat.{◌≤◌}
use Rattle.formed.specs.Formed.{EdgeFormed}
use Rattle.formed.proofs.Edges.{Lowest}
use Rattle.laws.proofs.Ranges.{Between}
use Rattle.formed.proofs.end_formed.Given as goal

abbrev pub invariant-loop-k : goal.invariant-loop-k
invariant-loop-k l = (l.first ≤ l.k) × (l.k ≤ l.past) × Between (EdgeFormed l.starts l.ids l.pieces l.lowest l.first) l.first l.k × Lowest l.starts l.first l.k l.lowest
