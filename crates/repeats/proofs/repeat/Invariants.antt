-- `repeats::repeat` meets its contract: the indexes before k are in their chains, and none stands a second time.
-- Assumes nothing.
use Prim.Native.Nat.{ℕ, ◌<◌}
use Rattle.spans.specs.Spans.{many}
use Rattle.repeats.specs.Repeats.{Again}
use Rattle.repeats.specs.Chains.{bucket_of, Chained}
use Rattle.repeats.proofs.repeat.Given as goal

abbrev pub invariant-loop-k : goal.invariant-loop-k
invariant-loop-k l = record {
  chained : Chained (bucket_of l.text l.spans) (many l.spans) l.table l.k;
  none : (j : ℕ) → j < l.k → Again l.text l.spans j → ⊥;
}
