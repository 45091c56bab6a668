-- `spans::all_bytes` meets its contract: the sum so far, of numbers of 32 bits.
-- Assumes nothing.
use mathlib.Core.Path.{◌≡◌}
use Prim.Native.Nat.{◌*◌, ◌≤◌}
use Rattle.spans.specs.Spans.{bytes_before}
use Rattle.spans.proofs.all_bytes.Given as goal

abbrev pub invariant-loop-k : goal.invariant-loop-k
invariant-loop-k l = (l.sum ≡ bytes_before l.spans l.k) × (l.sum ≤ 4294967295 * l.k)
