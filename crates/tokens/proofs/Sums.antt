-- How many bytes spans have together. Assumes nothing.
use mathlib.Core.List.{List}
use Prim.Native.Nat.{ℕ, zero, suc, ◌*◌, ◌≤◌, ◌<◌}
use native.Mathlib.Omega.{arith}
use Rattle.spans.specs.Spans.{many, bytes}
use Rattle.positions.specs.Gathered.{bytes_before}

-- the bytes of few spans are few
pub bytes_few : (spans : List ℕ) → ((k : ℕ) → k < many spans → bytes spans k ≤ 255) → (k : ℕ) → k ≤ many spans → bytes_before spans k ≤ 255 * k
bytes_few spans short zero h = omega arith
bytes_few spans short (suc k) h = let a = short k (omega arith) in let b = bytes_few spans short k (omega arith) in omega arith
