-- `copied::over` meets its contract. The invariant: as many items as were counted stand.
-- Assumes nothing.
use Rattle.std.proofs.Common.{◌≡◌, length, take}
use Rattle.copied.proofs.over.Given as goal

abbrev pub invariant-loop-k : goal.invariant-loop-k
invariant-loop-k g l = (length l.to ≡ length l.from) × (take l.k l.to ≡ take l.k l.from)
