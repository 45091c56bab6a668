-- The scores that the start is lent. Assumes nothing.
use mathlib.Core.Path.{◌≡◌}
use mathlib.Core.List.{List}
use Prim.Native.Nat.{ℕ, ◌≤◌}
use lib.ListN.{length}
use lib.Ieee.{Float}
use Rattle.fresh.specs.Build as fresh
use Rattle.fresh.proofs.Building.{smaller_is}

-- ---- `start` is lent as many scores as there are slots of both kinds
pub in_scores : (scores : List Float) (slots most : ℕ) → most ≡ fresh.smaller (length scores) slots → most ≤ length scores
in_scores scores slots most e = (smaller_is (length scores) slots e).left
