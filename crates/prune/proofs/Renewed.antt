-- The loop that gives the survivors their new ids. Assumes nothing.
use mathlib.Core.Path.{◌≡◌}
use mathlib.Core.List.{List, ◌++◌, map}
use Prim.Native.Nat.{ℕ, ◌≤◌}
use lib.ListN.{length, take, drop}
use Rattle.prune.specs.Prune.{remap_from}
use Rattle.prune.specs.Steps.{alive}

-- the entries before id hold their new ids, of which `next` are given
pub record Renewing (remap₀ remap : List ℕ) (next id : ℕ) : Type 0 where
  pub long : length remap ≡ length remap₀
  pub upto : next ≤ id
  pub so_far : take id remap ++ remap_from next (map alive (drop id remap)) ≡ remap_from 0 (map alive remap₀)
