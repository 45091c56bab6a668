-- Marks of positions that are reached. Definitions only.
use Rattle.std.specs.Prelude.{◌≡◌, List, ℕ, ◌≤◌, ◌<◌, get_or}

-- an edge of a range starts at a marked position
pub record Into (starts reach : List ℕ) (low high : ℕ) : Type 0 where
  pub edge : ℕ
  pub not_before : low ≤ edge
  pub not_after : edge < high
  pub marked : get_or reach (get_or starts edge 0) 0 ≡ 1
