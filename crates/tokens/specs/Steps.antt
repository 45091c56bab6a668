-- What the steps of a call ask and promise. Definitions only.
use Rattle.std.specs.Prelude.{List, ℕ, ◌+◌, ◌*◌, ◌/◌, ◌≤◌, ◌<◌, length, Float}
use Rattle.spans.specs.Spans.{many, bytes}
use Rattle.spans.specs.Check.{Good, AllGood}
use Rattle.positions.specs.Gathered.{bytes_before}

-- ---- so many tokens of so many bytes fit
pub record Fits (count long : ℕ) (octets tokens : List ℕ) (slots : List Float) : Type 0 where
  pub spans_fit : count ≤ length tokens / 2
  pub scores_fit : count ≤ length slots
  pub bytes_fit : long ≤ length octets

-- ---- span k, put at a slot and from a byte on
pub record Putting (text spans : List ℕ) (k : ℕ) (out tokens : List ℕ) (slot at : ℕ) : Type 0 where
  pub within : k < many spans
  pub good : Good text spans 255 k
  pub byte_room : at + bytes spans k ≤ length out
  pub slot_room : 2 * slot + 2 ≤ length tokens
  pub narrow : at + bytes spans k ≤ 4294967295

-- ---- all spans of a list, the first at a slot and from a byte on
pub record PuttingAll (text spans out tokens : List ℕ) (slot at : ℕ) : Type 0 where
  pub good : AllGood text spans 255 (many spans)
  pub byte_room : at + bytes_before spans (many spans) ≤ length out
  pub slot_room : 2 * (slot + many spans) ≤ length tokens
  pub narrow : at + bytes_before spans (many spans) ≤ 4294967295
