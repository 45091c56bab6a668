-- Losses are "+0 or greater, so their bit patterns order as they do". Definitions only.
use Rattle.std.specs.Prelude.{Bool, false, not, T, Float}
use Rattle.std.specs.Float.{nan, inf, fin}
use Rattle.std.specs.Float.Ieee.Scale.{finite}

-- +0 or greater: no NaN, and no sign
abbrev pub from_nought : Float → Bool
from_nought nan = false
from_nought (inf s) = not s
from_nought (fin s m e) = not s

-- what a piece's uses are: finite, and +0 or greater
pub record Uses (used : Float) : Type 0 where
  pub is_finite : T (finite used)
  pub not_below : T (from_nought used)
