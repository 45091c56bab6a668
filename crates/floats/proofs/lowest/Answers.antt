use mathlib.Core.Path.{refl}
use lib.Ieee.{of_bits}
use Rattle.floats.proofs.lowest.Goals as goal

pub returns : goal.returns
unfolding of_bits
returns c = refl
