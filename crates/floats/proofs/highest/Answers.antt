use mathlib.Core.Path.{refl}
use lib.Ieee.{of_bits}
use Rattle.floats.proofs.highest.Goals as goal

pub returns : goal.returns
unfolding of_bits
returns c = refl
