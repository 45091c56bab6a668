-- `math::kernels::ln_half` meets its contract. Assumes nothing.
use mathlib.Core.Path.{sym, subst}
use Prim.Native.Nat.{◌<◌}
use lib.Dec.{T}
use lib.Ieee.{binary64, fits}
use Rattle.rounding.specs.Grid.{index}
use Rattle.math.specs.Steps.{one, grid128, ◌⊖◌}
use Rattle.math.proofs.Places.{half_placed, half_index}
use Rattle.math.proofs.kernels.ln_half.Goals as goal
use Rattle.math.proofs.kernels.ln_half.Goals.{Start}

fit : (c : Start) → T (fits binary64 c.args.x)
fit c = subst T (sym c.well_formed.0.1) tt

few : (c : Start) → index grid128 (one ⊖ c.args.x) < 65
few c = half_index c.args.x (fit c) c.requires.t c.requires.t_2

pub float_to_int-k : goal.float_to_int-k
float_to_int-k c = rw c.cut128-a.ensures (half_placed c.args.x (fit (goal.at.float_to_int-k c).Start) c.requires.t c.requires.t_2).defined

pub mlog-requires : goal.mlog-requires
mlog-requires c = rw c.cut128-a.ensures (few (goal.at.mlog-requires c).Start)
