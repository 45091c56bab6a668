-- `math::kernels::ln_1p_unit` meets its contract. Assumes nothing.
use mathlib.Core.Path.{sym, subst}
use Prim.Native.Nat.{◌<◌}
use lib.Dec.{T}
use lib.Ieee.{binary64, fits}
use Rattle.rounding.specs.Grid.{index}
use Rattle.math.specs.Steps.{grid64}
use Rattle.math.proofs.Places.{ln1p_placed, ln1p_index}
use Rattle.math.proofs.kernels.ln_1p_unit.Goals as goal
use Rattle.math.proofs.kernels.ln_1p_unit.Goals.{Start}

fit : (c : Start) → T (fits binary64 c.args.y)
fit c = subst T (sym c.well_formed.0.1) tt

few : (c : Start) → index grid64 c.args.y < 65
few c = ln1p_index c.args.y (fit c) c.requires.t c.requires.t_2

pub float_to_int-k : goal.float_to_int-k
float_to_int-k c = rw c.cut64-a.ensures (ln1p_placed c.args.y (fit (goal.at.float_to_int-k c).Start) c.requires.t c.requires.t_2).defined

pub log-requires : goal.log-requires
log-requires c = rw c.cut64-a.ensures (few (goal.at.log-requires c).Start)
