-- `math::kernels::exp_neg` meets its contract. Assumes nothing.
use mathlib.Core.Path.{sym, subst}
use Prim.Native.Nat.{ℕ, ◌/◌, ◌<◌}
use native.Mathlib.Omega.{arith}
use lib.Dec.{T}
use lib.Ieee.{binary64, fits}
use Rattle.rounding.specs.Grid.{index}
use Rattle.math.specs.Steps.{grid64}
use Rattle.math.proofs.Places.{exp_placed, exp_index}
use Rattle.math.proofs.kernels.exp_neg.Goals as goal
use Rattle.math.proofs.kernels.exp_neg.Goals.{Start}

fit : (c : Start) → T (fits binary64 c.args.t)
fit c = subst T (sym c.well_formed.0.1) tt

high : (k : ℕ) → k < 47744 → k / 256 < 187
high k h = omega arith

pub float_to_int-k : goal.float_to_int-k
float_to_int-k c = rw c.cut64-a.ensures (exp_placed c.args.t (fit (goal.at.float_to_int-k c).Start) c.requires.t c.requires.t_2).defined

pub hi-requires : goal.hi-requires
hi-requires c = rw c.cut64-a.ensures (high (index grid64 c.args.t) (exp_index c.args.t (fit (goal.at.hi-requires c).Start) c.requires.t c.requires.t_2))
