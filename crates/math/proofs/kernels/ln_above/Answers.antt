-- `math::kernels::ln_above` meets its contract. Assumes nothing.
use mathlib.Core.Path.{sym, subst}
use Prim.Native.Nat.{ℕ, ◌-◌, ◌<◌}
use native.Mathlib.Nat.{le_trans}
use native.Mathlib.Omega.{arith}
use lib.Dec.{T, lit≤}
use lib.Ieee.{binary64, fits, to_bits}
use lib.Ieee.Bits.{to_bits-lt}
use Rattle.rounding.proofs.Casts.{int_in}
use Rattle.math.specs.Steps.{field}
use Rattle.math.proofs.Halves.{above_field}
use Rattle.math.proofs.kernels.ln_above.Goals as goal
use Rattle.math.proofs.kernels.ln_above.Goals.{Start}

fit : (c : Start) → T (fits binary64 c.args.x)
fit c = subst T (sym c.well_formed.0.1) tt

near : (b : ℕ) → b < 18446744073709551616 → field b - 1022 < 9007199254740992
near b h = omega arith

pub overflow_sub-result : goal.overflow_sub-result
overflow_sub-result c = le_trans (lit≤ tt) (above_field c.args.x (fit (c)) c.requires.t c.requires.t_2)

pub int_to_float-result : goal.int_to_float-result
int_to_float-result c = let b = to_bits binary64 c.args.x in int_in (field b - 1022) (near b (to_bits-lt binary64 c.args.x (fit (goal.at.int_to_float-result c).Start)))
