-- `math::kernels::ln_below` meets its contract. Assumes nothing.
use mathlib.Core.Path.{sym, subst}
use native.Mathlib.Nat.{le_trans}
use lib.Dec.{T, lit<, lit≤}
use lib.Ieee.{binary64, fits}
use Rattle.laws.proofs.Choices.{no}
use Rattle.math.proofs.Halves.{below_field, scaled_number, scaled_field}
use Rattle.math.proofs.kernels.ln_below.Goals as goal
use Rattle.math.proofs.kernels.ln_below.Goals.{Start}

fit : (c : Start) → T (fits binary64 c.args.x)
fit c = subst T (sym c.well_formed.0.1) tt

pub ln_down-requires : goal.ln_down-requires
ln_down-requires c = record { b_bound = le_trans (below_field c.args.x (fit (goal.at.ln_down-requires c).Start) c.requires.t c.requires.t_2) (lit≤ tt); n_bound = lit< tt }

pub float_to_bits-x-else-x : goal.float_to_bits-x-else-x
float_to_bits-x-else-x c = scaled_number c.args.x (fit (goal.at.float_to_bits-x-else-x c).Start) c.requires.t c.requires.t_2 (no c.if-x.false)

pub ln_down-requires-else-x : goal.ln_down-requires-else-x
ln_down-requires-else-x c = record { b_bound = le_trans (scaled_field c.args.x (fit (goal.at.ln_down-requires-else-x c).Start) c.requires.t c.requires.t_2 (no c.if-x.false)) (lit≤ tt); n_bound = lit< tt }
