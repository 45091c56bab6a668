-- `math::kernels::ln_positive` meets its contract: its tests are the definition's. Assumes nothing.
use Rattle.laws.proofs.Choices.{yes, no}
use Rattle.math.proofs.Tests.{from_half, above_one, over_zero}
use Rattle.math.proofs.kernels.ln_positive.Goals as goal

pub ln_half-requires : goal.ln_half-requires
ln_half-requires c = record { t = from_half c.args.x c.requires (no c.if-x.false); t_2 = yes c.if-x-2.true }

pub ln_above-requires : goal.ln_above-requires
ln_above-requires c = record { t = above_one c.args.x c.requires (no c.if-x-2.false); t_2 = rw over_zero at (yes c.if-x-3.true) }

pub returns-then-x-3 : goal.returns-then-x-3
returns-then-x-3 c = simp (c.if-x.false, c.if-x-2.false, rw over_zero at c.if-x-3.true) c.ln_above.ensures

pub returns-else-x-3 : goal.returns-else-x-3
returns-else-x-3 c = simp (c.if-x.false, c.if-x-2.false, rw over_zero at c.if-x-3.false) over_zero
