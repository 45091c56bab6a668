-- `math::exp` meets its contract: its tests are the definition's. Assumes nothing.
use mathlib.Core.Path.{ap}
use lib.Ieee.{Float}
use Rattle.math.specs.Steps.{one, exp_steps, ◌⊘◌}
use Rattle.laws.proofs.Choices.{yes}
use Rattle.math.proofs.Tests.{neg_above, neg_under, over_zero, no_number}
use Rattle.math.proofs.exp.Goals as goal

pub exp_neg-requires : goal.exp_neg-requires
exp_neg-requires c = record { t = neg_above c.args.x (yes c.if-x.true); t_2 = neg_under c.args.x (yes c.if-x-2.true) }

pub returns-then-x-2 : goal.returns-then-x-2
unfolding exp_steps
returns-then-x-2 c = simp (c.if-x.true, c.if-x-2.true) c.exp_neg.ensures

pub returns-else-x-2 : goal.returns-else-x-2
unfolding exp_steps
returns-else-x-2 c = simp (c.if-x.true, c.if-x-2.false)

pub returns-then-x-4 : goal.returns-then-x-4
unfolding exp_steps
returns-then-x-4 c = simp (c.if-x.false, c.if-x-3.true, c.if-x-4.true) (ap (λ (z : Float). one ⊘ z) c.exp_neg-then-x-4.ensures)

pub returns-else-x-4 : goal.returns-else-x-4
unfolding exp_steps
returns-else-x-4 c = simp (c.if-x.false, c.if-x-3.true, c.if-x-4.false) over_zero

pub returns-then-x-5 : goal.returns-then-x-5
unfolding exp_steps
returns-then-x-5 c = simp (c.if-x.false, c.if-x-3.false, c.if-x-5.true)

pub returns-else-x-5 : goal.returns-else-x-5
unfolding exp_steps
returns-else-x-5 c = simp (c.if-x.false, c.if-x-3.false, c.if-x-5.false) no_number
