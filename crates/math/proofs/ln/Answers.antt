-- `math::ln` meets its contract: its tests are the definition's. Assumes nothing.
use Rattle.math.specs.Steps.{ln_steps}
use Rattle.math.proofs.Tests.{under_zero, no_number}
use Rattle.math.proofs.ln.Goals as goal

pub returns-then-x : goal.returns-then-x
unfolding ln_steps
returns-then-x c = simp c.if-x.true c.ln_positive.ensures

pub returns-then-x-2 : goal.returns-then-x-2
unfolding ln_steps
returns-then-x-2 c = simp (c.if-x.false, c.if-x-2.true) under_zero

pub returns-else-x-2 : goal.returns-else-x-2
unfolding ln_steps
returns-else-x-2 c = simp (c.if-x.false, c.if-x-2.false) no_number
