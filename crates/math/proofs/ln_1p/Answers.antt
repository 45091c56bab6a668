-- `math::ln_1p` meets its contract: its tests are the definition's. Assumes nothing.
use Rattle.math.specs.Steps.{ln1p_steps}
use Rattle.math.proofs.ln_1p.Goals as goal

pub returns-then-y-2 : goal.returns-then-y-2
unfolding ln1p_steps
returns-then-y-2 c = simp (c.if-y.true, c.if-y-2.true) c.ln_1p_unit.ensures

pub returns-else-y-2 : goal.returns-else-y-2
unfolding ln1p_steps
returns-else-y-2 c = simp (c.if-y.true, c.if-y-2.false) c.ln.ensures

pub returns-then-y-3 : goal.returns-then-y-3
unfolding ln1p_steps
returns-then-y-3 c = simp (c.if-y.false, c.if-y-3.true)

pub returns-else-y-3 : goal.returns-else-y-3
unfolding ln1p_steps
returns-else-y-3 c = simp (c.if-y.false, c.if-y-3.false) c.ln-else-y-3.ensures
