use Rattle.listed.proofs.Turns.{total_more}
use Rattle.math.specs.Steps.{◌⊕◌}
use lib.Ieee.{Float}
use Rattle.std.proofs.Common.{ap, ◌∙◌}
use Rattle.listed.proofs.total.Goals as goal

pub loop-count-preserved : goal.loop-count-preserved
loop-count-preserved c = ap (λ (x : Float). c.loop-count.sum ⊕ x) c.nearest_u64_to_f64-sum.ensures ∙ total_more c.args.counts.now c.loop-count.count-index c.loop-count.sum c.loop-count-test.true c.loop-count.invariant
