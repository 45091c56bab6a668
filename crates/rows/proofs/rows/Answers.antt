use Rattle.rows.proofs.Steps.{Off, at_end, at_hole, node_range, inner_more, clear_in, outer_more, outer_all}
use Rattle.rows.proofs.Zeros.{zeroed}
use native.Mathlib.Omega.{arith}
use mathlib.Core.Path.{sym}
use Rattle.rows.proofs.rows.Goals as goal
use Rattle.rows.proofs.rows.Goals.{Left-loop-step, else-loop-step-test, then-loop-step-test+in_default}

pub overflow_sub-grid : goal.overflow_sub-grid
overflow_sub-grid c = (node_range c.args.keys.now c.args.ends.now c.args.chars.now c.args.setting c.requires c.loop-step.invariant c.loop-step-test.true (sym c.in-Some.ensures.value)).0

pub bounds-ends-node : goal.bounds-ends-node
bounds-ends-node c = omega (arith, node_range c.args.keys.now c.args.ends.now c.args.chars.now c.args.setting c.requires c.loop-step.invariant c.loop-step-test.true (sym c.in-Some.ensures.value), c.requires.level)

pub loop-step-preserved : goal.loop-step-preserved
loop-step-preserved c = inner_more c.args.keys.now c.args.ends.now c.args.chars.now c.args.setting c.requires c.loop-step.invariant c.loop-step-test.true (sym c.in-Some.ensures.value)

-- the walk has ended: its steps are done, or no piece continues
off : (c : Left-loop-step) → Off c.args.keys.now c.args.ends.now c.args.chars.now c.args.setting c.loop-start.start c.min-most.result c.loop-step.step
off c =
    let a = c.args in
    elim c.loop-step-test.branch [
      | else-loop-step-test w ↦
          at_end a.keys.now a.ends.now a.chars.now a.setting c.requires c.loop-step.invariant w.loop-step-test.false
      | then-loop-step-test+in_default w ↦
          at_hole a.keys.now a.ends.now a.chars.now a.setting c.requires c.loop-step.invariant w.loop-step-test.true (sym w.in_default.ensures.value)
    ]

pub loop-start-preserved : goal.loop-start-preserved
loop-start-preserved c = outer_more c.args.keys.now c.args.ends.now c.args.chars.now c.args.setting c.requires c.loop-step.invariant c.loop-start.invariant (off (goal.at.loop-start-preserved c).Left-loop-step) (zeroed c.loop-step.grid c.fill.new.self _ _ (omega (arith, c.loop-step.invariant.near)) (clear_in c.args.keys.now c.args.ends.now c.args.chars.now c.args.setting c.requires c.loop-step.invariant) (c.fill.ensures.after (λ _ e. e)))

pub returns : goal.returns
returns c = outer_all c.args.keys.now c.args.ends.now c.args.chars.now c.args.setting c.requires c.loop-start.invariant c.loop-start-test.false
