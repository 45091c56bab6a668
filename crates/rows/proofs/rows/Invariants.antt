use Rattle.rows.proofs.Steps.{Outer, Inner}
use Prim.Native.Nat.{◌-◌}
use Rattle.rows.proofs.rows.Given as goal

abbrev pub invariant-loop-step : goal.invariant-loop-step
invariant-loop-step l = Inner l.keys l.ends l.chars l.setting l.initial.grid l.start l.most l.grid l.node l.step

abbrev pub decreases-loop-step : goal.decreases-loop-step
decreases-loop-step l = l.most - l.step

abbrev pub invariant-loop-start : goal.invariant-loop-start
invariant-loop-start l = Outer l.keys l.ends l.chars l.setting l.initial.grid l.grid l.start
