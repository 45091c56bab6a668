-- `expectations::expectations_core` meets its contract: the passes one after the other, for a finite sum and for any other.
-- Assumes nothing.
use mathlib.Core.Path.{ap, ◌∙◌}
use mathlib.Core.List.{List, ◌++◌}
use Prim.Native.Nat.{ℕ}
use native.Mathlib.Omega.{arith}
use lib.ListN.{length, drop, replicate}
use lib.Seq.{length-take-le}
use lib.Ieee.{Float}
use Rattle.math.specs.Steps.{zero as nought}
use Rattle.expectations.proofs.Answers.{answer_none, answer_some}
use Rattle.expectations.proofs.expectations_core.Goals as goal

as_value_emitted_after : {A B : Type 0} → A × B → record { value : A; emitted_after : B }
as_value_emitted_after t = record { value = t.0; emitted_after = t.1 }

pub returns-then-not-is_finite : goal.returns-then-not-is_finite
returns-then-not-is_finite c =
    let long = length-take-le (length c.args.lattice.now.starts.now) c.args.emitted.now (omega arith) in
    let filled = c.fill.ensures.after (λ _ e. e) ∙ ap (λ (n : ℕ). replicate n nought) long in
    as_value_emitted_after (answer_none c.args.lattice.now.offsets.now c.args.lattice.now.starts.now c.args.lattice.now.ids.now c.args.scores.now c.args.lattice.now.n c.args.alpha.now _ c.forward.ensures c.args.emitted.now c.is_finite.ensures c.if-not-is_finite.true c.lowest.ensures (ap (λ (x : List Float). x ++ drop (length c.args.lattice.now.starts.now) c.args.emitted.now) filled))

pub returns : goal.returns
returns c = as_value_emitted_after (answer_some c.args.lattice.now.offsets.now c.args.lattice.now.starts.now c.args.lattice.now.ids.now c.args.scores.now c.args.lattice.now.n c.args.alpha.now _ c.forward.ensures c.args.emitted.now c.is_finite.ensures c.if-not-is_finite.false c.backward.ensures c.emit.ensures)
