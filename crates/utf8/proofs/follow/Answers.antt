use mathlib.Core.Path.{◌∙◌, sym}
use native.Mathlib.Omega.{arith}
use Rattle.utf8.proofs.Position.{no_second, bad_second, following_none, no_tail, bad_tail, following_room, following_more, following_done}
use Rattle.utf8.proofs.follow.Goals as goal

pub returns-in_err-second : goal.returns-in_err-second
returns-in_err-second c = c.from_residual.ensures ∙ no_second c.args.text.now c.args.at _ _ _ _ (omega (arith, c.in_err-second.ensures.lookup))

pub returns-then-not-within : goal.returns-then-not-within
returns-then-not-within c = bad_second c.args.text.now c.args.at _ _ _ _ (omega (arith, c.in_ok-second.ensures.lookup)) c.in_ok-second.ensures.lookup.1 (sym c.within.ensures ∙ c.if-not-within.true)

pub loop-next-init : goal.loop-next-init
loop-next-init c = rw c.from.ensures (following_none c.args.text.now c.args.at _ _ _ _ (omega (arith, c.in_ok-second.ensures.lookup)) c.in_ok-second.ensures.lookup.1 (sym c.within.ensures ∙ c.if-not-within.false) c.requires.1 c.requires.2)

pub returns-in_err-tail : goal.returns-in_err-tail
returns-in_err-tail c = c.from_residual-in_err-tail.ensures ∙ no_tail c.loop-next.invariant c.loop-next-test.true (omega (arith, c.in_err-tail.ensures.lookup))

pub returns-then-not-within-2 : goal.returns-then-not-within-2
returns-then-not-within-2 c = bad_tail c.loop-next.invariant c.loop-next-test.true (omega (arith, c.in_ok-tail.ensures.lookup)) c.in_ok-tail.ensures.lookup.1 (sym c.within-in-loop-next.ensures ∙ c.if-not-within-2.true)

pub overflow_mul-code-in-loop-next : goal.overflow_mul-code-in-loop-next
overflow_mul-code-in-loop-next c = omega (arith, following_room c.loop-next.invariant c.loop-next-test.true 0)

pub overflow_add-code-in-loop-next : goal.overflow_add-code-in-loop-next
overflow_add-code-in-loop-next c = omega (arith, following_room c.loop-next.invariant c.loop-next-test.true c.from-in-loop-next.result)

pub loop-next-preserved : goal.loop-next-preserved
loop-next-preserved c = rw c.from-in-loop-next.ensures (following_more c.loop-next.invariant c.loop-next-test.true (omega (arith, c.in_ok-tail.ensures.lookup)) c.in_ok-tail.ensures.lookup.1 (sym c.within-in-loop-next.ensures ∙ c.if-not-within-2.false))

pub returns : goal.returns
returns c = following_done c.loop-next.invariant (omega arith)
