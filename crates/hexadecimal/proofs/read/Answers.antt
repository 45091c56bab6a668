use mathlib.Core.Path.{◌∙◌}
use native.Mathlib.Omega.{arith}
use Rattle.hexadecimal.proofs.Reading.{reading_shift, reading_room, reading_more, reading_bad, made}
use Rattle.hexadecimal.proofs.read.Goals as goal

pub overflow_mul-sum : goal.overflow_mul-sum
overflow_mul-sum c = omega (arith, reading_shift c.loop-byte.invariant c.loop-byte-test.true)

pub returns-in_err-value : goal.returns-in_err-value
returns-in_err-value c = c.from_residual.ensures ∙ reading_bad c.loop-byte.invariant c.loop-byte-test.true c.in_err-value.ensures ∙ made _ _ _ c.if-digits-gt16.false (omega arith)

pub overflow_add-sum : goal.overflow_add-sum
overflow_add-sum c = omega (arith, c.from.ensures, reading_room c.loop-byte.invariant c.loop-byte-test.true c.in_ok-value.ensures)

pub loop-byte-preserved : goal.loop-byte-preserved
loop-byte-preserved c = rw c.from.ensures (reading_more c.loop-byte.invariant c.loop-byte-test.true c.in_ok-value.ensures)
