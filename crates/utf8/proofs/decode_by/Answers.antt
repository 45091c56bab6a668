-- `utf8::decode_by` meets its contract: past the end, an ASCII byte, or the class that the table gives.
-- Assumes nothing.
use mathlib.Core.Path.{◌∙◌}
use native.Mathlib.Omega.{arith}
use Rattle.utf8.proofs.Position.{at_end, ascii, classed}
use Rattle.utf8.proofs.decode_by.Goals as goal

pub returns-in_err-byte : goal.returns-in_err-byte
returns-in_err-byte c = c.from_residual.ensures ∙ at_end _ c.args.text.now c.args.at (omega (arith, c.in_err-byte.ensures.lookup))

pub returns-then-byte-lt128 : goal.returns-then-byte-lt128
returns-then-byte-lt128 c = rw c.from.ensures (ascii _ c.args.text.now c.args.at (omega (arith, c.in_ok-byte.ensures.lookup)) c.in_ok-byte.ensures.lookup.1 c.if-byte-lt128.true)

pub returns : goal.returns
returns c = (rw c.from-2.ensures at c.of_class.ensures) ∙ classed _ c.args.text.now c.args.at (omega (arith, c.in_ok-byte.ensures.lookup)) c.in_ok-byte.ensures.lookup.1 c.if-byte-lt128.false
