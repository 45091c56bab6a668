-- `utf8::decode` meets its contract: its table is right.
-- Assumes nothing.
use mathlib.Core.Path.{◌∙◌}
use native.Mathlib.Omega.{arith}
use Rattle.utf8.proofs.Classed.{by_right_at}
use Rattle.utf8.proofs.decode.Goals as goal

pub returns : goal.returns
returns c = c.decode_by.ensures ∙ by_right_at c.classes.ensures c.args.text.now c.args.at (omega (arith, c.type_inv.text c.args.at))
