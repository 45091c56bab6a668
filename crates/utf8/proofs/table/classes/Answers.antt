-- `utf8::classes` meets its contract: the table is right, by a test of one entry computed at all 256.
-- Assumes nothing.
use mathlib.Core.Path.{refl}
use Rattle.utf8.proofs.Classed.{is_class, right_table}
use Rattle.utf8.proofs.table.classes.Goals as goal

pub returns : goal.returns
unfolding is_class
returns c = right_table _ refl tt
