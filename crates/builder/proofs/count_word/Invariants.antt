use Rattle.builder.proofs.Ends.{up_to}
use Rattle.lattice.specs.Layout.{joined}
use lib.ListN.{length}
use mathlib.Core.Path.{◌≡◌}
use Rattle.builder.proofs.count_word.Given as goal

abbrev pub invariant-loop-end : goal.invariant-loop-end
invariant-loop-end l = l.count ≡ length (joined (up_to l.setting l.grid l.end))
