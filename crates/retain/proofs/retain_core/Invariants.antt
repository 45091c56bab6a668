-- `retain::retain_core` meets its contract. The invariant: whatever lattices the slices held, the first of them, as many as the words so far, stand pruned over the fronts.
-- Assumes nothing.
use mathlib.Core.List.{List}
use lib.ListN.{take}
use Rattle.lattice.specs.Lattice.{Edge}
use Rattle.lattice.specs.Pruning.{retained}
use Rattle.lattice.specs.Written.{Written}
use Rattle.retain.specs.Retain.{Laid}
use Rattle.retain.proofs.retain_core.Given as goal

abbrev pub invariant-loop-word : goal.invariant-loop-word
invariant-loop-word l =
    ((lattices : List (List (List Edge))) → Laid l.words l.remap l.initial.offsets l.initial.starts l.initial.ids l.initial.spans lattices → Written (retained l.remap (take l.word lattices)) l.initial.offsets l.initial.starts l.initial.ids l.initial.spans l.offsets l.starts l.ids l.spans l.write)
