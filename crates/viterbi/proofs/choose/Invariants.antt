use mathlib.Core.Path.{◌≡◌}
use lib.ListN.{get_or}
use Rattle.scores.specs.Table.{upto}
use Rattle.scores.specs.Floats.{f64s}
use Rattle.viterbi.specs.Slices.{edges_of, without, seen}
use Rattle.viterbi.proofs.choose.Given as goal

abbrev pub invariant-loop-k : goal.invariant-loop-k
invariant-loop-k l = seen l.choice ≡ upto f64s (edges_of l.lattice.starts.now l.lattice.ids.now (without l.excluded l.scores)) l.best (get_or l.lattice.offsets.now l.end 0) l.k
