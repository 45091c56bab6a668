use Rattle.viterbi.proofs.Walks.{Counted}
use Rattle.viterbi.proofs.count_back.Given as goal

abbrev pub invariant-loop-position : goal.invariant-loop-position
invariant-loop-position l = Counted l.back l.lattice.starts.now l.lattice.ids.now l.lattice.n l.position l.count

abbrev pub decreases-loop-position : goal.decreases-loop-position
decreases-loop-position l = l.position
