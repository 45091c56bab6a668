use Rattle.viterbi.proofs.Walks.{Written}
use Rattle.viterbi.proofs.write_back.Given as goal

abbrev pub invariant-loop-position : goal.invariant-loop-position
invariant-loop-position l = Written l.back l.lattice.starts.now l.lattice.ids.now l.initial.out l.lattice.n l.count l.out l.position l.met

abbrev pub decreases-loop-position : goal.decreases-loop-position
decreases-loop-position l = l.position
