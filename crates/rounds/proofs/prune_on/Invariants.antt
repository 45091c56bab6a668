use Rattle.shrink.specs.Lent.{slices_of, SameState}
use Rattle.rounds.proofs.Looped.{Head}
use Rattle.rounds.proofs.prune_on.Given as goal

abbrev pub invariant-pruning : goal.invariant-pruning
invariant-pruning l = record {
  head : Head l.setting l.text l.words l.frequencies l.iterations l.factor l.target l.required l.count l.edges (slices_of l.initial.state) l.initial.work (slices_of l.state) l.so l.keep l.work;
  same : SameState l.initial.state l.state;
}

abbrev pub decreases-pruning : goal.decreases-pruning
decreases-pruning l =
    l.so.pieces
