use Rattle.shrink.specs.Lent.{slices_of}
use Rattle.shrink.proofs.Lent.{same_state, same_state_on}
use Rattle.rounds.proofs.Looped.{head_first, shrinking, head_next, less, ended}
use Rattle.rounds.proofs.prune_on.Goals as goal

pub pruning-init : goal.pruning-init
pruning-init c = record {
  head = head_first _ _ _ _ _ _ _ _ _ _ (slices_of c.args.state.now) c.args.work.now _ c.keep-keep.ensures;
  same = same_state _;
}

pub turn-so-requires : goal.turn-so-requires
turn-so-requires c = shrinking _ _ _ _ _ _ _ _ _ _ (slices_of c.args.state.now) c.args.work.now c.requires (slices_of c.pruning.state) _ _ c.pruning.work c.pruning.invariant.head

pub pruning-smaller : goal.pruning-smaller
pruning-smaller c = less _ _ _ _ _ _ _ _ _ _ (slices_of c.args.state.now) c.args.work.now c.requires (slices_of c.pruning.state) _ _ c.pruning.work c.pruning.invariant.head c.pruning-test.true (slices_of c.turn-so.new.state) c.turn-so.result c.turn-so.ensures.turns

pub pruning-preserved : goal.pruning-preserved
pruning-preserved c = record {
  head = head_next _ _ _ _ _ _ _ _ _ _ (slices_of c.args.state.now) c.args.work.now c.requires (slices_of c.pruning.state) _ _ c.pruning.work c.pruning.invariant.head c.pruning-test.true (slices_of c.turn-so.new.state) c.turn-so.result c.turn-so.ensures.turns _ c.turn-so.new.work c.keep-keep-in-pruning.ensures c.turn-so.ensures.same_work;
  same = same_state_on c.pruning.invariant.same c.turn-so.ensures.same_state;
}

pub returns : goal.returns
returns c = record {
  prunes = ended _ _ _ _ _ _ _ _ _ _ (slices_of c.args.state.now) c.args.work.now c.requires (slices_of c.pruning.state) _ _ c.pruning.work c.pruning.invariant.head c.pruning-test.false;
  same_state = c.pruning.invariant.same;
  same_work = c.pruning.invariant.head.same;
}
