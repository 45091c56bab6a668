use mathlib.Core.Path.{ap, ◌∙◌}
use Rattle.shrink.specs.At.{Slices}
use Rattle.shrink.specs.Lent.{slices_of}
use Rattle.shrink.proofs.Lent.{same_state_on, same_work_on}
use Rattle.rounds.proofs.Looped.{improving_first, pruning, improving_last, all_rounds}
use Rattle.rounds.proofs.rounds.Goals as goal

pub improve_state-requires : goal.improve_state-requires
improve_state-requires c = improving_first _ _ _ _ c.args.iterations _ _ _ _ _ (slices_of c.args.state.now) c.args.work.now c.requires

pub prune_on-so-requires : goal.prune_on-so-requires
prune_on-so-requires c = rw c.improve_state.ensures.scores_alone (pruning _ _ _ _ c.args.iterations _ _ _ _ _ (slices_of c.args.state.now) c.args.work.now c.requires c.improve_state.new.state.scores.now c.improve_state.ensures.improves c.improve_state.new.work c.improve_state.ensures.same_work)

pub improve_state-requires-2 : goal.improve_state-requires-2
improve_state-requires-2 c = improving_last _ _ _ _ c.args.iterations _ _ _ _ _ (slices_of c.args.state.now) c.args.work.now c.requires c.improve_state.new.state.scores.now c.improve_state.ensures.improves (slices_of c.prune_on-so.new.state) c.prune_on-so.result (rw c.improve_state.ensures.scores_alone at c.prune_on-so.ensures.prunes) _ (c.prune_on-so.ensures.same_work.expected_long ∙ c.improve_state.ensures.same_work.expected_long)

pub returns : goal.returns
returns c = record {
  rounds = rw (ap (λ (x : Slices). x.pieces) c.improve_state-2.ensures.scores_alone) (all_rounds _ _ _ _ c.args.iterations _ _ _ _ _ (slices_of c.args.state.now) c.args.work.now c.requires c.improve_state.new.state.scores.now c.improve_state.ensures.improves (slices_of c.prune_on-so.new.state) c.prune_on-so.result (rw c.improve_state.ensures.scores_alone at c.prune_on-so.ensures.prunes) c.improve_state-2.new.state.scores.now c.improve_state-2.ensures.improves);
  same_state = same_state_on (same_state_on c.improve_state.ensures.same_state c.prune_on-so.ensures.same_state) c.improve_state-2.ensures.same_state;
  same_work = same_work_on (same_work_on c.improve_state.ensures.same_work c.prune_on-so.ensures.same_work) c.improve_state-2.ensures.same_work;
}
