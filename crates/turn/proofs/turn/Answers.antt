use Rattle.shrink.specs.Lent.{slices_of}
use Rattle.turn.proofs.Turned.{improving_next, turned}
use Rattle.turn.proofs.turn.Goals as goal

pub improve_state-requires : goal.improve_state-requires
improve_state-requires c = improving_next _ _ _ _ _ _ _ _ (slices_of c.args.state.now) _ _ _ _ _ _ c.requires (slices_of c.shrink-so.new.state) _ c.shrink-so.ensures.shrinks _ c.shrink-so.ensures.same_work.expected_long

pub returns-clause-turns : goal.returns-clause-turns
returns-clause-turns c = rw c.improve_state.ensures.scores_alone (turned _ _ _ _ _ _ _ _ (slices_of c.args.state.now) _ _ _ _ _ _ c.requires (slices_of c.shrink-so.new.state) _ c.shrink-so.ensures.shrinks _ _ c.improve_state.ensures.improves)
