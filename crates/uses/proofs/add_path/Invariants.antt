use Rattle.uses.proofs.Adding.{Adding}
use Rattle.uses.proofs.add_path.Given as goal

abbrev pub invariant-loop-id : goal.invariant-loop-id
invariant-loop-id l = Adding l.path l.weight l.initial.uses l.id-index l.uses
