use Rattle.builder.proofs.Ends.{Ends}
use Rattle.builder.proofs.put_word.Given as goal

abbrev pub invariant-loop-end : goal.invariant-loop-end
invariant-loop-end l = Ends l.setting l.grid l.initial.offsets l.initial.starts l.initial.ids l.n l.write l.offsets l.starts l.ids l.at l.end
