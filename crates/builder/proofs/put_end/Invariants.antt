use Rattle.builder.proofs.Starts.{upto}
use Rattle.builder.specs.Put.{Put}
use Rattle.builder.proofs.put_end.Given as goal

abbrev pub invariant-loop-start : goal.invariant-loop-start
invariant-loop-start l = Put l.initial.starts l.initial.ids l.write (upto l.setting l.grid l.end l.start) l.starts l.ids l.at
