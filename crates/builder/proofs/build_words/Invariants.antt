use Rattle.builder.proofs.Build.{Laying}
use Rattle.builder.proofs.build_words.Given as goal

abbrev pub invariant-loop-k : goal.invariant-loop-k
invariant-loop-k l = Laying l.keys l.ends l.text l.words l.setting l.initial.offsets l.initial.starts l.initial.ids l.initial.spans l.initial.chars l.initial.grid l.chars l.grid l.offsets l.starts l.ids l.spans l.k l.so
