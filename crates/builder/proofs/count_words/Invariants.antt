use Rattle.builder.proofs.Words.{Counted}
use Rattle.builder.proofs.count_words.Given as goal

abbrev pub invariant-loop-k : goal.invariant-loop-k
invariant-loop-k l = Counted l.keys l.ends l.text l.words l.setting l.initial.chars l.initial.grid l.chars l.grid l.k l.so
