-- `em::em_many` meets its contract. The invariant is `Passed`: so many passes are done.
-- Assumes nothing.
use Rattle.em.proofs.Times.{Passed}
use Rattle.em.proofs.em_many.Given as goal

abbrev pub invariant-loop-pass : goal.invariant-loop-pass
invariant-loop-pass l = Passed l.offsets l.starts l.ids l.spans l.frequencies l.words l.initial.scores l.initial.expected l._pass l.scores l.expected
