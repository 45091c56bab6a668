-- `frames::pairs` meets its contract: so many pairs are written.
-- Assumes nothing.
use Rattle.frames.proofs.Decoding.{Pairs}
use Rattle.frames.proofs.line.pairs.Given as goal

abbrev pub invariant-loop-i : goal.invariant-loop-i
invariant-loop-i l = Pairs l.line l.initial.bytes l.bytes l.i
