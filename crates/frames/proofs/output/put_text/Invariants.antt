-- `frames::put_text` meets its contract: so many bytes are written.
-- Assumes nothing.
use Rattle.frames.proofs.Lines.{Spelling}
use Rattle.frames.proofs.output.put_text.Given as goal

abbrev pub invariant-loop-b : goal.invariant-loop-b
invariant-loop-b l = Spelling l.initial.out l.at l.text l.out l.next l.b-index
