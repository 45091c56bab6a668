-- `lines::chunk` meets its contract: so many bytes are read.
-- Assumes nothing.
use Rattle.lines.proofs.Streaming.{Fed}
use Rattle.lines.specs.Lines.{Held, stream_of}
use Rattle.lines.proofs.chunk.Given as goal

abbrev pub invariant-loop-b : goal.invariant-loop-b
invariant-loop-b l = Fed (stream_of l.initial.input l.initial.line l.initial.texts l.initial.specials l.initial.text l.initial.words l.initial.frequencies) (stream_of l.input l.line l.texts l.specials l.text l.words l.frequencies) l.got l.b-index × Held l.input l.line
