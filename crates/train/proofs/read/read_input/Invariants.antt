-- What is stored is that of the bytes read so far.
use Rattle.lines.specs.Lines.{begun_with, Held, stream_of}
use Rattle.lines.proofs.Streaming.{Come}
use Rattle.train.proofs.read.read_input.Given as goal

abbrev pub invariant-loop-turn : goal.invariant-loop-turn
invariant-loop-turn l = Come (begun_with l.initial.texts l.initial.specials l.initial.text l.initial.words l.initial.frequencies) (stream_of l.input l.line l.texts l.specials l.text l.words l.frequencies) × Held l.input l.line
