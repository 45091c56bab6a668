use Rattle.uses.proofs.Spans.{Used}
use Rattle.uses.proofs.Lent.add_words.Given as goal

abbrev pub invariant-loop-word : goal.invariant-loop-word
invariant-loop-word l = Used l.self.offsets.now l.self.starts.now l.self.ids.now l.self.spans.now l.self.frequencies.now l.words l.self.scores.now l.word l.uses
