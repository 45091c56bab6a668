-- `em::Lent::expect` meets its contract. The invariant is `Expected`: the words so far are added.
-- Assumes nothing.
use Rattle.em.proofs.Spans.{Expected}
use Rattle.em.proofs.Lent.expect.Given as goal

abbrev pub invariant-loop-word : goal.invariant-loop-word
invariant-loop-word l = Expected l.self.offsets.now l.self.starts.now l.self.ids.now l.self.spans.now l.self.frequencies.now l.words l.self.scores.now l.word l.expected
