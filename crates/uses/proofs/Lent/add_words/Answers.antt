use Rattle.std.proofs.Common.{arith}
use Rattle.uses.proofs.Spans.{word_at, used_more}
use Rattle.uses.proofs.Lent.add_words.Goals as goal

pub add_word-requires-clause-word_at : goal.add_word-requires-clause-word_at
add_word-requires-clause-word_at c = word_at c.requires.given c.loop-word.word (omega arith)

pub loop-word-preserved : goal.loop-word-preserved
loop-word-preserved c = used_more c.args.self.now.offsets.now c.args.self.now.starts.now c.args.self.now.ids.now c.args.self.now.spans.now c.args.self.now.frequencies.now c.args.words c.args.self.now.scores.now (omega arith) c.loop-word.invariant c.add_word.auto.uses c.add_word.ensures
