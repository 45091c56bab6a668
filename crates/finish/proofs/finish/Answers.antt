use lib.ListN.{length}
use Rattle.finish.proofs.Going.{ready, goes_on}
use Rattle.finish.proofs.finish.Goals as goal

pub go_on-answer-requires : goal.go_on-answer-requires
go_on-answer-requires c = ready c.args.settings c.args.texts.now c.args.specials.now c.args.text.now c.args.kept.now c.args.counts.now c.args.pieces.now c.args.scores.now (length c.args.order.now) (length c.args.work.now) (length c.args.ranks.now) (length c.args.expected.now) c.args.started c.requires

pub returns-clause-goes_on : goal.returns-clause-goes_on
returns-clause-goes_on c = goes_on c.args.settings c.args.texts.now c.args.specials.now c.args.text.now c.args.kept.now c.args.counts.now c.args.pieces.now c.args.scores.now c.args.started c.args.keys.now c.args.ends.now (record { offsets = c.args.offsets.now; starts = c.args.starts.now; ids = c.args.ids.now; spans = c.args.spans.now }) (record { bytes = c.args.bytes.now; tokens = c.args.tokens.now; scores = c.args.token_scores.now }) (record { bytes = c.go_on-answer.new.bytes; tokens = c.go_on-answer.new.tokens; scores = c.go_on-answer.new.token_scores }) c.go_on-answer.result c.go_on-answer.ensures.follows
