use Rattle.listed.proofs.Scored.{scored_more, scored_all}
use Rattle.listed.proofs.score_all.Goals as goal

pub loop-i-preserved : goal.loop-i-preserved
loop-i-preserved c = scored_more c.loop-i.invariant c.score.ensures c.loop-i-test.true

pub returns : goal.returns
returns c = scored_all c.loop-i.invariant c.loop-i-test.false
