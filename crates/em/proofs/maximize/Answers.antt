-- `em::maximize` meets its contract, for a total of zero or below and for any other.
-- Assumes nothing.
use Rattle.em.proofs.Turns.{unchanged, changed}
use Rattle.em.proofs.maximize.Goals as goal

pub returns-then-sum : goal.returns-then-sum
returns-then-sum c = unchanged c.args.scores.now c.args.expected.now c.total-sum.result c.total-sum.ensures c.if-sum.true

pub returns : goal.returns
returns c = changed c.args.scores.now c.args.expected.now c.total-sum.result c.total-sum.ensures c.if-sum.false c.rescore.ensures
