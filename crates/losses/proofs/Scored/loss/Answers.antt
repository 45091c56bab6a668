use Rattle.losses.proofs.Choices.{loss_unused, loss_used}
use Rattle.losses.proofs.Scored.loss.Goals as goal

pub returns-then-used : goal.returns-then-used
returns-then-used c = loss_unused _ _ _ c.if-used.true

pub returns : goal.returns
returns c = loss_used _ _ _ c.if-used.false c.alternative-other.result c.penalty.result c.alternative-other.ensures c.penalty.ensures
