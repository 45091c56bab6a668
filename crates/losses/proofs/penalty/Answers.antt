use Rattle.std.proofs.Common.{◌∙◌}
use Rattle.floats.proofs.Finite.{finite_is}
use Rattle.losses.proofs.Choices.{infinite, penalty_none, penalty_more, penalty_nought}
use Rattle.losses.proofs.penalty.Goals as goal

pub returns-then-not-is_finite : goal.returns-then-not-is_finite
returns-then-not-is_finite c = penalty_none c.args.score c.args.other c.is_finite.result (c.is_finite.ensures.value ∙ finite_is c.args.other) c.if-not-is_finite.true infinite

pub returns-then-more : goal.returns-then-more
returns-then-more c = penalty_more c.args.score c.args.other c.is_finite.result (c.is_finite.ensures.value ∙ finite_is c.args.other) c.if-not-is_finite.false c.if-more.true

pub returns-else-more : goal.returns-else-more
returns-else-more c = penalty_nought c.args.score c.args.other c.is_finite.result (c.is_finite.ensures.value ∙ finite_is c.args.other) c.if-not-is_finite.false c.if-more.false
