-- `prune::compact_scores` meets its contract: a piece has one score.
-- Assumes nothing.
use Rattle.prune.proofs.Spread.{spread_one}
use Rattle.prune.proofs.compact_scores.Goals as goal

pub returns-clause-value : goal.returns-clause-value
returns-clause-value c = rw spread_one at c.compact.ensures.value

pub returns-clause-scores_after : goal.returns-clause-scores_after
returns-clause-scores_after c = rw spread_one at c.compact.ensures.items_after
