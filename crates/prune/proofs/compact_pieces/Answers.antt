-- `prune::compact_pieces` meets its contract: a piece is two numbers.
-- Assumes nothing.
use Rattle.prune.proofs.Spread.{spread_two, pairs_survive}
use Rattle.prune.proofs.compact_pieces.Goals as goal

pub returns-clause-result_value : goal.returns-clause-result_value
returns-clause-result_value c = rw (c.compact.ensures.value, spread_two) (pairs_survive c.args.remap.now c.args.pieces.now c.requires)

pub returns-clause-pieces_after : goal.returns-clause-pieces_after
returns-clause-pieces_after c = rw spread_two at c.compact.ensures.items_after
