-- `prune::rank` meets its contract: turned losses sort as losses fall.
-- Assumes nothing.
use native.Mathlib.Omega.{arith}
use Rattle.prune.proofs.Ranks.{rank_call, rank_done}
use Rattle.prune.proofs.rank.Goals as goal

pub sort-requires : goal.sort-requires
sort-requires c = rank_call c.requires c.turn.ensures c.fill_ids.ensures

pub returns : goal.returns
returns c = rank_done c.requires c.turn.ensures c.fill_ids.ensures (λ i h. grind arith) c.sort.ensures
