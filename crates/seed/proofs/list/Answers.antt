use Rattle.seed.proofs.Slices.{writing, listed_now}
use Rattle.seed.proofs.list.Goals as goal

pub write-requires : goal.write-requires
write-requires c = writing c.requires c.rank_both.ensures c.rank_both.auto.pieces c.rank_both.auto.counts c.kept-many.ensures

pub returns : goal.returns
returns c = listed_now c.requires c.rank_both.ensures c.rank_both.auto.pieces c.rank_both.auto.counts c.kept-many.ensures c.write.ensures
