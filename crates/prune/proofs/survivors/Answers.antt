-- `prune::survivors` meets its contract: rank, mark the first of them, and number those marked.
-- Assumes nothing.
use Rattle.prune.proofs.Pruned.{chosen_each, pruned}
use Rattle.prune.proofs.survivors.Goals as goal

pub mark-requires : goal.mark-requires
mark-requires c = chosen_each c.requires c.clamp-count.result c.rank.ensures c.rank.auto.work (c.fill.ensures.after (λ _ e. e))

pub returns-clause-remap_after : goal.returns-clause-remap_after
returns-clause-remap_after c = pruned c.requires c.args.keep c.clamp-count.ensures c.rank.ensures c.rank.auto.work (c.fill.ensures.after (λ _ e. e)) c.mark.ensures c.renew_all.ensures
