use Rattle.fresh.proofs.Building.{unchanged}
use Rattle.fresh.specs.Build.{not_in_order}
use Rattle.std.proofs.lemmas.Result.{err_from_is_err_and}
use Rattle.cache.proofs.check_and_build.Goals as goal

pub index_and_lay-requires : goal.index_and_lay-requires
index_and_lay-requires c = (c.args.table.now, c.in_ok-check.ensures)

pub returns-in_err-check : goal.returns-in_err-check
returns-in_err-check c =
    let p = err_from_is_err_and c.from_residual.result c.from_residual.ensures.1 in
    rw (p.1, p.2) (not_in_order c.in_err-check.ensures, unchanged (record { offsets = c.args.offsets.now; starts = c.args.starts.now; ids = c.args.ids.now; spans = c.args.spans.now }))

pub returns : goal.returns
returns c = c.index_and_lay.ensures c.args.table.now c.in_ok-check.ensures
