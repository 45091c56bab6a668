use native.Mathlib.Omega.{arith}
use Rattle.std.proofs.lemmas.Result.{err_from_is_err_and}
use Rattle.one_word.proofs.Checking.{refused_so, bad_at, missing_at, in_order}
use Rattle.one_word.proofs.check.Goals as goal

pub returns-in_err-check : goal.returns-in_err-check
returns-in_err-check c =
    let p = err_from_is_err_and c.from_residual.result c.from_residual.ensures.1 in
    rw (p.1, p.2) (refused_so _ c.requires c.in_err-check.ensures)

pub returns-in-Err : goal.returns-in-Err
returns-in-Err c = bad_at _ c.requires c.in_ok-check.ensures c.in-Err.ensures

pub returns-then-scores-count : goal.returns-then-scores-count
returns-then-scores-count c = missing_at _ c.requires c.in_ok-check.ensures c.in_default.ensures (let e = c.count.ensures in omega arith)

pub returns : goal.returns
returns c = in_order _ c.requires c.in_ok-check.ensures c.in_default.ensures (let e = c.count.ensures in omega arith)
