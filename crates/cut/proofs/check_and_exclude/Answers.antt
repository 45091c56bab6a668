use borrow.Author.Tests.{lt-ltb}
use Rattle.std.proofs.lemmas.Result.{err_from_is_err_and}
use Rattle.cut.proofs.Cutting.{as_room}
use Rattle.cut.proofs.check_and_exclude.Goals as goal

pub returns-in_err-check : goal.returns-in_err-check
returns-in_err-check c =
    let p = err_from_is_err_and c.from_residual.result c.from_residual.ensures.1 in
    rw (p.1, p.2) (as_room (λ q. lt-ltb _ _ q) c.in_err-check.ensures)
