use mathlib.Core.Path.{refl}
use Rattle.std.proofs.lemmas.Result.{err_from_is_err_and}
use Rattle.laws.proofs.Tests.{says_true}
use Rattle.cut.proofs.Cutting.{as_room}
use Rattle.cut.proofs.check_and_sum.Goals as goal

pub returns-in_err-check : goal.returns-in_err-check
returns-in_err-check c =
    let p = err_from_is_err_and c.from_residual.result c.from_residual.ensures.1 in
    rw (p.1, p.2) (as_room (λ q. says_true c.sum_rooms-room.result c.sum_rooms-room.ensures (q.in_alpha, q.in_beta, q.in_emitted)) c.in_err-check.ensures, refl)
