use mathlib.Core.Path.{sym}
use Rattle.std.proofs.lemmas.Result.{err_from_is_err_and}
use Rattle.cut.proofs.Cutting.{no_score}
use Rattle.cut.proofs.cut_core.Goals as goal

pub returns-in_err-score : goal.returns-in_err-score
returns-in_err-score c =
    let p = err_from_is_err_and c.from_residual.result c.from_residual.ensures.1 in
    rw (p.1, p.2) (no_score c.requires _ _ (sym c.in_err-score.ensures.value) c.viterbi_core-cutting.ensures.answers)
