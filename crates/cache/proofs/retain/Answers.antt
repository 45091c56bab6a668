use mathlib.Core.Path.{refl}
use Rattle.cache.specs.Retain.{bad_lattice}
use Rattle.cache.proofs.Refusing.{why_remap, fits_remap}
use Rattle.std.proofs.lemmas.Result.{err_from_is_err_and}
use Rattle.cache.proofs.retain.Goals as goal

pub prune-requires : goal.prune-requires
prune-requires c = c.in_default.ensures

pub returns-in-Err : goal.returns-in-Err
returns-in-Err c = (bad_lattice c.in-Err.ensures, record { offsets_kept = refl; starts_kept = refl; ids_kept = refl; spans_kept = refl })

pub returns-in_err-check_remap : goal.returns-in_err-check_remap
returns-in_err-check_remap c =
    let p = err_from_is_err_and c.from_residual.result c.from_residual.ensures.1 in
    rw (p.1, p.2) (why_remap _ c.in_default.ensures c.in_err-check_remap.ensures, record { offsets_kept = refl; starts_kept = refl; ids_kept = refl; spans_kept = refl })

pub returns : goal.returns
returns c = (c.in_default.ensures, fits_remap c.in_ok-check_remap.ensures, c.prune.ensures)
