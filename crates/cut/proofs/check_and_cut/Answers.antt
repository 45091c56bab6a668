use native.Mathlib.Omega.{arith}
use mathlib.Core.Path.{refl}
use Rattle.std.proofs.lemmas.Result.{err_from_is_err_and}
use Rattle.cut.proofs.Cutting.{refused_so, has_rooms}
use Rattle.cut.specs.Cut.{no_slots}
use Rattle.cut.proofs.check_and_cut.Goals as goal

pub returns-in_err-check : goal.returns-in_err-check
returns-in_err-check c =
    let p = err_from_is_err_and c.from_residual.result c.from_residual.ensures.1 in
    rw (p.1, p.2) (refused_so _ c.args.best.now c.args.back.now c.args.path.now c.rooms.result c.rooms.ensures c.in_err-check.ensures, refl)

pub returns-then-path-lattice : goal.returns-then-path-lattice
returns-then-path-lattice c =
    let o = c.in_ok-check.ensures in
    (no_slots o.formed o.scored (has_rooms _ c.args.best.now c.args.back.now c.args.path.now c.rooms.result c.rooms.ensures o) (omega arith), refl)
