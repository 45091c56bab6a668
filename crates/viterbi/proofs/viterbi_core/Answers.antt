use mathlib.Core.Path.{sym}
use Rattle.viterbi.proofs.Found.{answers}
use Rattle.viterbi.proofs.viterbi_core.Goals as goal

pub returns-clause-answers : goal.returns-clause-answers
returns-clause-answers c =
    let a = c.args in
    let p = c.path_core-count.ensures in
    rw c.then_some.ensures (answers a.lattice.now.offsets.now a.lattice.now.starts.now a.lattice.now.ids.now a.scores.now a.lattice.now.n c.requires.asked.well_formed c.requires.asked.scored _ _ p.best_after _ _ _ p.value p.out_after c.is_finite.result (sym c.is_finite.ensures))
