use mathlib.Core.Path.{sym, ◌∙◌}
use native.Mathlib.Omega.{arith}
use Rattle.scores.specs.Cuts.{Lattice}
use Rattle.scores.specs.Table.{best_cut}
use Rattle.scores.specs.Floats.{f64s}
use lib.Ieee.{Float}
use Rattle.viterbi.specs.Slices.{lattice_of}
use Rattle.viterbi.proofs.Passed.{Passed, passed, both_behind}
use Rattle.viterbi.proofs.Paths.{has_walk, short_walk, spells, spells_none}
use Rattle.viterbi.proofs.path_core.Goals as goal
use Rattle.viterbi.proofs.path_core.Goals.{After-forward}

abbrev lattice : After-forward → Lattice Float
lattice c = lattice_of c.args.lattice.now.offsets.now c.args.lattice.now.starts.now c.args.lattice.now.ids.now c.args.scores.now

-- what the forward pass leaves
pass : (c : After-forward) → Passed (lattice c) c.args.lattice.now.n c.args.best.now c.forward.new.best c.args.back.now c.forward.new.back
pass c = passed c.args.lattice.now.offsets.now c.args.lattice.now.starts.now c.args.lattice.now.ids.now c.args.scores.now c.args.lattice.now.n _ _ _ _ c.forward.ensures.best_after c.forward.ensures.back_after

pub count_back-count-requires-clause-by_index : goal.count_back-count-requires-clause-by_index
count_back-count-requires-clause-by_index c =
    let s = (goal.at.count_back-count-requires-clause-by_index c).After-forward in
    (best_cut f64s (lattice s) c.args.lattice.now.n, has_walk _ _ _ _ _ c.requires.well_formed _ _ _ _ (pass s) (sym c.is_finite.ensures ∙ c.if-is_finite.true))

pub write_back-requires : goal.write_back-requires
write_back-requires c =
    let s = (goal.at.write_back-requires c).After-forward in
    let above = sym c.is_finite.ensures ∙ c.if-is_finite.true in
    let fits = short_walk _ _ _ _ _ c.requires.well_formed _ _ _ _ (pass s) above in
    let way = has_walk _ _ _ _ _ c.requires.well_formed _ _ _ _ (pass s) above in
    let edges = best_cut f64s (lattice s) c.args.lattice.now.n in
    let count = c.count_back-count.ensures edges way in
    record { n_in_bounds = omega arith; count_in_bounds = omega arith; by_index = (edges, way, sym count) }

pub returns-then-is_finite : goal.returns-then-is_finite
returns-then-is_finite c =
    let a = (goal.at.returns-then-is_finite c).After-forward in
    let above = sym c.is_finite.ensures ∙ c.if-is_finite.true in
    let way = has_walk _ _ _ _ _ c.requires.well_formed _ _ _ _ (pass a) above in
    let edges = best_cut f64s (lattice a) c.args.lattice.now.n in
    let s = spells _ _ _ _ _ c.requires.well_formed _ _ _ _ (pass a) above _ _ _ (c.count_back-count.ensures edges way) (c.write_back.ensures edges way) in
    record { value = s.0; out_after = s.1; best_after = (pass a).best_is; behind = both_behind (lattice a) c.args.lattice.now.n _ _ _ _ (pass a) }

pub returns-else-is_finite : goal.returns-else-is_finite
returns-else-is_finite c =
    let a = (goal.at.returns-else-is_finite c).After-forward in
    let s = spells_none _ _ _ _ _ c.requires.well_formed _ _ _ _ (pass a) (sym c.is_finite.ensures ∙ c.if-is_finite.false) c.args.out.now in
    record { value = s.0; out_after = s.1; best_after = (pass a).best_is; behind = both_behind (lattice a) c.args.lattice.now.n _ _ _ _ (pass a) }
