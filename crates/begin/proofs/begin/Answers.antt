-- `begin::begin` meets its contract: `start` is lent as many scores as there are slots of both kinds.
-- Assumes nothing.
use mathlib.Core.Path.{refl}
use lib.ListN.{drop}
use Rattle.begin.proofs.Seeded.{in_scores}
use Rattle.shrink.proofs.Cut.{cut_long}
use Rattle.begin.proofs.begin.Goals as goal

pub slice_bounds-start-end : goal.slice_bounds-start-end
slice_bounds-start-end c = in_scores c.args.scores.now c.args.slots _ c.min-most.ensures

pub slice_bounds-start-end-2 : goal.slice_bounds-start-end-2
slice_bounds-start-end-2 c = cut_long _ c.args.scores.now (in_scores c.args.scores.now c.args.slots _ c.min-most.ensures)

pub returns-clause-begun : goal.returns-clause-begun
returns-clause-begun c =
    record {
      tallies = c.start-started.new.tallies;
      front = c.start-started.new.scores;
      rest = drop c.min-most.result c.args.scores.now;
      scores_are = refl;
      answers = rw c.min-most.ensures at c.start-started.ensures;
    }
