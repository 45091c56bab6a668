-- `em::em` meets its contract: expectation, then maximization.
-- Assumes nothing.
use Rattle.em.proofs.Times.{em_is}
use Rattle.em.proofs.em.Goals as goal

pub returns : goal.returns
returns c = λ lattices held. em_is lattices c.args.frequencies.now c.args.scores.now c.expect.new.expected (c.expect.ensures lattices held) c.maximize.ensures
