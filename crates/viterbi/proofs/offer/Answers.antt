use Rattle.viterbi.specs.Slices.{seen}
use Rattle.viterbi.proofs.Offers.{offers_nothing}
use Rattle.viterbi.proofs.offer.Goals as goal

pub returns-then-id-excluded : goal.returns-then-id-excluded
returns-then-id-excluded c = offers_nothing c.args.lattice.now.starts.now c.args.lattice.now.ids.now c.args.scores.now c.args.best.now c.args.excluded (seen c.args.choice) c.args.k c.requires.id_in c.if-id-excluded.true
