use Rattle.scores.proofs.Floats.{le_zero}
use lib.Ieee.{of_bits}
use Rattle.lent.proofs.zero_or_below.Goals as goal

pub returns : goal.returns
unfolding of_bits
returns c = le_zero c.args.score
