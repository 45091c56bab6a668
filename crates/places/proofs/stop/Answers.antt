-- `places::stop` meets its contract: the walk ends in the first scan or in the second.
-- Assumes nothing.
use Rattle.std.proofs.Common.{arith}
use Rattle.places.proofs.Spot.{home_in}
use Rattle.places.proofs.Ways.{stop_right, stop_left}
use Rattle.places.proofs.stop.Goals as goal

pub scan-right-requires : goal.scan-right-requires
scan-right-requires c = (omega (arith, home_in c.args.key _ c.requires.0, c.home-from.ensures), omega arith)

pub returns-then-right-keys : goal.returns-then-right-keys
returns-then-right-keys c = stop_right _ _ _ _ c.requires.0 c.home-from.ensures c.scan-right.ensures c.if-right-keys.true

pub scan-requires : goal.scan-requires
scan-requires c = (omega arith, omega (arith, home_in c.args.key _ c.requires.0, c.home-from.ensures))

pub returns : goal.returns
returns c = stop_left _ _ _ _ c.requires.0 c.home-from.ensures c.scan-right.ensures c.if-right-keys.false _ c.scan.ensures
