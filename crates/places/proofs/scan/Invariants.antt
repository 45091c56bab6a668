-- `places::scan` meets its contract: what is left of the places decides.
-- Assumes nothing.
use Rattle.places.proofs.Seek.{Scanning}
use Rattle.places.proofs.scan.Given as goal

abbrev pub invariant-loop-p : goal.invariant-loop-p
invariant-loop-p l = Scanning l.keys l.key l.from l.to l.p
