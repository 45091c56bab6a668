-- `places::room` meets its contract: the test is `leb`, with its subtraction turned round.
-- Assumes nothing.
use Rattle.places.proofs.Ways.{room_never, room_test}
use Rattle.places.proofs.room.Goals as goal

pub returns-then-half-ge2 : goal.returns-then-half-ge2
returns-then-half-ge2 c = room_test _ _ c.if-half-ge2.true

pub returns-else-half-ge2 : goal.returns-else-half-ge2
returns-else-half-ge2 c = room_never _ _ c.if-half-ge2.false
