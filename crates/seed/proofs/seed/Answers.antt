use Rattle.seed.proofs.Top.{finding_all, exceeds, listing, lists}
use mathlib.Core.Path.{◌≡◌, ◌∙◌}
use native.Mathlib.Omega.{arith}
use Prim.Native.Nat.{◌*◌, max}
use lib.Seq.{length_front}
use Rattle.seed.proofs.seed.Goals as goal
use Rattle.seed.proofs.seed.Goals.{After-max}

-- the longest text of a position
reach : (c : After-max) → c.max.result ≡ max 1 c.args.setting
reach c = omega (arith, c.max.ensures)

pub find_all-found-requires : goal.find_all-found-requires
find_all-found-requires c =
    let a = c.args in
    finding_all c.requires (reach (goal.at.find_all-found-requires c).After-max) c.gather_in_order-n.ensures c.gather_in_order-n.auto.order a.pieces.now a.counts.now a.scores.now c.slots-room.ensures c.gather_in_order-n.auto.work

pub returns-then-room-size : goal.returns-then-room-size
returns-then-room-size c =
    let a = c.args in
    exceeds c.requires (reach (goal.at.returns-then-room-size c).After-max) c.gather_in_order-n.ensures c.gather_in_order-n.auto.order a.pieces.now a.counts.now a.scores.now c.slots-room.ensures c.find_all-found.ensures c.if-room-size.true

pub list-many-requires : goal.list-many-requires
list-many-requires c =
    let a = c.args in
    listing c.requires (reach (goal.at.list-many-requires c).After-max) c.gather_in_order-n.ensures c.gather_in_order-n.auto.order a.pieces.now a.counts.now a.scores.now c.slots-room.ensures c.find_all-found.ensures (omega (arith, c.if-room-size.false)) a.pool c.gather_in_order-n.auto.order (c.find_all-found.auto.common ∙ c.gather_in_order-n.auto.work) c.find_all-found.auto.weights

pub returns : goal.returns
returns c =
    let a = c.args in
    lists c.requires (reach (goal.at.returns c).After-max) c.gather_in_order-n.ensures c.gather_in_order-n.auto.order a.pieces.now a.counts.now a.scores.now c.slots-room.ensures c.find_all-found.ensures (omega (arith, c.if-room-size.false)) a.pool (c.list-many.auto.pieces ∙ length_front a.pieces.now c.find_all-found.new.pieces (2 * c.slots-room.result) c.find_all-found.auto.pieces) c.list-many.ensures
