use mathlib.Core.Path.{refl}
use lib.ListN.{get_or}
use lib.Ieee.{nan}
use Rattle.losses.proofs.Filling.{its_loss, put_more, put_all}
use native.Mathlib.Omega.{arith}
use Rattle.losses.proofs.losses.Goals as goal

pub loop-id-preserved : goal.loop-id-preserved
loop-id-preserved c =
    put_more c.args.text.now c.args.pieces.now c.args.setting c.args.scores.now c.args.uses.now c.loop-id.invariant (omega arith) c.loss-cost.result (its_loss c.args.text.now c.args.pieces.now c.args.setting c.args.scores.now c.args.uses.now c.loop-id.id (omega arith) (get_or c.args.uses.now c.loop-id.id nan) refl c.loss-cost.ensures) c.bits.result c.bits.ensures

pub returns : goal.returns
returns c = put_all c.args.text.now c.args.pieces.now c.args.setting c.args.scores.now c.args.uses.now c.loop-id.invariant (omega arith) c.requires.slots
