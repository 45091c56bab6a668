use Rattle.std.proofs.Common.{arith}
use Rattle.prune.specs.Compact.{spread}
use Rattle.prune.proofs.Closing.{closing_none, closing_count, closing_all}
use Rattle.prune.proofs.Spread.{spread_long, spread_lives, spread_gone}
use Rattle.prune.proofs.compact.Goals as goal
use Rattle.prune.proofs.compact.Goals.{then-remap-item, else-remap-item}

pub loop-item-init : goal.loop-item-init
loop-item-init g c = closing_none (spread g.row.WIDTH c.args.remap.now) c.args.items.now (omega (arith, spread_long g.row.WIDTH c.args.remap.now))

pub loop-item-preserved : goal.loop-item-preserved
loop-item-preserved g c =
    elim c.if-remap-item.branch [
      | then-remap-item w ↦ rw (w.items-is, w.write-is) (spread_lives g.row.WIDTH c.args.remap.now c.requires.some c.loop-item.invariant (omega arith) w.index-items-item.result w.index-items-item.is w.if-remap-item.true)
      | else-remap-item w ↦ rw (w.items-is, w.write-is) (spread_gone g.row.WIDTH c.args.remap.now c.requires.some c.loop-item.invariant (omega arith) w.if-remap-item.false)
    ]

pub returns-clause-value : goal.returns-clause-value
returns-clause-value g c = closing_count c.loop-item.invariant (omega (arith, spread_long g.row.WIDTH c.args.remap.now))

pub returns-clause-items_after : goal.returns-clause-items_after
returns-clause-items_after g c = closing_all c.loop-item.invariant (omega (arith, spread_long g.row.WIDTH c.args.remap.now))
