use Rattle.builder.proofs.Starts.{upto, upto_low, one_is, counted_more}
use lib.ListN.{length}
use native.Mathlib.Omega.{arith}
use Prim.Native.Nat.{ℕ}
use mathlib.Core.Path.{◌≡◌, sym, ap, ◌∙◌}
use Rattle.builder.proofs.count_end.Goals as goal

pub loop-start-init : goal.loop-start-init
loop-start-init c = (sym (ap (λ (k : ℕ). length (upto c.args.setting c.args.grid.now c.args.end k)) c.lowest-start.ensures ∙ ap length (upto_low c.args.setting c.args.grid.now c.args.end)), omega arith)

pub cell-requires : goal.cell-requires
cell-requires c = (omega arith, c.requires.rows)

pub loop-start-preserved : goal.loop-start-preserved
loop-start-preserved c = let (e, few) = one_is c.cell.result c.from-count.ensures in (counted_more c.args.setting c.args.grid.now c.args.end c.loop-start.start (omega (arith, c.lowest-start.ensures)) (omega arith) c.loop-start.invariant.0 (rw c.cell.ensures at e), omega arith)

pub returns : goal.returns
returns c = let e : c.loop-start.start ≡ c.args.end = omega (arith, c.lowest-start.ensures) in rw e at c.loop-start.invariant.0
