-- `copied::put` meets its contract.
-- Assumes nothing.
use mathlib.Core.Path.{refl, ap}
use Prim.Native.Nat.{ℕ, ◌*◌}
use native.Mathlib.Numerals.{add-one}
use native.Mathlib.Omega.{arith}
use lib.ListN.{length, set}
use Rattle.copied.proofs.Stores.{part_stored}
use Rattle.copied.proofs.put.Goals as goal

pub returns : goal.returns
returns c = record { bytes_are = part_stored c.args.bytes.now c.args.text.now _ c.args.at _ c.over.ensures (omega arith) c.requires.byte_room; span_is = ap (λ (i : ℕ). set (set c.args.spans.now (2 * c.args.slot) c.args.at) i (length c.args.text.now)) (add-one (2 * c.args.slot)); next = refl }
