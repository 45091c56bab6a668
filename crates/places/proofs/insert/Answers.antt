-- `places::insert` meets its contract: the key is there; or the place is another's, or there is no room; or it goes there.
-- Assumes nothing.
use Rattle.std.proofs.Common.{sym, refl, eqb-true}
use Rattle.places.proofs.Ways.{inserted_nowhere, inserted_old, inserted_full, inserted_half, inserted_new}
use Rattle.places.proofs.Theorems.{key_some, inserts}
use Rattle.places.specs.Walk.{key_of}
use Rattle.places.proofs.insert.Goals as goal
use Rattle.places.proofs.insert.Goals.{then-there-ne0-via-then-there-ne0, then-there-ne0-via-else-there-ne0+then-not-room}

as_value_keys_after_inserts : {A B C : Type 0} → A × (B × C) → record { value : A; keys_after : B; inserts : C }
as_value_keys_after_inserts t = record { value = t.0; keys_after = t.1.0; inserts = t.1.1 }

pub returns-then-is_empty : goal.returns-then-is_empty
returns-then-is_empty c = as_value_keys_after_inserts (inserts c.args.keys.now (key_of c.args.node c.args.character) c.args.count refl (key_some c.args.node c.args.character) (inserted_nowhere c.args.keys.now (key_of c.args.node c.args.character) c.args.count (key_some c.args.node c.args.character) (eqb-true _ 0 (sym c.if-is_empty.ensures))))

pub returns-then-there-k : goal.returns-then-there-k
returns-then-there-k c = as_value_keys_after_inserts (inserts c.args.keys.now (key_of c.args.node c.args.character) c.args.count c.key-k.ensures (key_some c.args.node c.args.character) (inserted_old c.args.keys.now c.key-k.result c.args.count c.stop-p.result c.stop-p.ensures.0 c.if-there-k.true))

pub returns-then-there-ne0 : goal.returns-then-there-ne0
returns-then-there-ne0 c = as_value_keys_after_inserts (inserts c.args.keys.now (key_of c.args.node c.args.character) c.args.count c.key-k.ensures (key_some c.args.node c.args.character) (elim c.then-there-ne0.branch [
  | then-there-ne0-via-then-there-ne0 w ↦ inserted_full c.args.keys.now c.key-k.result c.args.count c.stop-p.result c.stop-p.ensures.0 c.if-there-k.false w.if-there-ne0.true
  | then-there-ne0-via-else-there-ne0+then-not-room w ↦ inserted_half c.args.keys.now c.key-k.result c.args.count c.stop-p.result c.stop-p.ensures.0 c.if-there-k.false w.if-there-ne0.false (sym w.if-not-room.ensures)
]))

pub returns : goal.returns
returns c = as_value_keys_after_inserts (inserts c.args.keys.now (key_of c.args.node c.args.character) c.args.count c.key-k.ensures (key_some c.args.node c.args.character) (inserted_new c.args.keys.now c.key-k.result c.args.count c.stop-p.result c.stop-p.ensures.0 c.if-there-k.false c.if-there-ne0.false (sym c.if-not-room.ensures)))
