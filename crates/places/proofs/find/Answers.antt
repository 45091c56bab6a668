-- `places::find` meets its contract: the key stands where its walk ends, or it does not.
-- Assumes nothing.
use Rattle.std.proofs.Common.{sym, refl, eqb-true}
use Rattle.places.proofs.Ways.{found_nowhere, found_old, found_none}
use Rattle.places.proofs.Theorems.{key_some, finds}
use Rattle.places.proofs.find.Goals as goal

as_value_finds : {A B : Type 0} → A × B → record { value : A; finds : B }
as_value_finds t = record { value = t.0; finds = t.1 }

pub returns-then-is_empty : goal.returns-then-is_empty
returns-then-is_empty c = as_value_finds (finds refl (key_some _ _) (found_nowhere _ _ 0 (key_some _ _) (eqb-true _ 0 (sym c.if-is_empty.ensures))))

pub returns-then-keys-p : goal.returns-then-keys-p
returns-then-keys-p c = as_value_finds (finds c.key-k.ensures (key_some _ _) (found_old _ _ 0 _ c.stop-p.ensures.0 c.if-keys-p.true))

pub returns-else-keys-p : goal.returns-else-keys-p
returns-else-keys-p c = as_value_finds (finds c.key-k.ensures (key_some _ _) (found_none _ _ 0 _ c.stop-p.ensures.0 c.if-keys-p.false))
