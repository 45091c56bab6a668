-- `trie::grow` meets its contract: the child is there, or is made, or there is no room.
-- Assumes nothing.
use Rattle.std.proofs.Common.{◌≡◌, Option, Some, sym, ap, ◌∙◌}
use native.Mathlib.Omega.{arith}
use Rattle.trie.proofs.Grown.{grew_old, grew_new, grew_none, grew_fits}
use Rattle.trie.proofs.grow.Goals as goal

-- what an insertion answered, by the arm that was taken
told : {A : Type 0} {x y : A} {r : Option A} → x ≡ y → Some x ≡ r → Some y ≡ r
told is value = sym (ap (λ x. Some x) is) ∙ value

pub overflow_add-result : goal.overflow_add-result
overflow_add-result c = omega (arith, grew_fits c.args.keys.now c.args.node c.args.character c.args.count c.requires.1 c.insert.new.keys c.insert.ensures.keys_after c.in-New.m (told c.in-New.is c.in_ok-m.ensures.value))

pub returns-in-Old : goal.returns-in-Old
returns-in-Old c = grew_old c.args.keys.now c.args.node c.args.character c.args.count c.requires.1 c.insert.new.keys c.insert.ensures.keys_after c.in-Old.m (told c.in-Old.is c.in_ok-m.ensures.value)

pub returns-in-New : goal.returns-in-New
returns-in-New c = grew_new c.args.keys.now c.args.node c.args.character c.args.count c.requires.1 c.insert.new.keys c.insert.ensures.keys_after c.in-New.m (told c.in-New.is c.in_ok-m.ensures.value)

pub returns-in_err-m : goal.returns-in_err-m
returns-in_err-m c = rw c.from_residual.ensures (grew_none c.args.keys.now c.args.node c.args.character c.args.count c.requires.1 c.insert.new.keys c.insert.ensures.keys_after c.in_err-m.ensures.value)
