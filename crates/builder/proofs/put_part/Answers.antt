use native.Mathlib.Omega.{arith}
use Prim.Native.Nat.{◌+◌}
use mathlib.Core.Path.{refl}
use borrow.Rule.Slice.PartMut.{Post-is}
use Rattle.builder.proofs.put_part.Goals as goal

pub returns : goal.returns
returns c = let a = c.args in record { edges = c.put_word.ensures.edges; offsets_are = rw (c.put_word.ensures.offsets_are, Post-is a.at (a.at + (a.n + 2)) a.offsets.now (omega arith)) refl }
