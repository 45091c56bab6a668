-- Lists one after the other, and how many offsets a lattice has. Assumes nothing.
use mathlib.Core.Path.{◌≡◌, refl, sym, ap, ◌∙◌}
use mathlib.Core.List.{List, [], ◌∷◌, ◌++◌, append_assoc}
use Prim.Native.Nat.{ℕ, suc, ◌+◌}
use lib.ListN.{length}
use Rattle.lattice.specs.Lattice.{Edge}
use Rattle.lattice.specs.Layout.{joined, offsets_from}

pub joined_append : {A : Type 0} (a b : List (List A)) → joined (a ++ b) ≡ joined a ++ joined b
joined_append [] b = refl
joined_append (l ∷ ls) b = ap (λ r. l ++ r) (joined_append ls b) ∙ sym (append_assoc l (joined ls) (joined b))

pub offsets_long : (at : ℕ) (lattice : List (List Edge)) → length (offsets_from at lattice) ≡ suc (length lattice)
offsets_long at [] = refl
offsets_long at (row ∷ rows) = ap suc (offsets_long (at + length row) rows)
