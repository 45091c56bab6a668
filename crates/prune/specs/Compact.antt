-- What is left of a list of one item a piece, and of two. Definitions only.
use Rattle.std.specs.Prelude.{cond, List, [], ◌∷◌, ◌++◌, eqb, length, drop, replicate, ℕ}
use Rattle.lattice.specs.Pruning.{gone}

-- the survivors' items, in their order: crate lattice's `survivors`, of any items
abbrev pub surviving : {A : Type 0} → List ℕ → List A → List A
surviving [] l = []
surviving (r ∷ rs) [] = []
surviving (r ∷ rs) (x ∷ l) = cond (eqb r gone) (surviving rs l) (x ∷ surviving rs l)

-- they stand at the front; what stands behind is as it was
abbrev pub compacted : {A : Type 0} → List ℕ → List A → List A
compacted remap l = surviving remap l ++ drop (length (surviving remap l)) l

-- a piece is two numbers, and its remap's entry is the entry of both
abbrev pub twice : List ℕ → List ℕ
twice [] = []
twice (r ∷ rs) = r ∷ r ∷ twice rs

-- each entry so many times, and so `twice` twice: proofs/Spread.antt
abbrev pub spread : ℕ → List ℕ → List ℕ
spread width [] = []
spread width (r ∷ rs) = replicate width r ++ spread width rs
