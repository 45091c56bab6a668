-- What a reader expects of cuts, and small examples. Assumes nothing.
use mathlib.Core.Path.{◌≡◌, refl}
use mathlib.Core.Bool.{Bool, true, false}
use mathlib.Core.List.{List, [], ◌∷◌}
use Prim.Native.Nat.{ℕ}
use native.Mathlib.Omega.{arith}
use Rattle.laws.specs.Tests.{Says}
use Rattle.connected.specs.Cut.{Cut, Connected}

-- an answer that says whether P holds is the only one
pub one_answer : (P : Type 0) (r s : Bool) → Says r P → Says s P → r ≡ s
one_answer P true true p q = refl
one_answer P true false p q = absurd (q p)
one_answer P false true p q = absurd (p q)
one_answer P false false p q = refl

-- "the empty word has one", and it has no edges
pub empty : (offsets starts : List ℕ) → Connected offsets starts 0
empty offsets starts = record { edges = []; cut = refl }

-- document 01's lattice of aba: the edges 0,1; 0,2; 1,2; 1,3; 2,3. The cut a, ba is its edges 3 and 0.
abbrev aba_offsets : List ℕ
aba_offsets = 0 ∷ 0 ∷ 1 ∷ 3 ∷ 5 ∷ []

abbrev aba_starts : List ℕ
aba_starts = 0 ∷ 0 ∷ 1 ∷ 1 ∷ 2 ∷ []

pub aba : Cut aba_offsets aba_starts 3 (3 ∷ 0 ∷ [])
aba = (omega arith, omega arith, (omega arith, omega arith, refl))

-- "A character that no edge covers leaves the word with no cut": ab, where only a is a piece
pub uncovered : Connected (0 ∷ 0 ∷ 1 ∷ 1 ∷ []) (0 ∷ []) 2 → ⊥
uncovered c = go c.edges c.cut
  where
    go : (ks : List ℕ) → Cut (0 ∷ 0 ∷ 1 ∷ 1 ∷ []) (0 ∷ []) 2 ks → ⊥
    go [] c = omega arith
    go (k ∷ ks) c = let a = c.0 in let b = c.1 in omega arith
