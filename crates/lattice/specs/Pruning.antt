-- Pruning: a remap says of each piece its new id, or that it is gone. Definitions only.
use Rattle.std.specs.Prelude.{◌≡◌, cond, List, [], ◌∷◌, ◌++◌, map, ℕ, suc, eqb, length, get_or}
use Rattle.std.proofs.Math.Option.{Option, none, some}
use Rattle.lattice.specs.Lattice.{Edge, edge}

-- `u32::MAX`
abbrev pub gone : ℕ
gone = 0xffff_ffff

-- each entry is `u32::MAX` or the count of survivors before it; `from` survivors stand before the first
pub data Remap : ℕ → List ℕ → Type 0 where
  no_entry : {from : ℕ} → Remap from []
  dropped : {from : ℕ} {remap : List ℕ} → Remap from remap → Remap from (gone ∷ remap)
  kept : {from : ℕ} {remap : List ℕ} → (from ≡ gone → ⊥) → Remap (suc from) remap → Remap from (from ∷ remap)

-- the pieces that are left, in their order
abbrev pub survivors : List ℕ → List (List ℕ) → List (List ℕ)
survivors [] ps = []
survivors (r ∷ rs) [] = []
survivors (r ∷ rs) (p ∷ ps) = cond (eqb r gone) (survivors rs ps) (p ∷ survivors rs ps)

-- an id's new one
abbrev pub renew : List ℕ → ℕ → Option ℕ
renew remap id = cond (eqb (get_or remap id 0) gone) none (some (get_or remap id 0))

-- the edges that are left, in their order, with their new ids
abbrev pub sift : List ℕ → List Edge → List Edge
sift remap [] = []
sift remap (e ∷ es) = edge e.start (renew remap e.id) ++ sift remap es

-- a cache with every lattice pruned
abbrev pub retained : List ℕ → List (List (List Edge)) → List (List (List Edge))
retained remap lattices = map (map (sift remap)) lattices

-- ---- any number of prunings, one after the other
-- each remap is one of the pieces that the remaps before it left
pub data Prunings : List (List ℕ) → List (List ℕ) → Type 0 where
  no_pruning : {pieces : List (List ℕ)} → Prunings pieces []
  one_more : {pieces : List (List ℕ)} {remap : List ℕ} {remaps : List (List ℕ)} → Remap 0 remap → length remap ≡ length pieces → Prunings (survivors remap pieces) remaps → Prunings pieces (remap ∷ remaps)

abbrev pub survivors_of : List (List ℕ) → List (List ℕ) → List (List ℕ)
survivors_of [] pieces = pieces
survivors_of (remap ∷ remaps) pieces = survivors_of remaps (survivors remap pieces)

abbrev pub retained_by : List (List ℕ) → List (List (List Edge)) → List (List (List Edge))
retained_by [] lattices = lattices
retained_by (remap ∷ remaps) lattices = retained_by remaps (retained remap lattices)
