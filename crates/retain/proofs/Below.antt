-- Edges whose ids are all below a number, and so have a remap entry each. Assumes nothing.
use mathlib.Core.Path.{◌≡◌, ap, ◌∙◌}
use mathlib.Core.List.{List, [], ◌∷◌, ◌++◌, map}
use Prim.Native.Nat.{ℕ, zero, suc, ◌<◌}
use native.Mathlib.Nat.{le_of_suc-le-suc, not-suc-le-zero}
use native.Mathlib.Omega.{arith}
use lib.ListN.{length, get_or, drop, length-map, get_or-append}
use Rattle.lattice.specs.Lattice.{Edge}
use Rattle.lattice.specs.Written.{over}
use Rattle.lattice.proofs.Flat.{edges}

pub data Below (n : ℕ) : List Edge → Type 0 where
  no_edge : Below n []
  one_more : {e : Edge} {es : List Edge} → e.id < n → Below n es → Below n (e ∷ es)

pub both : {n : ℕ} {a b : List Edge} → Below n a → Below n b → Below n (a ++ b)
both no_edge q = q
both (one_more h p) q = one_more h (both p q)

at : {n : ℕ} {es : List Edge} → Below n es → (k : ℕ) → k < length es → get_or (map (λ e. e.id) es) k 0 < n
at no_edge k h = absurd (not-suc-le-zero h)
at (one_more l p) zero h = l
at (one_more l p) (suc k) h = at p k (le_of_suc-le-suc h)

-- a slice of ids that begins with theirs
pub entries_below : {n : ℕ} (remap i : List ℕ) (lattices : List (List (List Edge))) → length remap ≡ n → Below n (edges lattices) → i ≡ over (map (λ e. e.id) (edges lattices)) i
    → (k : ℕ) → k < length (map (λ e. e.id) (edges lattices)) → get_or i k 0 < length remap
entries_below remap i lattices l p b k h =
    let ids = map (λ e. e.id) (edges lattices) in
    let n = length-map (edges lattices) (λ e. e.id) in
    let e : get_or i k 0 ≡ get_or ids k 0 = ap (λ (x : List ℕ). get_or x k 0) b ∙ get_or-append ids (drop (length ids) i) 0 k h in
    let g = at p k (omega arith) in
    omega arith
