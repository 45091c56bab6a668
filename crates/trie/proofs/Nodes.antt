-- Nodes of spellings in places that hold entries: a node has one spelling, and stands in its place.
-- Assumes nothing.
use Rattle.std.specs.Prelude.{Option, Some, None}
use mathlib.Core.Path.{◌≡◌, refl, sym, ap, ◌∙◌}
use mathlib.Core.List.{List, [], ◌∷◌}
use Prim.Native.Nat.{ℕ, ◌-◌, ◌<◌}
use native.Mathlib.Nat.{lt_irrefl}
use native.Mathlib.Omega.{arith}
use Rattle.places.specs.Walk.{key_of}
use Rattle.places.specs.Map.{found_in}
use Rattle.places.specs.Entries.{Holds}
use Rattle.places.proofs.Seek.{Busy}
use Rattle.places.proofs.Table.{key_busy}
use Rattle.places.proofs.Theorems.{key_some, key_one, found_below}
use Rattle.trie.specs.Prefixes.{Small}
use Rattle.trie.specs.Trie.{step, node_at}

-- the parent of a node
pub record Parent (keys : List ℕ) (c : ℕ) (q : List ℕ) (x : ℕ) : Type 0 where
  pub node : ℕ
  pub leads : node_at keys q ≡ Some node
  pub child : found_in keys (key_of node c) ≡ Some x

pub parent : (keys : List ℕ) (c : ℕ) (q : List ℕ) (x : ℕ) → node_at keys (c ∷ q) ≡ Some x → Parent keys c q x
parent keys c q x e = go (node_at keys q) refl e
  where
    go : (f : Option ℕ) → node_at keys q ≡ f → step keys f c ≡ Some x → Parent keys c q x
    go (Some y) a b = record { node = y; leads = a; child = b }
    go None a b = let z : ◌≡◌ {A = ℕ} 0 1 = cc in absurd (omega arith)

pub child_of : (keys : List ℕ) (c : ℕ) (q : List ℕ) {y : ℕ} → node_at keys q ≡ Some y → node_at keys (c ∷ q) ≡ found_in keys (key_of y c)
child_of keys c q e = ap (λ (f : Option ℕ). step keys f c) e

module _ (keys entries : List ℕ) (h : Holds keys entries) where
  pub node_stands : (c : ℕ) (q : List ℕ) (x : ℕ) → node_at keys (c ∷ q) ≡ Some x → (0 < x) × Busy keys (x - 1)
  node_stands c q x e =
      let o = parent keys c q x e in
      let (l, s) = found_below keys entries h (key_of o.node c) x (key_some o.node c) o.child in
      (l, key_busy keys (key_of o.node c) (x - 1) (key_some o.node c) s)

  root_only : (d : ℕ) (r : List ℕ) (x : ℕ) → Some 0 ≡ Some x → node_at keys (d ∷ r) ≡ Some x → ⊥
  root_only d r x e f = let z : 0 ≡ x = cc in lt_irrefl 0 (omega (arith, (node_stands d r x f).0))

  pub node_one : (p r : List ℕ) (x : ℕ) → Small p → Small r → node_at keys p ≡ Some x → node_at keys r ≡ Some x → p ≡ r
  node_one [] [] x s t e f = refl
  node_one [] (d ∷ r) x s t e f = absurd (root_only d r x e f)
  node_one (c ∷ q) [] x s t e f = absurd (root_only c q x f e)
  node_one (c ∷ q) (d ∷ r) x s t e f =
      let o = parent keys c q x e in
      let u = parent keys d r x f in
      let a = (found_below keys entries h (key_of o.node c) x (key_some o.node c) o.child).1 in
      let b = (found_below keys entries h (key_of u.node d) x (key_some u.node d) u.child).1 in
      let (y, z) = key_one o.node u.node c d s.0 t.0 (sym a ∙ b) in
      let w : q ≡ r = node_one q r o.node s.1 t.1 o.leads (u.leads ∙ ap (λ (i : ℕ). Some i) (sym y)) in
      cc
