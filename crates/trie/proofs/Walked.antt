-- What a walk finds at each character, for whoever walks: the next node and the piece that ends there, or no longer piece.
-- Assumes nothing.
use Rattle.std.specs.Prelude.{Option, Some, None}
use mathlib.Core.Path.{◌≡◌, sym, ap, ◌∙◌}
use mathlib.Core.List.{List}
use Prim.Native.Nat.{ℕ, zero, suc, ◌+◌, ◌-◌, ◌≤◌, ◌<◌}
use native.Mathlib.Omega.{arith}
use lib.ListN.{length, get_or}
use Rattle.places.specs.Walk.{key_of}
use Rattle.places.specs.Map.{found_in}
use Rattle.places.proofs.Theorems.{key_some}
use Rattle.places.proofs.Answers.{found_range}
use Rattle.trie.specs.Prefixes.{back, id_of}
use Rattle.trie.specs.Trie.{step, node_at, is_node, Trie}
use Rattle.trie.proofs.Equal.{back_small}
use Rattle.trie.proofs.Nodes.{child_of}

-- the first k + 1 characters of w lead to the node m
pub record Stepped (keys ends : List ℕ) (pieces : List (List ℕ)) (w : List ℕ) (k m : ℕ) : Type 0 where
  pub low : 0 < m
  pub high : m ≤ length keys
  pub inside : m - 1 < length ends
  pub leads : node_at keys (back w (suc k)) ≡ Some m
  pub names : get_or ends (m - 1) 0 ≡ id_of pieces (back w (suc k))

-- where a spelling has no node, no longer one has
nothing_on : (keys w : List ℕ) (i j : ℕ) → node_at keys (back w i) ≡ None → node_at keys (back w (j + i)) ≡ None
nothing_on keys w i zero e = let z : i ≡ 0 + i = omega arith in ap (λ (k : ℕ). node_at keys (back w k)) (sym z) ∙ e
nothing_on keys w i (suc j) e =
    let z : suc j + i ≡ suc (j + i) = omega arith in
    ap (λ (k : ℕ). node_at keys (back w k)) z ∙ ap (λ (f : Option ℕ). step keys f (get_or w (j + i) 0)) (nothing_on keys w i j e)

-- w is what is walked along; its first k characters lead to a node
module _ {keys ends : List ℕ} {prefixes pieces : List (List ℕ)} (t : Trie keys ends prefixes pieces) (w : List ℕ) (small : (i : ℕ) → i < length w → get_or w i 0 < 4294967295) {k node : ℕ} (leads : node_at keys (back w k) ≡ Some node) (l : k < length w) where
  -- one character on
  pub step_on : {m : ℕ} → found_in keys (key_of node (get_or w k 0)) ≡ Some m → Stepped keys ends pieces w k m
  step_on {m} e =
      let r = found_range keys (key_of node (get_or w k 0)) (key_some node (get_or w k 0)) e in
      let lead : node_at keys (back w (suc k)) ≡ Some m = child_of keys (get_or w k 0) (back w k) leads ∙ e in
      let z : m ≡ suc (m - 1) = omega arith in
      record {
        low = r.0;
        high = r.1;
        inside = omega (arith, t.level);
        leads = lead;
        names = t.names (get_or w k 0) (m - 1) (back w k) (back_small w (suc k) small (omega arith)) (lead ∙ ap (λ (n : ℕ). Some n) z);
      }

  -- "the walk stops at the first character no piece continues": no piece is spelt by more characters
  pub step_off : found_in keys (key_of node (get_or w k 0)) ≡ None → (j : ℕ) → k ≤ j → j < length w → id_of pieces (back w (suc j)) ≡ 0
  step_off e j h m =
      let a : node_at keys (back w (suc k)) ≡ None = child_of keys (get_or w k 0) (back w k) leads ∙ e in
      let z : j - k + suc k ≡ suc j = omega arith in
      let b : node_at keys (back w (suc j)) ≡ None = ap (λ (i : ℕ). node_at keys (back w i)) (sym z) ∙ nothing_on keys w (suc k) (j - k) a in
      let s = back_small w (suc j) small (omega arith) in
      t.only (get_or w j 0) (back w j) (sym (t.known (get_or w j 0) (back w j) s) ∙ ap is_node b)
