-- A cache that was built is one that retain takes: each lattice has a row, and each id is that of a piece. Assumes nothing.
use mathlib.Core.Path.{◌≡◌, refl, sym, subst}
use mathlib.Core.List.{List, [], ◌∷◌}
use mathlib.Core.Option.{Option, none, some}
use Prim.Native.Nat.{ℕ, zero, suc, ◌<◌}
use native.Mathlib.Nat.{le_of_suc-le-suc, not-suc-le-zero}
use native.Mathlib.Omega.{arith}
use lib.ListN.{length, get_or, length-append, length-map}
use Rattle.lattice.specs.Lattice.{Edge, between, edge_id, edge, starting, ending, rows, lattice, cache}
use Rattle.lattice.specs.Layout.{joined}
use Rattle.lattice.proofs.Spelling.{found}
use Rattle.lattice.proofs.Edges.{within}
use Rattle.lattice.specs.Written.{Begins}
use Rattle.retain.specs.Retain.{Laid}
use Rattle.retain.proofs.Below.{Below, no_edge, one_more, both, entries_below}
use Rattle.lattice.proofs.Joined.{joined_append}
use Rattle.lattice.proofs.Flat.{edges}

-- ---- those of the edges that pieces spell
in_edge : (n s : ℕ) (o : Option ℕ) → ((k : ℕ) → o ≡ some k → k < n) → Below n (edge s o)
in_edge n s none h = no_edge
in_edge n s (some k) h = one_more (h k refl) no_edge

in_starting : (n : ℕ) (f : ℕ → Option ℕ) → ((s k : ℕ) → f s ≡ some k → k < n) → (j : ℕ) → Below n (starting f j)
in_starting n f h zero = no_edge
in_starting n f h (suc j) = both (in_starting n f h j) (in_edge n j (f j) (h j))

in_rows : (n : ℕ) (f : ℕ → List Edge) → ((p : ℕ) → Below n (f p)) → (j : ℕ) → Below n (joined (rows f j))
in_rows n f h zero = no_edge
in_rows n f h (suc j) = subst (Below n) (sym (joined_append (rows f j) (f j ∷ []))) (both (in_rows n f h j) (both (h j) no_edge))

module _ (setting : ℕ) (pieces : List (List ℕ)) where
  in_lattice : (word : List ℕ) → Below (length pieces) (joined (lattice setting pieces word))
  in_lattice word =
      in_rows (length pieces) (ending setting pieces word)
      (λ p. in_starting (length pieces) (edge_id setting pieces word p) (λ s k e. (found pieces (between word s p) k (within setting pieces word p s k e).1).inside) p)
      (suc (length word))

  in_cache : (words : List (List ℕ)) → Below (length pieces) (edges (cache setting pieces words))
  in_cache [] = no_edge
  in_cache (word ∷ words) = subst (Below (length pieces)) (sym (joined_append (lattice setting pieces word) (joined (cache setting pieces words)))) (both (in_lattice word) (in_cache words))

  -- ---- a row for each position, 0 too
  a_row : (words : List (List ℕ)) (k : ℕ) → k < length words → 0 < length (get_or (cache setting pieces words) k [])
  a_row [] k h = absurd (not-suc-le-zero h)
  a_row (word ∷ words) zero h = let f = ending setting pieces word in let n = length-append (rows f (length word)) (f (length word) ∷ []) in omega arith
  a_row (word ∷ words) (suc k) h = a_row words k (le_of_suc-le-suc h)

  pub built : {remap offs s i sp : List ℕ} (words : List (List ℕ)) → length remap ≡ length pieces → Begins (cache setting pieces words) offs s i sp → Laid (length words) remap offs s i sp (cache setting pieces words)
  built {remap} {offs} {s} {i} {sp} words l b =
      record {
        many = length-map words (lattice setting pieces);
        rows = a_row words;
        begins = b;
        entries = entries_below remap i (cache setting pieces words) l (in_cache words) b.ids_begin;
      }
