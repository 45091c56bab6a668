-- A lent cache that the crate `cached` finds well formed is one that retain takes. Assumes nothing.
use mathlib.Core.Path.{◌≡◌, refl, sym, ap, ◌∙◌, subst}
use mathlib.Core.List.{List, [], ◌∷◌, ◌++◌}
use Prim.Native.Nat.{ℕ, zero, suc, ◌<◌}
use native.Mathlib.Nat.{le_of_suc-le-suc, not-suc-le-zero}
use native.Mathlib.Omega.{arith}
use lib.ListN.{length, get_or, take, drop, take-append-drop}
use Rattle.lattice.specs.Lattice.{Edge}
use Rattle.lattice.specs.Layout.{joined}
use Rattle.formed.specs.Held.{Row, Rows}
use Rattle.cached.specs.Held.{Lattices, Held}
use Rattle.lattice.specs.Written.{over}
use Rattle.retain.specs.Retain.{Laid}
use Rattle.retain.proofs.Below.{Below, no_edge, one_more, both, entries_below}
use Rattle.lattice.proofs.Joined.{joined_append}
use Rattle.lattice.proofs.Flat.{edges}

begun : (l front : List ℕ) → take (length front) l ≡ front → l ≡ over front l
begun l front e = sym (take-append-drop (length front) l) ∙ ap (λ (x : List ℕ). x ++ drop (length front) l) e

-- ---- each id has its entry
row_below : (n end : ℕ) (es : List Edge) → Row n end es → Below n es
row_below n end [] r = no_edge
row_below n end (e ∷ es) r = one_more r.1 (row_below n end es r.3)

rows_below : (n end : ℕ) (rows : List (List Edge)) → Rows n end rows → Below n (joined rows)
rows_below n end [] r = no_edge
rows_below n end (row ∷ rows) r = both (row_below n end row r.0) (rows_below n (suc end) rows r.1)

lattices_below : (n : ℕ) (lattices : List (List (List Edge))) → Lattices n lattices → Below n (edges lattices)
lattices_below n [] h = no_edge
lattices_below n ([] ∷ ls) h = absurd h
lattices_below n ((row ∷ rows) ∷ ls) h = subst (Below n) (sym (joined_append (row ∷ rows) (joined ls))) (both (rows_below n 0 (row ∷ rows) h.0) (lattices_below n ls h.1))

-- ---- each lattice has a row
a_row : (n : ℕ) (lattices : List (List (List Edge))) → Lattices n lattices → (k : ℕ) → k < length lattices → 0 < length (get_or lattices k [])
a_row n [] h k l = absurd (not-suc-le-zero l)
a_row n ([] ∷ ls) h k l = absurd h
a_row n ((row ∷ rows) ∷ ls) h zero l = omega arith
a_row n ((row ∷ rows) ∷ ls) h (suc k) l = a_row n ls h.1 k (le_of_suc-le-suc l)

pub held_laid : {offs s i sp : List ℕ} {words : ℕ} {lattices : List (List (List Edge))} (remap : List ℕ) → Held s i offs sp (length remap) words lattices → Laid words remap offs s i sp lattices
held_laid {offs} {s} {i} {sp} {words} {lattices} remap h =
    record {
      many = h.many;
      rows = λ k l. a_row (length remap) lattices h.rows k (let e = h.many in omega arith);
      begins =
          record {
            offsets_begin = begun offs _ h.ends_are;
            starts_begin = begun s _ h.starts_are;
            ids_begin = begun i _ h.ids_are;
            spans_begin = begun sp _ h.spans_are;
          };
      entries = entries_below remap i lattices refl (lattices_below (length remap) lattices h.rows) (begun i _ h.ids_are);
    }
