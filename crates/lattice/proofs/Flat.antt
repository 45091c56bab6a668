-- The flat lists of lattices: one lattice more, and how many numbers each has. Assumes nothing.
use mathlib.Core.Path.{◌≡◌, refl, sym, ap, ap₂, ◌∙◌}
use mathlib.Core.List.{List, [], ◌∷◌, ◌++◌, map, map-append, append-nil}
use Prim.Native.Nat.{ℕ, zero, suc, ◌+◌, ◌*◌, ◌≤◌, ◌<◌}
use native.Mathlib.Nat.{add-zero, zero-add, le_of_suc-le-suc, not-suc-le-zero}
use native.Mathlib.Numerals.{add-one}
use native.Mathlib.Omega.{arith}
use lib.ListN.{length, get_or, length-append}
use Rattle.lattice.specs.Lattice.{Edge}
use Rattle.lattice.proofs.Joined.{joined_append}
use Rattle.lattice.specs.Layout.{joined, offsets_from, offsets, edge_count, char_count, spans_from}

-- ---- one after the other: the edges of a cache, and its offsets
abbrev pub edges : List (List (List Edge)) → List Edge
edges lattices = joined (joined lattices)

abbrev pub ends : List (List (List Edge)) → List ℕ
ends lattices = joined (map offsets lattices)

pub edges_append : (a b : List (List (List Edge))) → edges (a ++ b) ≡ edges a ++ edges b
edges_append a b = ap joined (joined_append a b) ∙ joined_append (joined a) (joined b)

edges_long : (l : List (List Edge)) (a : List (List (List Edge))) → length (edges (l ∷ a)) ≡ edge_count l + length (edges a)
edges_long l a = ap length (joined_append l (joined a)) ∙ length-append (joined l) (edges a)

pub ends_append : (a b : List (List (List Edge))) → ends (a ++ b) ≡ ends a ++ ends b
ends_append a b = ap joined (map-append offsets a b) ∙ joined_append (map offsets a) (map offsets b)

pub spans_append : (edge end : ℕ) (a b : List (List (List Edge))) → spans_from edge end (a ++ b) ≡ spans_from edge end a ++ spans_from (edge + length (edges a)) (end + length (ends a)) b
spans_append edge end [] b =
    let e : edge ≡ edge + 0 = omega arith in
    let d : end ≡ end + 0 = omega arith in
    ap (λ (n : ℕ). spans_from n end b) e ∙ ap (λ (n : ℕ). spans_from (edge + 0) n b) d
spans_append edge end (l ∷ a) b =
    let e : edge + edge_count l + length (edges a) ≡ edge + length (edges (l ∷ a)) = let n = edges_long l a in omega arith in
    let d : end + length (offsets l) + length (ends a) ≡ end + length (ends (l ∷ a)) = let n = length-append (offsets l) (ends a) in omega arith in
    let rest = spans_from (edge + edge_count l) (end + length (offsets l)) a in
    ap (λ (s : List ℕ). edge ∷ (edge + edge_count l) ∷ end ∷ char_count l ∷ s)
    (spans_append (edge + edge_count l) (end + length (offsets l)) a b
    ∙ ap (λ (n : ℕ). rest ++ spans_from n (end + length (offsets l) + length (ends a)) b) e
    ∙ ap (λ (n : ℕ). rest ++ spans_from (edge + length (edges (l ∷ a))) n b) d)

-- ---- how many there are
pub spans_long : (edge end : ℕ) (lattices : List (List (List Edge))) → length (spans_from edge end lattices) ≡ 4 * length lattices
spans_long edge end [] = refl
spans_long edge end (l ∷ ls) = let n = spans_long (edge + edge_count l) (end + length (offsets l)) ls in omega arith

-- ---- a lattice's offsets rise from 0 to its number of edges
first : (at : ℕ) (lattice : List (List Edge)) → get_or (offsets_from at lattice) 0 0 ≡ at
first at [] = refl
first at (row ∷ rows) = refl

pub first_is_0 : (lattice : List (List Edge)) → get_or (offsets lattice) 0 0 ≡ 0
first_is_0 lattice = first 0 lattice

rise : (at : ℕ) (lattice : List (List Edge)) (p : ℕ) → p < length lattice → get_or (offsets_from at lattice) p 0 ≤ get_or (offsets_from at lattice) (suc p) 0
rise at [] p h = absurd (not-suc-le-zero h)
rise at (row ∷ rows) zero h = let e = first (at + length row) rows in omega arith
rise at (row ∷ rows) (suc p) h = rise (at + length row) rows p (le_of_suc-le-suc h)

pub rises : (lattice : List (List Edge)) (p : ℕ) → p < length lattice → get_or (offsets lattice) p 0 ≤ get_or (offsets lattice) (p + 1) 0
rises lattice p h = rw add-one (rise 0 lattice p h)

last : (at : ℕ) (lattice : List (List Edge)) → get_or (offsets_from at lattice) (length lattice) 0 ≡ at + edge_count lattice
last at [] = sym (add-zero at)
last at (row ∷ rows) = let n = length-append row (joined rows) in last (at + length row) rows ∙ omega arith

pub last_is_count : (lattice : List (List Edge)) → get_or (offsets lattice) (length lattice) 0 ≡ edge_count lattice
last_is_count lattice = last 0 lattice ∙ zero-add (edge_count lattice)

-- ---- one lattice more
module _ (lattices : List (List (List Edge))) (lattice : List (List Edge)) where
  pub edges_more : edges (lattices ++ lattice ∷ []) ≡ edges lattices ++ joined lattice
  edges_more = edges_append lattices (lattice ∷ []) ∙ ap (λ (l : List (List Edge)). edges lattices ++ joined l) (append-nil lattice)

  pub column_more : (f : Edge → ℕ) → map f (edges (lattices ++ lattice ∷ [])) ≡ map f (edges lattices) ++ map f (joined lattice)
  column_more f = ap (map f) edges_more ∙ map-append f (edges lattices) (joined lattice)

  pub ends_more : ends (lattices ++ lattice ∷ []) ≡ ends lattices ++ offsets lattice
  ends_more = ends_append lattices (lattice ∷ []) ∙ ap (λ (l : List ℕ). ends lattices ++ l) (append-nil (offsets lattice))

  pub spans_more : spans_from 0 0 (lattices ++ lattice ∷ [])
      ≡ spans_from 0 0 lattices ++ length (edges lattices) ∷ (length (edges lattices) + edge_count lattice) ∷ length (ends lattices) ∷ char_count lattice ∷ []
  spans_more =
      spans_append 0 0 lattices (lattice ∷ [])
      ∙ ap₂ (λ (e d : ℕ). spans_from 0 0 lattices ++ spans_from e d (lattice ∷ [])) (zero-add (length (edges lattices))) (zero-add (length (ends lattices)))
