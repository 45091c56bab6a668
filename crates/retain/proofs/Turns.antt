-- What stands in the slices at a word's turn, and what the pruned cache is after it. Assumes nothing.
use mathlib.Core.Path.{◌≡◌, sym, ap, ap₂, ◌∙◌, subst}
use mathlib.Core.List.{List, [], ◌∷◌, ◌++◌, map, map-append, append-nil, append_assoc}
use Prim.Native.Nat.{ℕ, ◌+◌, ◌*◌, ◌≤◌, ◌<◌}
use native.Mathlib.Nat.{zero-add}
use native.Mathlib.Omega.{arith}
use lib.ListN.{length, get_or, drop, length-append, length-map}
use Rattle.lattice.specs.Lattice.{Edge}
use Rattle.lattice.specs.Pruning.{sift, retained}
use Rattle.lattice.specs.Layout.{joined, offsets, edge_count, char_count, spans_from}
use Rattle.lattice.specs.Written.{over}
use Rattle.retain.specs.Retain.{Laid}
use Rattle.lattice.proofs.Fronts.{begin_long, then}
use Rattle.lattice.proofs.Flat.{edges, ends, edges_append, ends_append, spans_append, spans_long}
use Rattle.retain.proofs.Sifted.{sift_joined, Held}

-- a word's four numbers, where its edges begin at e and its offsets at d
abbrev pub span_of : ℕ → ℕ → List (List Edge) → List ℕ
span_of e d lattice = e ∷ (e + edge_count lattice) ∷ d ∷ char_count lattice ∷ []

-- ---- what stands at a word's turn in the slices as they were: the lattice comes after those that are done
pub record Turn (m offs s i sp : List ℕ) (done : List (List (List Edge))) (lattice : List (List Edge)) : Type 0 where
  pub rows : 0 < length lattice
  pub offsets_after : List ℕ
  pub spans_after : List ℕ
  pub offsets_here : drop (length (ends done)) offs ≡ offsets lattice ++ offsets_after
  pub spans_here : drop (4 * length done) sp ≡ span_of (length (edges done)) (length (ends done)) lattice ++ spans_after
  pub held : Held s i (length (edges done)) (joined lattice)
  pub in_offsets : length (ends done) + length (offsets lattice) ≤ length offs
  pub in_spans : 4 * length done + 4 ≤ length sp
  pub in_starts : length (edges done) + edge_count lattice ≤ length s
  pub in_ids : length (edges done) + edge_count lattice ≤ length i
  pub entries : (k : ℕ) → k < length (edges done) + edge_count lattice → get_or i k 0 < length m

-- the flat lists, taken apart at the lattice
module _ (done : List (List (List Edge))) (lattice : List (List Edge)) (rest : List (List (List Edge))) where
  edges_split : edges (done ++ lattice ∷ rest) ≡ edges done ++ (joined lattice ++ edges rest)
  edges_split =
      edges_append done (lattice ∷ rest)
      ∙ ap (λ (l : List Edge). edges done ++ l) (edges_append (lattice ∷ []) rest ∙ ap (λ (l : List (List Edge)). joined l ++ edges rest) (append-nil lattice))

  edges_long : length (edges (done ++ lattice ∷ rest)) ≡ length (edges done) + (edge_count lattice + length (edges rest))
  edges_long =
      let a = length-append (edges done) (joined lattice ++ edges rest) in
      let b = length-append (joined lattice) (edges rest) in
      ap length edges_split ∙ omega arith

  ends_split : ends (done ++ lattice ∷ rest) ≡ ends done ++ (offsets lattice ++ ends rest)
  ends_split = ends_append done (lattice ∷ rest)

  spans_split : spans_from 0 0 (done ++ lattice ∷ rest)
      ≡ spans_from 0 0 done ++ (span_of (length (edges done)) (length (ends done)) lattice ++ spans_from (length (edges done) + edge_count lattice) (length (ends done) + length (offsets lattice)) rest)
  spans_split =
      spans_append 0 0 done (lattice ∷ rest)
      ∙ ap₂ (λ (e d : ℕ). spans_from 0 0 done ++ spans_from e d (lattice ∷ rest)) (zero-add (length (edges done))) (zero-add (length (ends done)))

  -- a slice of starts or of ids
  module _ (f : Edge → ℕ) (l : List ℕ) (begin : l ≡ over (map f (edges (done ++ lattice ∷ rest))) l) where
    abbrev column_after : List ℕ
    column_after = map f (edges rest) ++ drop (length (map f (edges done) ++ (map f (joined lattice) ++ map f (edges rest)))) l

    column : map f (edges (done ++ lattice ∷ rest)) ≡ map f (edges done) ++ (map f (joined lattice) ++ map f (edges rest))
    column =
        ap (map f) edges_split
        ∙ map-append f (edges done) (joined lattice ++ edges rest)
        ∙ ap (λ (x : List ℕ). map f (edges done) ++ x) (map-append f (joined lattice) (edges rest))

    column_here : drop (length (edges done)) l ≡ map f (joined lattice) ++ column_after
    column_here =
        ap (λ (n : ℕ). drop n l) (sym (length-map (edges done) f))
        ∙ then (map f (edges done)) (map f (joined lattice) ++ map f (edges rest)) (subst (λ (x : List ℕ). l ≡ over x l) column begin)
        ∙ append_assoc (map f (joined lattice)) (map f (edges rest)) (drop (length (map f (edges done) ++ (map f (joined lattice) ++ map f (edges rest)))) l)

    column_long : length (edges done) + edge_count lattice ≤ length l
    column_long =
        let a = begin_long (map f (edges (done ++ lattice ∷ rest))) l begin in
        let b = length-map (edges (done ++ lattice ∷ rest)) f in
        let c = edges_long in
        omega arith

  pub turn : {words : ℕ} {m offs s i sp : List ℕ} → Laid words m offs s i sp (done ++ lattice ∷ rest) → 0 < length lattice → Turn m offs s i sp done lattice
  turn {words} {m} {offs} {s} {i} {sp} laid h =
      let here = span_of (length (edges done)) (length (ends done)) lattice in
      let others = spans_from (length (edges done) + edge_count lattice) (length (ends done) + length (offsets lattice)) rest in
      let begin-offs : offs ≡ over (ends done ++ (offsets lattice ++ ends rest)) offs = subst (λ (x : List ℕ). offs ≡ over x offs) ends_split laid.begins.offsets_begin in
      let begin-sp : sp ≡ over (spans_from 0 0 done ++ (here ++ others)) sp = subst (λ (x : List ℕ). sp ≡ over x sp) spans_split laid.begins.spans_begin in
      let long_offs = begin_long (ends done ++ (offsets lattice ++ ends rest)) offs begin-offs in
      let long-sp = begin_long (spans_from 0 0 done ++ (here ++ others)) sp begin-sp in
      let n1 = length-append (ends done) (offsets lattice ++ ends rest) in
      let n2 = length-append (offsets lattice) (ends rest) in
      let n3 = length-append (spans_from 0 0 done) (here ++ others) in
      let n4 = spans_long 0 0 done in
      record {
        rows = h;
        offsets_after = ends rest ++ drop (length (ends done ++ (offsets lattice ++ ends rest))) offs;
        spans_after = others ++ drop (length (spans_from 0 0 done ++ (here ++ others))) sp;
        offsets_here = then (ends done) (offsets lattice ++ ends rest) begin-offs ∙ append_assoc (offsets lattice) (ends rest) (drop (length (ends done ++ (offsets lattice ++ ends rest))) offs);
        spans_here = ap (λ (n : ℕ). drop n sp) (sym n4) ∙ then (spans_from 0 0 done) (here ++ others) begin-sp;
        held =
            record {
              starts_after = column_after (λ e. e.start) s laid.begins.starts_begin;
              ids_after = column_after (λ e. e.id) i laid.begins.ids_begin;
              starts_are = column_here (λ e. e.start) s laid.begins.starts_begin;
              ids_are = column_here (λ e. e.id) i laid.begins.ids_begin;
            };
        in_offsets = omega arith;
        in_spans = omega arith;
        in_starts = column_long (λ e. e.start) s laid.begins.starts_begin;
        in_ids = column_long (λ e. e.id) i laid.begins.ids_begin;
        entries = λ k g. laid.entries k (let a = length-map (edges (done ++ lattice ∷ rest)) (λ e. e.id) in let b = edges_long in omega arith);
      }

-- ---- the pruned cache, one lattice longer
module _ (m : List ℕ) (done : List (List (List Edge))) (lattice : List (List Edge)) where
  pub column_more : (f : Edge → ℕ) → map f (edges (retained m (done ++ lattice ∷ []))) ≡ map f (edges (retained m done)) ++ map f (sift m (joined lattice))
  column_more f =
      ap (λ (l : List (List (List Edge))). map f (edges l)) (map-append (map (sift m)) done (lattice ∷ []))
      ∙ ap (map f) (edges_append (retained m done) (map (sift m) lattice ∷ []))
      ∙ ap (λ (l : List (List Edge)). map f (edges (retained m done) ++ joined l)) (append-nil (map (sift m) lattice))
      ∙ ap (λ (l : List Edge). map f (edges (retained m done) ++ l)) (sift_joined m lattice)
      ∙ map-append f (edges (retained m done)) (sift m (joined lattice))

  pub ends_more : ends (retained m (done ++ lattice ∷ [])) ≡ ends (retained m done) ++ offsets (map (sift m) lattice)
  ends_more =
      ap ends (map-append (map (sift m)) done (lattice ∷ []))
      ∙ ends_append (retained m done) (map (sift m) lattice ∷ [])
      ∙ ap (λ (l : List ℕ). ends (retained m done) ++ l) (append-nil (offsets (map (sift m) lattice)))

  pub spans_more : spans_from 0 0 (retained m (done ++ lattice ∷ [])) ≡ spans_from 0 0 (retained m done) ++ span_of (length (edges (retained m done))) (length (ends (retained m done))) (map (sift m) lattice)
  spans_more = ap (spans_from 0 0) (map-append (map (sift m)) done (lattice ∷ [])) ∙ spans_split (retained m done) (map (sift m) lattice) []
