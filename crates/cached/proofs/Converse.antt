-- Slices that hold the lattices of a cache's words are a well-formed cache. Assumes nothing.
use mathlib.Core.Path.{◌≡◌, refl, sym, ap, ◌∙◌, subst}
use mathlib.Core.List.{List, [], ◌∷◌, ◌++◌, map}
use Prim.Native.Nat.{ℕ, suc, ◌+◌, ◌*◌, ◌≤◌}
use native.Mathlib.Omega.{arith}
use lib.ListN.{length, get_or, length-map, length-append}
use lib.Seq.{slice}
use Rattle.lattice.specs.Lattice.{Edge}
use Rattle.lattice.specs.Layout.{joined, offsets, edge_count, char_count, spans_from}
use Rattle.lattice.proofs.Joined.{offsets_long}
use Rattle.formed.specs.declared.Span.{Span}
use Rattle.formed.specs.Formed.{Inside, Formed}
use Rattle.formed.specs.Held.{Rows}
use Rattle.laws.proofs.Ranges.{between_nought, from_here}
use Rattle.formed.proofs.Theorems.{holds_well_formed}
use Rattle.cached.specs.Cached.{span_at, edges_before, offsets_before, WordFormed}
use Rattle.cached.specs.Held.{Lattices}
use Rattle.cached.proofs.Spans.{same_span}
use Rattle.cached.proofs.Readback.{All, four, first_edges}
use Rattle.cached.proofs.Fronts.{Front, first_front, next_front}

-- the span of a lattice whose edges begin at `edge` and whose offsets begin at `end`
abbrev span_of : ℕ → ℕ → List (List Edge) → Span
span_of edge end lattice = record { from = edge; to = edge + edge_count lattice; at = end; n = char_count lattice }

abbrev four_of : Span → List ℕ
four_of span = span.from ∷ span.to ∷ span.at ∷ span.n ∷ []

span_read : (spans : List ℕ) (w : ℕ) (span : Span) → Front spans (4 * w) (four_of span) → span_at spans w ≡ span
span_read spans w span f =
    let l = f.fits in
    let is = sym (four spans (4 * w) (4 * w + 4) refl l) ∙ f.is in
    same_span (ap (λ (ys : List ℕ). get_or ys 0 0) is) (ap (λ (ys : List ℕ). get_or ys 1 0) is) (ap (λ (ys : List ℕ). get_or ys 2 0) is) (ap (λ (ys : List ℕ). get_or ys 3 0) is)

module _ (starts ids ends spans : List ℕ) (pieces : ℕ) (same : length starts ≡ length ids) where
  -- the slices hold these lattices from `edge`, `end` and word w on
  pub record Rest (lattices : List (List (List Edge))) (w edge end : ℕ) : Type 0 where
    pub edges_before_lem : edges_before spans w ≡ edge
    pub offsets_before_lem : offsets_before spans w ≡ end
    pub by_start : Front starts edge (map (λ e. e.start) (joined (joined lattices)))
    pub by_id : Front ids edge (map (λ e. e.id) (joined (joined lattices)))
    pub by_end : Front ends end (joined (map offsets lattices))
    pub by_span : Front spans (4 * w) (spans_from edge end lattices)

  module _ (row : List Edge) (rows : List (List Edge)) (others : List (List (List Edge))) (w edge end : ℕ) (r : Rest ((row ∷ rows) ∷ others) w edge end) where
    abbrev lattice : List (List Edge)
    lattice = row ∷ rows

    edges_split : (f : Edge → ℕ) (xs : List ℕ) → Front xs edge (map f (joined (joined (lattice ∷ others)))) → Front xs edge (map f (joined lattice) ++ map f (joined (joined others)))
    edges_split f xs front = subst (Front xs edge) (first_edges f lattice others) front

    -- this word's edges, by start or by id
    own_edges : (f : Edge → ℕ) (xs : List ℕ) → Front xs edge (map f (joined (joined (lattice ∷ others)))) → (edge + edge_count lattice ≤ length xs) × (slice edge (edge + edge_count lattice) xs ≡ map f (joined lattice))
    own_edges f xs front =
        let own = first_front xs edge (map f (joined lattice)) (map f (joined (joined others))) (edges_split f xs front) in
        let long = length-map (joined lattice) f in
        let l = own.fits in
        (omega arith, ap (λ (k : ℕ). slice edge (edge + k) xs) (sym long) ∙ own.is)

    next_edges : (f : Edge → ℕ) (xs : List ℕ) → Front xs edge (map f (joined (joined (lattice ∷ others)))) → Front xs (edge + edge_count lattice) (map f (joined (joined others)))
    next_edges f xs front = next_front xs edge (map f (joined lattice)) (map f (joined (joined others))) (edges_split f xs front) (edge + edge_count lattice) (ap (λ (k : ℕ). edge + k) (length-map (joined lattice) f))

    own_span : span_at spans w ≡ span_of edge end lattice
    own_span = span_read spans w (span_of edge end lattice) (first_front spans (4 * w) (four_of (span_of edge end lattice)) (spans_from (edge + edge_count lattice) (end + length (offsets lattice)) others) r.by_span)

    own_formed : Rows pieces 0 lattice → Formed starts ids ends pieces (span_of edge end lattice)
    own_formed sound =
        let s = own_edges (λ e. e.start) starts r.by_start in
        let i = own_edges (λ e. e.id) ids r.by_id in
        let o = first_front ends end (offsets lattice) (joined (map offsets others)) r.by_end in
        let long = offsets_long 0 lattice in
        let fits = o.fits in
        let l = s.0 in
        let past : end + length (offsets lattice) ≡ end + char_count lattice + 2 = omega arith in
        let inside : Inside starts ids ends (span_of edge end lattice) = record { equally_many = same; from_to = omega arith; edges_in = l; offsets_in = omega arith } in
        holds_well_formed starts ids ends pieces (span_of edge end lattice) lattice
        (record { inside = inside; ends_are = omega arith; starts_are = s.1; ids_are = i.1; offsets_are = ap (λ (k : ℕ). slice end k ends) (sym past) ∙ o.is; rows = sound })

    word_good : Rows pieces 0 lattice → WordFormed starts ids ends spans pieces w
    word_good sound =
        let f = first_front spans (4 * w) (four_of (span_of edge end lattice)) (spans_from (edge + edge_count lattice) (end + length (offsets lattice)) others) r.by_span in
        record {
          present = f.fits;
          edges_follow = ap (λ s. s.from) own_span ∙ sym r.edges_before_lem;
          offsets_follow = ap (λ s. s.at) own_span ∙ sym r.offsets_before_lem;
          formed = subst (Formed starts ids ends pieces) (sym own_span) (own_formed sound);
        }

    next_rest : Rest others (suc w) (edge + edge_count lattice) (end + length (offsets lattice))
    next_rest =
        let long = offsets_long 0 lattice in
        let at = ap (λ s. s.at) own_span in
        let n = ap (λ s. s.n) own_span in
        let four-more : 4 * w + 4 ≡ 4 * suc w = omega arith in
        record {
          edges_before_lem = ap (λ s. s.to) own_span;
          offsets_before_lem = omega arith;
          by_start = next_edges (λ e. e.start) starts r.by_start;
          by_id = next_edges (λ e. e.id) ids r.by_id;
          by_end = next_front ends end (offsets lattice) (joined (map offsets others)) r.by_end (end + length (offsets lattice)) refl;
          by_span = next_front spans (4 * w) (four_of (span_of edge end lattice)) (spans_from (edge + edge_count lattice) (end + length (offsets lattice)) others) r.by_span (4 * suc w) four-more;
        }

  pub all_good : (lattices : List (List (List Edge))) (w edge end : ℕ) → Rest lattices w edge end → Lattices pieces lattices → All starts ids ends spans pieces w (length lattices)
  all_good [] w edge end r sound = between_nought (WordFormed starts ids ends spans pieces) w
  all_good ([] ∷ others) w edge end r sound = absurd sound
  all_good ((row ∷ rows) ∷ others) w edge end r sound =
      from_here (WordFormed starts ids ends spans pieces) w (length others) (word_good row rows others w edge end r sound.0)
      (all_good others (suc w) (edge + edge_count (row ∷ rows)) (end + length (offsets (row ∷ rows))) (next_rest row rows others w edge end r) sound.1)

  -- where the offsets of all these words end
  pub ends_long : (lattices : List (List (List Edge))) (w edge end : ℕ) → Rest lattices w edge end → Lattices pieces lattices → offsets_before spans (w + length lattices) ≡ end + length (joined (map offsets lattices))
  ends_long [] w edge end r sound = let z : w + 0 ≡ w = omega arith in let b = r.offsets_before_lem in ap (offsets_before spans) z ∙ omega arith
  ends_long ([] ∷ others) w edge end r sound = absurd sound
  ends_long ((row ∷ rows) ∷ others) w edge end r sound =
      let next : w + suc (length others) ≡ suc w + length others = omega arith in
      let rest = ends_long others (suc w) (edge + edge_count (row ∷ rows)) (end + length (offsets (row ∷ rows))) (next_rest row rows others w edge end r) sound.1 in
      let both = length-append (offsets (row ∷ rows)) (joined (map offsets others)) in
      ap (offsets_before spans) next ∙ rest ∙ omega arith
