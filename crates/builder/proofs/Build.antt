-- The loop of `build_words`: each word is laid out behind those before it. Assumes nothing.
use mathlib.Core.Path.{◌≡◌, refl, sym, ap, ap₂, ◌∙◌, subst}
use mathlib.Core.List.{List, [], ◌∷◌, ◌++◌, map}
use Prim.Native.Nat.{ℕ, suc, ◌+◌, ◌*◌, ◌≤◌, ◌<◌}
use native.Mathlib.Numerals.{add-one}
use native.Mathlib.Omega.{arith}
use lib.ListN.{length, take, drop, length-append, length-map}
use lib.Seq.{sets}
use Rattle.spans.specs.Spans.{many, chars_at, first}
use Rattle.lattice.specs.Lattice.{Edge}
use Rattle.lattice.specs.Layout.{joined, offsets, edge_count, char_count, spans_from}
use Rattle.lattice.specs.Written.{over, Written}
use Rattle.lattice.proofs.Joined.{offsets_long}
use Rattle.lattice.proofs.Fronts.{stored, placed}
use Rattle.lattice.proofs.Flat.{edges, ends, column_more, ends_more, spans_more, spans_long}
use Rattle.rows.specs.Grid.{lattice_in}
use Rattle.rows.specs.Word.{Room, Walked}
use Rattle.builder.specs.declared.Sizes.{Sizes}
use Rattle.builder.specs.Put.{Put}
use Rattle.builder.specs.Lay.{Word, Laid, words_of, Wants, Building, Builds}
use Rattle.builder.proofs.Words.{cache_of, whole_lattice, cache_more, cache_long, lattice_long, edges_next, ends_next, edges_most, ends_most, many_edges, Any, Counted, counted_none, counted_more, counted_all, grid_of}

-- ---- one word more, of the pieces of a trie
module _ (setting : ℕ) (pieces : List (List ℕ)) (text words : List ℕ) (k : ℕ) {offs₀ starts₀ ids₀ spans₀ offs starts ids spans : List ℕ} {so : Sizes}
    (p : Written (cache_of setting pieces text words k) offs₀ starts₀ ids₀ spans₀ offs starts ids spans so.edges) (w : Wants setting pieces (words_of text words k) so) where
  abbrev before : List (List (List Edge))
  before = cache_of setting pieces text words k

  abbrev here : List (List Edge)
  here = whole_lattice setting pieces text words k

  -- a column of edges
  column : (f : Edge → ℕ) (l₀ : List ℕ) {l l' : List ℕ} → l ≡ over (map f (edges before)) l₀ → so.edges + edge_count here ≤ length l₀ → l' ≡ sets l so.edges (map f (joined here)) → l' ≡ over (map f (edges (before ++ here ∷ []))) l₀
  column f l₀ e r s =
      let n = length-map (edges before) f in
      let m = length-map (joined here) f in
      let a = w.edges_are in
      let b = many_edges setting pieces text words k in
      let c : so.edges ≡ length (map f (edges before)) = omega arith in
      s ∙ ap₂ (λ (x : List ℕ) (i : ℕ). sets x i (map f (joined here))) e c
      ∙ stored (map f (edges before)) (map f (joined here)) l₀ (omega arith)
      ∙ ap (λ (x : List ℕ). over x l₀) (sym (column_more before here f))

  module _ {n : ℕ} (count : n ≡ length (chars_at text words k)) (h : so.edges + edge_count here ≤ length starts₀) (g : so.edges + edge_count here ≤ length ids₀) (o : 4 * k + 4 ≤ length spans₀) where
    offsets_next : {offs' : List ℕ} → offs' ≡ take so.ends offs ++ (offsets here ++ drop (so.ends + (n + 2)) offs) → offs' ≡ over (ends (before ++ here ∷ [])) offs₀
    offsets_next e =
        let a = w.ends_are in
        let b = offsets_long 0 here in
        let c = lattice_long setting pieces text words k in
        let d = length-append (ends before) (offsets here) in
        e ∙ ap₂ (λ (i : ℕ) (x : List ℕ). take i x ++ (offsets here ++ drop (so.ends + (n + 2)) x)) a p.offsets_are
        ∙ placed (ends before) (offsets here) offs₀ (so.ends + (n + 2)) (omega arith)
        ∙ ap (λ (x : List ℕ). over x offs₀) (sym (ends_more before here))

    spans_next : {spans' : List ℕ} {next : ℕ} → next ≡ so.edges + edge_count here → spans' ≡ sets spans (4 * k) (so.edges ∷ next ∷ so.ends ∷ n ∷ []) → spans' ≡ over (spans_from 0 0 (before ++ here ∷ [])) spans₀
    spans_next {next = next} m e =
        let a = w.edges_are in
        let b = many_edges setting pieces text words k in
        let c = spans_long 0 0 before in
        let d = cache_long setting pieces text words k in
        let f = lattice_long setting pieces text words k in
        let four = length (edges before) ∷ (length (edges before) + edge_count here) ∷ length (ends before) ∷ char_count here ∷ [] in
        let z : 4 * k ≡ length (spans_from 0 0 before) = omega arith in
        let s : so.edges ≡ length (edges before) = omega arith in
        let t : next ≡ length (edges before) + edge_count here = omega arith in
        let u : so.ends ≡ length (ends before) = w.ends_are in
        let v : n ≡ char_count here = omega arith in
        e ∙ ap₂ (λ (x : List ℕ) (i : ℕ). sets x i (so.edges ∷ next ∷ so.ends ∷ n ∷ [])) p.spans_are z
        ∙ ap (sets (over (spans_from 0 0 before) spans₀) (length (spans_from 0 0 before))) (ap₂ (λ (i j : ℕ). i ∷ j ∷ so.ends ∷ n ∷ []) s t ∙ ap₂ (λ (i j : ℕ). length (edges before) ∷ (length (edges before) + edge_count here) ∷ i ∷ j ∷ []) u v)
        ∙ stored (spans_from 0 0 before) four spans₀ (omega arith)
        ∙ ap (λ (x : List ℕ). over x spans₀) (sym (spans_more before here))

    written_next : {offs' starts' ids' spans' : List ℕ} {to : ℕ}
        → Put starts ids so.edges (joined here) starts' ids' to
        → offs' ≡ take so.ends offs ++ (offsets here ++ drop (so.ends + (n + 2)) offs)
        → spans' ≡ sets spans (4 * k) (so.edges ∷ to ∷ so.ends ∷ n ∷ [])
        → Written (cache_of setting pieces text words (k + 1)) offs₀ starts₀ ids₀ spans₀ offs' starts' ids' spans' to
    written_next {offs'} {starts'} {ids'} {spans'} {to} q e s =
        let a = w.edges_are in
        let b = many_edges setting pieces text words k in
        let c = length-map (edges (before ++ here ∷ [])) (λ (x : Edge). x.id) in
        let d = edges_next setting pieces text words k in
        let f = ap (λ (x : List (List (List Edge))). length (edges x)) (cache_more setting pieces text words k) in
        let m = q.count in
        subst (λ (x : List (List (List Edge))). Written x offs₀ starts₀ ids₀ spans₀ offs' starts' ids' spans' to) (sym (ap (cache_of setting pieces text words) (add-one k) ∙ cache_more setting pieces text words k))
        (record {
          edges = omega arith;
          offsets_are = offsets_next e;
          starts_are = column (λ x. x.start) starts₀ p.starts_are h q.starts_are;
          ids_are = column (λ x. x.id) ids₀ p.ids_are g q.ids_are;
          spans_are = spans_next m s;
        })

-- ---- the loop
module _ (keys ends text words : List ℕ) (setting : ℕ) (offs₀ starts₀ ids₀ spans₀ : List ℕ) where
  pub record Laying (chars₀ grid₀ chars grid offs starts ids spans : List ℕ) (k : ℕ) (so : Sizes) : Type 0 where
    pub counted : Counted keys ends text words setting chars₀ grid₀ chars grid k so
    pub long_offs : length offs ≡ length offs₀
    pub long_starts : length starts ≡ length starts₀
    pub long_ids : length ids ≡ length ids₀
    pub long_spans : length spans ≡ length spans₀
    pub written : Any keys ends text words setting (λ pieces. Written (cache_of setting pieces text words k) offs₀ starts₀ ids₀ spans₀ offs starts ids spans so.edges)

  pub laying_none : (chars grid : List ℕ) → Laying chars grid chars grid offs₀ starts₀ ids₀ spans₀ 0 (record { edges = 0; ends = 0 })
  laying_none chars grid =
      record {
        counted = counted_none keys ends text words setting chars grid;
        long_offs = refl;
        long_starts = refl;
        long_ids = refl;
        long_spans = refl;
        written = λ f count t. record { edges = refl; offsets_are = refl; starts_are = refl; ids_are = refl; spans_are = refl };
      }

  module _ {chars₀ grid₀ : List ℕ} (r : Room keys ends setting chars₀ grid₀) (b : Building keys ends text words setting offs₀ starts₀ ids₀ spans₀)
      {chars grid offs starts ids spans : List ℕ} {k : ℕ} {so : Sizes} (p : Laying chars₀ grid₀ chars grid offs starts ids spans k so) (h : k < many words) {grid' : List ℕ} {n : ℕ} (w : Walked keys ends setting grid (chars_at text words k) grid' n) where
    -- the word's slots are there
    edges_in : so.edges + length (joined (lattice_in setting grid' n)) ≤ b.so.edges
    edges_in =
        let pieces = first b.f b.count in
        let a = (p.counted.wants b.f b.count b.holds).edges_are in
        let c = b.wants.edges_are in
        let d = edges_next setting pieces text words k in
        let e = edges_most setting pieces text words (suc k) (many words) (omega arith) in
        let f = many_edges setting pieces text words k in
        let g = many_edges setting pieces text words (many words) in
        let i = ap (λ (l : List (List Edge)). length (joined l)) (w.is b.f b.count b.holds) in
        omega arith

    ends_in : so.ends + (n + 2) ≤ b.so.ends
    ends_in =
        let pieces = first b.f b.count in
        let a = (p.counted.wants b.f b.count b.holds).ends_are in
        let c = b.wants.ends_are in
        let d = ends_next setting pieces text words k in
        let e = ends_most setting pieces text words (suc k) (many words) (omega arith) in
        let i = w.count in
        omega arith

    pub laying_word : Word offs starts ids spans grid' setting n k so
    laying_word =
        let e = edges_in in
        let d = ends_in in
        let a = b.fits.in_offsets in
        let s = b.fits.in_starts in
        let i = b.fits.in_ids in
        let c = b.fits.in_spans in
        let la = p.long_offs in
        let ls = p.long_starts in
        let li = p.long_ids in
        let lc = p.long_spans in
        let m = b.listed.few in
        record {
          part = record { grid_is = grid_of keys ends text words setting r b.listed p.counted h w; in_offsets = omega arith; room = record { in_starts = omega arith; in_ids = omega arith } };
          in_spans = omega arith;
          few_edges = p.counted.few_edges;
          few_ends = p.counted.few_ends;
          few = omega arith;
        }

    module _ {offs' starts' ids' spans' : List ℕ} {next : Sizes} (l : Laid offs starts ids spans grid' setting n k so offs' starts' ids' spans' next) where
      written_after : Any keys ends text words setting (λ pieces. Written (cache_of setting pieces text words (k + 1)) offs₀ starts₀ ids₀ spans₀ offs' starts' ids' spans' next.edges)
      written_after f count t =
          let pieces = first f count in
          let same = w.is f count t in
          let long = ap (λ (x : List (List Edge)). length (joined x)) same in
          let e = edges_in in
          let s = b.fits.in_starts in
          let i = b.fits.in_ids in
          let c = b.fits.in_spans in
          written_next setting pieces text words k (p.written f count t) (p.counted.wants f count t) w.count (omega arith) (omega arith) (omega arith)
          (subst (λ (x : List (List Edge)). Put starts ids so.edges (joined x) starts' ids' next.edges) same l.parted.edges)
          (l.parted.offsets_are ∙ ap (λ (x : List (List Edge)). take so.ends offs ++ (offsets x ++ drop (so.ends + (n + 2)) offs)) same)
          l.spans_are

      pub laying_more : {chars' : List ℕ} → length chars' ≡ length chars → length offs' ≡ length offs → length starts' ≡ length starts → length ids' ≡ length ids → length spans' ≡ length spans → Laying chars₀ grid₀ chars' grid' offs' starts' ids' spans' (k + 1) next
      laying_more kc ko ks ki kp =
          record {
            counted = counted_more keys ends text words setting r b.listed p.counted h w kc l.parted.edges.count l.ends_are;
            long_offs = ko ∙ p.long_offs;
            long_starts = ks ∙ p.long_starts;
            long_ids = ki ∙ p.long_ids;
            long_spans = kp ∙ p.long_spans;
            written = written_after;
          }

  pub laying_all : {chars₀ grid₀ chars grid offs starts ids spans : List ℕ} {k : ℕ} {so : Sizes} → Laying chars₀ grid₀ chars grid offs starts ids spans k so → many words ≤ k → Builds keys ends text words setting offs₀ starts₀ ids₀ spans₀ offs starts ids spans so
  laying_all {offs = offs} {starts} {ids} {spans} {k} {so} p h f count t =
      let n = p.counted.near in
      let e : k ≡ many words = omega arith in
      (subst (λ (j : ℕ). Written (cache_of setting (first f count) text words j) offs₀ starts₀ ids₀ spans₀ offs starts ids spans so.edges) e (p.written f count t), counted_all keys ends text words setting p.counted h f count t)
