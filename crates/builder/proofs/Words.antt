-- The words of a list, a word more at each turn. Assumes nothing.
use mathlib.Core.Path.{◌≡◌, refl, sym, ap, ◌∙◌, subst}
use mathlib.Core.List.{List, [], ◌∷◌, ◌++◌, map-append}
use Prim.Native.Nat.{ℕ, zero, suc, ◌+◌, ◌*◌, ◌≤◌, ◌<◌}
use native.Mathlib.Decide.{dec_lt}
use native.Mathlib.Numerals.{add-one}
use native.Mathlib.Omega.{arith}
use lib.ListN.{length, length-append, length-map}
use Rattle.spans.specs.Spans.{many, chars_at, first}
use Rattle.spans.specs.Check.{Good}
use Rattle.lattice.specs.Lattice.{Edge, ending, lattice, cache}
use Rattle.lattice.specs.Layout.{joined, offsets, edge_count, flat}
use Rattle.lattice.proofs.Joined.{offsets_long}
use Rattle.lattice.proofs.Flat.{edges, ends, edges_more, ends_more}
use Rattle.trie.proofs.Same.{length_first}
use Rattle.rows.specs.Grid.{lattice_in}
use Rattle.rows.specs.Word.{Room, Holds, Walked}
use Rattle.builder.specs.declared.Sizes.{Sizes}
use Rattle.builder.specs.Put.{Grid}
use Rattle.builder.specs.Lay.{words_of, Wants, Counts, Listed}
use Rattle.builder.proofs.Ends.{rows_few, rows_long}

-- ---- the cache of the first k words
module _ (setting : ℕ) (pieces : List (List ℕ)) (text words : List ℕ) where
  abbrev pub cache_of : ℕ → List (List (List Edge))
  cache_of k = cache setting pieces (words_of text words k)

  abbrev pub whole_lattice : ℕ → List (List Edge)
  whole_lattice k = lattice setting pieces (chars_at text words k)

  pub cache_more : (k : ℕ) → cache_of (suc k) ≡ cache_of k ++ whole_lattice k ∷ []
  cache_more k = map-append (lattice setting pieces) (words_of text words k) (chars_at text words k ∷ [])

  pub cache_long : (k : ℕ) → length (cache_of k) ≡ k
  cache_long k = length-map (words_of text words k) (lattice setting pieces) ∙ length_first (chars_at text words) k

  pub lattice_long : (k : ℕ) → length (whole_lattice k) ≡ suc (length (chars_at text words k))
  lattice_long k = rows_long (ending setting pieces (chars_at text words k)) (suc (length (chars_at text words k)))

  pub edges_next : (k : ℕ) → length (edges (cache_of (suc k))) ≡ length (edges (cache_of k)) + edge_count (whole_lattice k)
  edges_next k = ap (λ (c : List (List (List Edge))). length (edges c)) (cache_more k) ∙ ap length (edges_more (cache_of k) (whole_lattice k)) ∙ length-append (edges (cache_of k)) (joined (whole_lattice k))

  pub ends_next : (k : ℕ) → length (ends (cache_of (suc k))) ≡ length (ends (cache_of k)) + (length (chars_at text words k) + 2)
  ends_next k =
      let a = length-append (ends (cache_of k)) (offsets (whole_lattice k)) in
      let b = offsets_long 0 (whole_lattice k) in
      let c = lattice_long k in
      ap (λ (x : List (List (List Edge))). length (ends x)) (cache_more k) ∙ ap length (ends_more (cache_of k) (whole_lattice k)) ∙ omega arith

  pub edges_most : (k n : ℕ) → k ≤ n → length (edges (cache_of k)) ≤ length (edges (cache_of n))
  edges_most k zero h = let e : k ≡ 0 = omega arith in let a = ap (λ (j : ℕ). length (edges (cache_of j))) e in omega arith
  edges_most k (suc n) h = elim (dec_lt n k) [
    | yes l ↦ let e : k ≡ suc n = omega arith in let a = ap (λ (j : ℕ). length (edges (cache_of j))) e in omega arith
    | no l ↦ let a = edges_most k n (omega arith) in let b = edges_next n in omega arith
  ]

  pub ends_most : (k n : ℕ) → k ≤ n → length (ends (cache_of k)) ≤ length (ends (cache_of n))
  ends_most k zero h = let e : k ≡ 0 = omega arith in let a = ap (λ (j : ℕ). length (ends (cache_of j))) e in omega arith
  ends_most k (suc n) h = elim (dec_lt n k) [
    | yes l ↦ let e : k ≡ suc n = omega arith in let a = ap (λ (j : ℕ). length (ends (cache_of j))) e in omega arith
    | no l ↦ let a = ends_most k n (omega arith) in let b = ends_next n in omega arith
  ]

  -- ---- what it wants
  pub many_edges : (k : ℕ) → length (flat (cache_of k)).ids ≡ length (edges (cache_of k))
  many_edges k = length-map (edges (cache_of k)) (λ e. e.id)

  wants_none : Wants setting pieces (words_of text words 0) (record { edges = 0; ends = 0 })
  wants_none = record { edges_are = refl; ends_are = refl }

  wants_more : (k : ℕ) {so next : Sizes} → Wants setting pieces (words_of text words k) so
      → next.edges ≡ so.edges + edge_count (whole_lattice k) → next.ends ≡ so.ends + (length (chars_at text words k) + 2) → Wants setting pieces (words_of text words (k + 1)) next
  wants_more k {so} {next} w e d =
      let x = w.edges_are in
      let y = w.ends_are in
      let a = many_edges k in
      let b = many_edges (suc k) in
      let c = edges_next k in
      let f = ends_next k in
      subst (λ (j : ℕ). Wants setting pieces (words_of text words j) next) (sym (add-one k)) (record { edges_are = omega arith; ends_are = omega arith })

-- ---- the loop of `count_words`
module _ (keys ends text words : List ℕ) (setting : ℕ) where
  -- of whatever pieces the trie is
  abbrev pub Any : ((pieces : List (List ℕ)) → Type 0) → Type 0
  Any P = (f : ℕ → List ℕ) (count : ℕ) → Holds keys ends f count → P (first f count)

  pub record Counted (chars₀ grid₀ chars grid : List ℕ) (k : ℕ) (so : Sizes) : Type 0 where
    pub near : k ≤ many words
    pub long_chars : length chars ≡ length chars₀
    pub long_grid : length grid ≡ length grid₀
    pub few_edges : so.edges ≤ 65280 * k
    pub few_ends : so.ends ≤ 257 * k
    pub wants : Any (λ pieces. Wants setting pieces (words_of text words k) so)

  pub counted_none : (chars grid : List ℕ) → Counted chars grid chars grid 0 (record { edges = 0; ends = 0 })
  counted_none chars grid = record { near = omega arith; long_chars = refl; long_grid = refl; few_edges = omega arith; few_ends = omega arith; wants = λ f count t. wants_none setting (first f count) text words }

  module _ {chars₀ grid₀ : List ℕ} (r : Room keys ends setting chars₀ grid₀) (listed : Listed text words) {chars grid : List ℕ} {k : ℕ} {so : Sizes} (p : Counted chars₀ grid₀ chars grid k so) where
    pub counted_room : Room keys ends setting chars grid
    counted_room =
        let a = p.long_chars in
        let b = p.long_grid in
        let c = r.room in
        let d = r.wide in
        record { few = r.few; level = r.level; narrow = r.narrow; room = omega arith; wide = omega arith }

    pub counted_good : k < many words → Good text words 255 k
    counted_good h = listed.good k h

    module _ (h : k < many words) {grid' : List ℕ} {n : ℕ} (w : Walked keys ends setting grid (chars_at text words k) grid' n) where
      pub grid_of : Grid grid' setting n
      grid_of = let a = w.short in let b = w.long in let c = p.long_grid in let d = r.wide in record { rows = omega arith; few = a; narrow = r.narrow }

      pub few_more : length (joined (lattice_in setting grid' n)) ≤ 65280
      few_more = let a = w.short in let b = rows_few setting grid' (suc n) (omega arith) in omega arith

      wants_next : {next : Sizes} → next.edges ≡ so.edges + length (joined (lattice_in setting grid' n)) → next.ends ≡ so.ends + (n + 2) → Any (λ pieces. Wants setting pieces (words_of text words (k + 1)) next)
      wants_next e d f count t =
          wants_more setting (first f count) text words k (p.wants f count t)
          (e ∙ ap (λ (l : List (List Edge)). so.edges + length (joined l)) (w.is f count t))
          (d ∙ ap (λ (m : ℕ). so.ends + (m + 2)) w.count)

      pub counted_more : {chars' : List ℕ} {next : Sizes} → length chars' ≡ length chars → next.edges ≡ so.edges + length (joined (lattice_in setting grid' n)) → next.ends ≡ so.ends + (n + 2) → Counted chars₀ grid₀ chars' grid' (k + 1) next
      counted_more c e d =
          let a = p.few_edges in
          let b = p.few_ends in
          let g = few_more in
          let s = w.short in
          record {
            near = omega arith;
            long_chars = c ∙ p.long_chars;
            long_grid = w.long ∙ p.long_grid;
            few_edges = omega arith;
            few_ends = omega arith;
            wants = wants_next e d;
          }

  pub counted_all : {chars₀ grid₀ chars grid : List ℕ} {k : ℕ} {so : Sizes} → Counted chars₀ grid₀ chars grid k so → many words ≤ k → Counts keys ends text words setting so
  counted_all {k = k} {so = so} p h f count t =
      let n = p.near in
      let e : k ≡ many words = omega arith in
      subst (λ (j : ℕ). Wants setting (first f count) (words_of text words j) so) e (p.wants f count t)
