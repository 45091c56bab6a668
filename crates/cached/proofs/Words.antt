-- A word of a cache: where its lattice stands in the slices, and the parts that a caller cuts out there. Assumes nothing.
use Rattle.std.proofs.Common.{◌≡◌, ℕ, zero, suc, ◌+◌, ◌-◌, ◌*◌, ◌<◌, List, [], ◌∷◌, ◌++◌, map, length, get_or, take, drop, sym, refl, ap, ◌∙◌, subst, ap₂, zero-add, arith, length-take-le}
use mathlib.Core.List.{map-append}
use lib.ListN.{length-map}
use lib.Seq.{slice, split_at}
use Rattle.lattice.specs.Lattice.{Edge}
use Rattle.lattice.specs.Layout.{joined, offsets, edge_count, char_count, spans_from}
use Rattle.lattice.proofs.Flat.{edges, ends, edges_append, ends_append, spans_append, spans_long}
use Rattle.lattice.proofs.Joined.{offsets_long}
use Rattle.formed.specs.declared.Span.{Span}
use Rattle.cached.specs.Cached.{span_at}
use Rattle.cached.specs.Held.{Lattices, Begins, Held}
use Rattle.cached.proofs.Fronts.{Front, begins_front, first_front, next_front}
use Rattle.cached.proofs.Readback.{four, first_edges}
use Rattle.cached.proofs.Spans.{same_span}

-- ---- the lattice of word w among those that the slices hold
module _ {starts ids ends' spans : List ℕ} {pieces words : ℕ} (lattices : List (List (List Edge))) (held : Held starts ids ends' spans pieces words lattices) (w : ℕ) (l : w < words) where
  abbrev before : List (List (List Edge))
  before = take w lattices

  abbrev here : List (List Edge)
  here = get_or lattices w []

  abbrev after : List (List (List Edge))
  after = drop (suc w) lattices

  inside : w < length lattices
  inside = let m = held.many in omega arith

  split : lattices ≡ before ++ here ∷ after
  split = split_at lattices w [] inside

  -- its edges, by start or by id
  column : (f : Edge → ℕ) (xs : List ℕ) → Begins xs (map f (edges lattices)) → Front xs (length (edges before)) (map f (joined here))
  column f xs begins =
      let e : map f (edges lattices) ≡ map f (edges before) ++ (map f (joined here) ++ map f (edges after)) =
      ap (λ (ls : List (List (List Edge))). map f (edges ls)) split
      ∙ ap (map f) (edges_append before (here ∷ after))
      ∙ map-append f (edges before) (edges (here ∷ after))
      ∙ ap (λ (r : List ℕ). map f (edges before) ++ r) (first_edges f here after) in
      let long : 0 + length (map f (edges before)) ≡ length (edges before) = zero-add _ ∙ length-map (edges before) f in
      first_front xs (length (edges before)) (map f (joined here)) (map f (edges after))
      (next_front xs 0 (map f (edges before)) (map f (joined here) ++ map f (edges after)) (subst (Front xs 0) e (begins_front xs _ begins)) (length (edges before)) long)

  -- its offsets
  own_offsets : Front ends' (length (ends before)) (offsets here)
  own_offsets =
      let e : ends lattices ≡ ends before ++ (offsets here ++ ends after) = ap ends split ∙ ends_append before (here ∷ after) in
      first_front ends' (length (ends before)) (offsets here) (ends after)
      (next_front ends' 0 (ends before) (offsets here ++ ends after) (subst (Front ends' 0) e (begins_front ends' _ held.ends_are)) (length (ends before)) (zero-add _))

  -- its span
  abbrev span : Span
  span = record { from = length (edges before); to = length (edges before) + edge_count here; at = length (ends before); n = char_count here }

  own_four : Front spans (4 * w) (span.from ∷ span.to ∷ span.at ∷ span.n ∷ [])
  own_four =
      let rest = spans_from span.to (span.at + length (offsets here)) after in
      let e : spans_from 0 0 lattices ≡ spans_from 0 0 before ++ ((span.from ∷ span.to ∷ span.at ∷ span.n ∷ []) ++ rest) =
      ap (spans_from 0 0) split ∙ spans_append 0 0 before (here ∷ after)
      ∙ ap₂ (λ (x y : ℕ). spans_from 0 0 before ++ spans_from x y (here ∷ after)) (zero-add _) (zero-add _) in
      let long : 0 + length (spans_from 0 0 before) ≡ 4 * w = let a = spans_long 0 0 before in let i = inside in let b = length-take-le w lattices (omega arith) in omega arith in
      first_front spans (4 * w) (span.from ∷ span.to ∷ span.at ∷ span.n ∷ []) rest
      (next_front spans 0 (spans_from 0 0 before) ((span.from ∷ span.to ∷ span.at ∷ span.n ∷ []) ++ rest) (subst (Front spans 0) e (begins_front spans _ held.spans_are)) (4 * w) long)

  pub own_span : span_at spans w ≡ span
  own_span =
      let f = own_four in
      let is = sym (four spans (4 * w) (4 * w + 4) refl f.fits) ∙ f.is in
      same_span (ap (λ (ys : List ℕ). get_or ys 0 0) is) (ap (λ (ys : List ℕ). get_or ys 1 0) is) (ap (λ (ys : List ℕ). get_or ys 2 0) is) (ap (λ (ys : List ℕ). get_or ys 3 0) is)

  own_edges : (f : Edge → ℕ) (xs : List ℕ) → Begins xs (map f (edges lattices)) → slice span.from span.to xs ≡ map f (joined here)
  own_edges f xs begins = let c = column f xs begins in ap (λ (k : ℕ). slice span.from (span.from + k) xs) (sym (length-map (joined here) f)) ∙ c.is

  rows_there : (ls : List (List (List Edge))) (v : ℕ) → v < length ls → Lattices pieces ls → 0 < length (get_or ls v [])
  rows_there [] v h sound = absurd (omega arith)
  rows_there ([] ∷ ls) v h sound = absurd sound
  rows_there ((row ∷ rows) ∷ ls) zero h sound = omega arith
  rows_there ((row ∷ rows) ∷ ls) (suc v) h sound = rows_there ls v (omega arith) sound.1

  -- the slices at its span are its flat lists, whatever is made of them
  pub at_span : {A : Type 0} (f : List ℕ → List ℕ → List ℕ → ℕ → A)
      → f (slice (span_at spans w).at ((span_at spans w).at + (span_at spans w).n + 2) ends') (slice (span_at spans w).from (span_at spans w).to starts) (slice (span_at spans w).from (span_at spans w).to ids) (span_at spans w).n
      ≡ f (offsets here) (map (λ e. e.start) (joined here)) (map (λ e. e.id) (joined here)) (char_count here)
  at_span f =
      let o = own_offsets in
      let a = offsets_long 0 here in
      let b = rows_there lattices w inside held.rows in
      let past : span.at + span.n + 2 ≡ length (ends before) + length (offsets here) = omega arith in
      let s = own_edges (λ e. e.start) starts held.starts_are in
      let i = own_edges (λ e. e.id) ids held.ids_are in
      ap (λ (x : Span). f (slice x.at (x.at + x.n + 2) ends') (slice x.from x.to starts) (slice x.from x.to ids) x.n) own_span
      ∙ ap (λ (x : List ℕ). f x (slice span.from span.to starts) (slice span.from span.to ids) span.n) (ap (λ (k : ℕ). slice span.at k ends') past ∙ o.is)
      ∙ ap₂ (λ (x y : List ℕ). f (offsets here) x y span.n) s i

-- ---- the parts that are cut out of the cache's slices
abbrev none : List ℕ
none = []

no_part : (k : ℕ) → take k none ≡ none
no_part zero = refl
no_part (suc k) = refl

part_is : (from to : ℕ) (xs : List ℕ) → take (to - from) (drop from xs) ≡ slice from to xs
part_is zero to xs = let z : to - 0 ≡ to = omega arith in ap (λ (k : ℕ). take k xs) z
part_is (suc from) zero xs = let z : 0 - suc from ≡ 0 = omega arith in ap (λ (k : ℕ). take k (drop (suc from) xs)) z
part_is (suc from) (suc to) [] = no_part (suc to - suc from)
part_is (suc from) (suc to) (x ∷ xs) = let z : suc to - suc from ≡ to - from = omega arith in ap (λ (k : ℕ). take k (drop from xs)) z ∙ part_is from to xs

module _ (offs starts ids spans : List ℕ) (word : ℕ) (span : Span) (is : span ≡ span_at spans word) where
  -- they are the slices at the word's span, whatever is made of them
  pub cut_is {ℓ} : {A : Type ℓ} (f : List ℕ → List ℕ → List ℕ → ℕ → A)
      → f (take (span.at + span.n + 2 - span.at) (drop span.at offs)) (take (span.to - span.from) (drop span.from starts)) (take (span.to - span.from) (drop span.from ids)) span.n
      ≡ f (slice (span_at spans word).at ((span_at spans word).at + (span_at spans word).n + 2) offs) (slice (span_at spans word).from (span_at spans word).to starts) (slice (span_at spans word).from (span_at spans word).to ids) (span_at spans word).n
  cut_is f =
      ap (λ (x : List ℕ). f x (take (span.to - span.from) (drop span.from starts)) (take (span.to - span.from) (drop span.from ids)) span.n) (part_is span.at (span.at + span.n + 2) offs)
      ∙ ap₂ (λ (x y : List ℕ). f (slice span.at (span.at + span.n + 2) offs) x y span.n) (part_is span.from span.to starts) (part_is span.from span.to ids)
      ∙ ap (λ (x : Span). f (slice x.at (x.at + x.n + 2) offs) (slice x.from x.to starts) (slice x.from x.to ids) x.n) is
