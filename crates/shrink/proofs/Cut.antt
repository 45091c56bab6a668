-- Slices cut to the pieces and edges there are, and whole again. Assumes nothing.
use mathlib.Core.Path.{◌≡◌, sym, ap, ◌∙◌, subst}
use mathlib.Core.List.{List, ◌++◌}
use Prim.Native.Nat.{ℕ, ◌*◌, ◌≤◌}
use native.Mathlib.Omega.{arith}
use lib.ListN.{length, take, drop, length-take, length-append, length-drop}
use lib.Seq.{take_all, take-append-le, take_at}
use lib.Ieee.{Float}
use Rattle.spans.specs.Spans.{listed}
use Rattle.spans.specs.Check.{AllGood}
use Rattle.lattice.specs.Layout.{flat}
use Rattle.lattice.proofs.Fronts.{begin_long}
use Rattle.retain.proofs.Held.{same_many}
use Rattle.model.specs.Model.{Model, Task, lattices, pruned_to}
use Rattle.shrink.specs.declared.Shrunk.{Shrunk}
use Rattle.shrink.specs.At.{Slices, At, Fixed}
use Rattle.shrink.specs.Steps.{Exact, AtExactly, Weighing, Narrowing, Shrinking, Weighed, Narrowed}
use Rattle.shrink.proofs.Fronts.{cut_begins, longer_begins}

-- a list that is cut has so many items
pub cut_long : {A : Type 0} (k : ℕ) (l : List A) → k ≤ length l → k ≡ length (take k l)
cut_long k l h = omega (arith, length-take k l)

-- and is no shorter where its front was written over
pub front_in : {A : Type 0} (k : ℕ) (l rest : List A) → length l ≡ k → k ≤ length (l ++ rest)
front_in k l rest e = omega (arith, length-append l rest)

abbrev pub cut : Slices → ℕ → ℕ → Slices
cut s count edges =
    record { pieces = take (2 * count) s.pieces; scores = take count s.scores; offsets = s.offsets; starts = take edges s.starts; ids = take edges s.ids; spans = s.spans }

module _ {t : Task} {text : List ℕ} {m : Model} {s : Slices} {count edges : ℕ} (at : At t text m s count edges) where
  pub in_ids : edges ≤ length s.ids
  in_ids = let a = begin_long (flat (lattices t m)).ids s.ids at.begins.ids_begin in let b = at.edges_are in omega arith

  pub in_starts : edges ≤ length s.starts
  in_starts =
      let a = begin_long (flat (lattices t m)).starts s.starts at.begins.starts_begin in
      let b = at.edges_are in
      let c = same_many (lattices t m) in
      omega arith

  pub cut_exact : Exact (cut s count edges)
  cut_exact =
      record {
        two_a_piece = sym (cut_long (2 * count) s.pieces at.in_pieces) ∙ ap (λ (k : ℕ). 2 * k) (cut_long count s.scores at.in_scores);
        equally_many = sym (cut_long edges s.starts in_starts) ∙ cut_long edges s.ids in_ids;
      }

  again : {A : Type 0} (k : ℕ) (l : List A) → take k (take k l) ≡ take k l
  again k l = take_all k (take k l) (omega (arith, length-take k l))

  cut_at_all : At t text m (cut s count edges) count edges
  cut_at_all =
      record {
        pieces_are = ap (listed text) (again (2 * count) s.pieces) ∙ at.pieces_are;
        scores_are = again count s.scores ∙ at.scores_are;
        in_pieces = let a = cut_long (2 * count) s.pieces at.in_pieces in omega arith;
        in_scores = let a = cut_long count s.scores at.in_scores in omega arith;
        good = subst (λ (l : List ℕ). AllGood text l 255 count) (sym (again (2 * count) s.pieces)) at.good;
        once = at.once;
        begins = cut_begins t.setting m.pieces t.words s.offsets s.starts s.ids s.spans at.begins edges at.edges_are;
        edges_are = at.edges_are;
      }

  pub cut_at : AtExactly t text m (cut s count edges)
  cut_at =
      subst (λ (k : ℕ). At t text m (cut s count edges) k (length (take edges s.ids))) (cut_long count s.scores at.in_scores)
      (subst (λ (k : ℕ). At t text m (cut s count edges) count k) (cut_long edges s.ids in_ids) cut_at_all)

  -- with what stands behind
  pub whole_at : (pieces starts ids : List ℕ) (scores : List Float)
      → At t text m (record { pieces = s.pieces ++ pieces; scores = s.scores ++ scores; offsets = s.offsets; starts = s.starts ++ starts; ids = s.ids ++ ids; spans = s.spans }) count edges
  whole_at pieces starts ids scores =
      record {
        pieces_are = ap (listed text) (take-append-le (2 * count) s.pieces pieces at.in_pieces) ∙ at.pieces_are;
        scores_are = take-append-le count s.scores scores at.in_scores ∙ at.scores_are;
        in_pieces = let a = at.in_pieces in let b = length-append s.pieces pieces in omega arith;
        in_scores = let a = at.in_scores in let b = length-append s.scores scores in omega arith;
        good = subst (λ (l : List ℕ). AllGood text l 255 count) (sym (take-append-le (2 * count) s.pieces pieces at.in_pieces)) at.good;
        once = at.once;
        begins = longer_begins t.setting m.pieces t.words s.offsets s.starts s.ids s.spans at.begins starts ids;
        edges_are = at.edges_are;
      }

-- ---- what both steps are given
module _ (setting : ℕ) (text : List ℕ) (words : ℕ) (frequencies : List ℕ) (required count edges : ℕ) (s : Slices) (used : List Float) (bits ranked remap : List ℕ) (keys ends : ℕ)
    (w : Shrinking setting text words frequencies required count edges s (length used) (length bits) (length ranked) (length remap) keys ends) where
  scores_long : count ≡ length (take count s.scores)
  scores_long = cut_long count s.scores w.at.in_scores

  pub weighing : Weighing setting text words frequencies (cut s count edges) (length (take count used)) (length (take count bits)) keys ends
  weighing =
      record {
        t = w.t;
        m = w.m;
        fixed = w.fixed;
        at = cut_at w.at;
        exact = cut_exact w.at;
        in_used = sym (cut_long count used w.room.in_used) ∙ scores_long;
        in_bits = sym (cut_long count bits w.room.in_bits) ∙ scores_long;
        few = let a = scores_long in let b = w.room.few in omega arith;
        trie_room = w.room.trie_room;
      }

  module _ (bits' : List ℕ) (b : length bits' ≡ length (take count bits)) where
    pub bits_long : length bits' ≡ count
    bits_long = b ∙ sym (cut_long count bits w.room.in_bits)

    pub narrowing : (rest : List ℕ) → (x : List ℕ) × Narrowing x words required (cut s count edges) (take count (bits' ++ rest)) (length (take count ranked)) (length (take count remap))
    narrowing rest = (
      text,
      record {
        t = w.t;
        m = w.m;
        at = cut_at w.at;
        exact = cut_exact w.at;
        words_are = w.fixed.words_are;
        in_bits = sym (cut_long count (bits' ++ rest) (front_in count bits' rest bits_long)) ∙ scores_long;
        in_ranked = sym (cut_long count ranked w.room.in_ranked) ∙ scores_long;
        in_remap = sym (cut_long count remap w.room.in_remap) ∙ scores_long;
        few = let a = scores_long in let b = w.room.few in omega arith;
        there = let a = scores_long in let b = w.there in omega arith;
      },
    )

    -- ---- and what comes of them
    pub shrunk : (rest : List ℕ) (keep : ℕ) (s' : Slices) (r : Shrunk) → Weighed setting text words frequencies (cut s count edges) bits'
        → ((x : List ℕ) → Narrowed x words required keep (cut s count edges) (take count (bits' ++ rest)) s' r)
        → (pieces starts ids : List ℕ) (scores : List Float) (t : Task) (m : Model) → Fixed t setting words frequencies → t.required ≡ required → At t text m s count edges
        → At t text (pruned_to t keep m) (record { pieces = s'.pieces ++ pieces; scores = s'.scores ++ scores; offsets = s'.offsets; starts = s'.starts ++ starts; ids = s'.ids ++ ids; spans = s'.spans }) r.pieces r.edges
    shrunk rest keep s' r weighed narrowed pieces starts ids scores t m fixed e at =
        whole_at {s = s'}
        (narrowed text t m fixed.words_are e (cut_at at) (take_at bits' rest count bits_long ∙ weighed t m fixed (cut_at at)))
        pieces starts ids scores

-- a list whose front is written over twice is as long as it was
pub as_long : {A : Type 0} (k : ℕ) (l once twice : List A) → k ≤ length l → length once ≡ length (take k l)
    → length twice ≡ length (take k (once ++ drop k l)) → length (twice ++ drop k (once ++ drop k l)) ≡ length l
as_long k l once twice h a b =
    let c = length-take k l in
    let d = length-append once (drop k l) in
    let e = length-drop k l in
    let f = length-take k (once ++ drop k l) in
    let g = length-drop k (once ++ drop k l) in
    let i = length-append twice (drop k (once ++ drop k l)) in
    omega arith
