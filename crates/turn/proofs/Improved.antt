-- EM over the pieces and edges in front: what it is given, and what it leaves of a model. Assumes nothing.
use mathlib.Core.Path.{◌≡◌, sym, ap, ◌∙◌, subst}
use mathlib.Core.List.{List, ◌++◌}
use Prim.Native.Nat.{ℕ, ◌*◌, ◌/◌, ◌≤◌}
use native.Mathlib.Omega.{arith}
use lib.ListN.{length, take, drop, length-append}
use lib.Seq.{take_at}
use lib.Ieee.{Float}
use Rattle.spans.specs.Spans.{many, chars_at}
use Rattle.lattice.specs.Pieces.{Distinct}
use Rattle.lattice.specs.Lattice.{Edge, cache}
use Rattle.lattice.specs.Layout.{flat}
use Rattle.lattice.specs.Written.{Begins}
use Rattle.trie.proofs.Same.{length_first}
use Rattle.cached.specs.Held.{Held}
use Rattle.em.specs.Em.{em_many}
use Rattle.em.specs.Steps.{Given}
use Rattle.em.proofs.Theorems.{as_many}
use Rattle.model.specs.Model.{Model, Task, lattices, improved, improved_once}
use Rattle.model.proofs.Small.{all_small}
use Rattle.model.proofs.Kept.{improved_is, improved_once_is}
use Rattle.shrink.specs.At.{Slices, At, Fixed}
use Rattle.shrink.proofs.Fronts.{held, cut_begins}
use Rattle.shrink.proofs.Cut.{cut_long, in_starts, in_ids}
use Rattle.turn.specs.Steps.{Improving, Improves}

-- as many pieces as are counted
pub at_count : {t : Task} {text : List ℕ} {m : Model} {s : Slices} {count edges : ℕ} → At t text m s count edges → length m.pieces ≡ count
at_count {t} {text} {m} {s} {count} at =
    ap length (sym at.pieces_are)
    ∙ length_first (chars_at text (take (2 * count) s.pieces)) (many (take (2 * count) s.pieces))
    ∙ half (length (take (2 * count) s.pieces)) count (sym (cut_long (2 * count) s.pieces at.in_pieces))
  where
    half : (n k : ℕ) → n ≡ 2 * k → n / 2 ≡ k
    half n k e = omega arith

-- and as many scores
pub at_scores : {t : Task} {text : List ℕ} {m : Model} {s : Slices} {count edges : ℕ} → At t text m s count edges → length m.scores ≡ count
at_scores {s = s} {count = count} at = ap length (sym at.scores_are) ∙ sym (cut_long count s.scores at.in_scores)

-- ---- the call of EM
module _ (words : ℕ) (frequencies : List ℕ) (count edges : ℕ) (scores expected : List Float) (offsets starts ids spans : List ℕ)
    (g : Improving words frequencies count edges scores (length expected) offsets starts ids spans) where
  long : count ≡ length (take count scores)
  long = cut_long count scores g.in_scores

  pub given : Given offsets (take edges starts) (take edges ids) spans frequencies words (length (take count scores)) × (length (take count expected) ≡ length (take count scores))
  given = (
    record {
      lattices = g.lattices;
      held = subst (λ (k : ℕ). Held (take edges starts) (take edges ids) offsets spans k words g.lattices) long g.held;
      equally_many = sym (cut_long edges starts g.in_starts) ∙ cut_long edges ids g.in_ids;
      small = g.small;
      frequent = g.frequent;
    },
    sym (cut_long count expected g.in_expected) ∙ long,
  )

  pub improves : (iterations : ℕ) (new : List Float)
      → ((ls : List (List (List Edge))) → Held (take edges starts) (take edges ids) offsets spans (length (take count scores)) words ls → new ≡ em_many ls frequencies iterations (take count scores))
      → Improves words frequencies iterations count edges scores offsets starts ids spans (new ++ drop count scores)
  improves iterations new e ls h =
      ap (λ (x : List Float). x ++ drop count scores)
      (e ls (subst (λ (k : ℕ). Held (take edges starts) (take edges ids) offsets spans k words ls) long h))

-- ---- by a model
module _ {t : Task} {setting : ℕ} {text : List ℕ} {words : ℕ} {frequencies : List ℕ} (fixed : Fixed t setting words frequencies)
    {m : Model} {s : Slices} {count edges : ℕ} (at : At t text m s count edges) where
  held_in : Held (take edges s.starts) (take edges s.ids) s.offsets s.spans count words (lattices t m)
  held_in =
      held t.setting m.pieces t.words s.offsets (take edges s.starts) (take edges s.ids) s.spans
      (cut_begins t.setting m.pieces t.words s.offsets s.starts s.ids s.spans at.begins edges at.edges_are) words count (at_count at) fixed.words_are

  pub improving : (expected : ℕ) → count ≤ expected → Improving words frequencies count edges s.scores expected s.offsets s.starts s.ids s.spans
  improving expected h =
      record {
        lattices = lattices t m;
        held = held_in;
        in_starts = in_starts at;
        in_ids = in_ids at;
        small = λ word l.
            all_small t.setting (let a = fixed.setting_is in let b = fixed.narrow in omega arith) m.pieces t.words fixed.short word
            (let a = fixed.words_are in omega arith);
        frequent = fixed.frequent;
        in_scores = at.in_scores;
        in_expected = h;
      }

  module _ (iterations : ℕ) {scores' : List Float} (e : Improves words frequencies iterations count edges s.scores s.offsets s.starts s.ids s.spans scores') where
    abbrev new : List Float
    new = em_many (lattices t m) frequencies iterations (take count s.scores)

    new_long : length new ≡ count
    new_long = as_many (lattices t m) frequencies iterations (take count s.scores) ∙ sym (cut_long count s.scores at.in_scores)

    front : take count scores' ≡ new
    front = ap (take count) (e (lattices t m) held_in) ∙ take_at new (drop count s.scores) count new_long

    new_is : new ≡ em_many (lattices t m) t.frequencies iterations m.scores
    new_is =
        ap (λ (f : List ℕ). em_many (lattices t m) f iterations (take count s.scores)) (sym fixed.frequencies_are)
        ∙ ap (em_many (lattices t m) t.frequencies iterations) at.scores_are

    room : count ≤ length scores'
    room = let a = ap length (e (lattices t m) held_in) in let b = length-append new (drop count s.scores) in let c = new_long in omega arith

    -- the same pieces and lattices with other scores
    rescored : (n : Model) → n.pieces ≡ m.pieces → n.scores ≡ em_many (lattices t m) t.frequencies iterations m.scores
        → At t text n (record { pieces = s.pieces; scores = scores'; offsets = s.offsets; starts = s.starts; ids = s.ids; spans = s.spans }) count edges
    rescored n p q =
        record {
          pieces_are = at.pieces_are ∙ sym p;
          scores_are = front ∙ new_is ∙ sym q;
          in_pieces = at.in_pieces;
          in_scores = room;
          good = at.good;
          once = subst Distinct (sym p) at.once;
          begins = subst (λ (x : List (List ℕ)). Begins (cache t.setting x t.words) s.offsets s.starts s.ids s.spans) (sym p) at.begins;
          edges_are = at.edges_are ∙ ap (λ (x : List (List ℕ)). length (flat (cache t.setting x t.words)).ids) (sym p);
        }

    pub improved_at : t.iterations ≡ iterations → At t text (improved t m) (record { pieces = s.pieces; scores = scores'; offsets = s.offsets; starts = s.starts; ids = s.ids; spans = s.spans }) count edges
    improved_at i =
        rescored (improved t m) (ap (λ (x : Model). x.pieces) (improved_is t m))
        (ap (λ (x : Model). x.scores) (improved_is t m) ∙ ap (λ (k : ℕ). em_many (lattices t m) t.frequencies k m.scores) i)

    -- "One last EM follows."
    pub improved_last : iterations ≡ 1 → At t text (improved_once t m) (record { pieces = s.pieces; scores = scores'; offsets = s.offsets; starts = s.starts; ids = s.ids; spans = s.spans }) count edges
    improved_last i =
        rescored (improved_once t m) (ap (λ (x : Model). x.pieces) (improved_once_is t m))
        (ap (λ (x : Model). x.scores) (improved_once_is t m) ∙ ap (λ (k : ℕ). em_many (lattices t m) t.frequencies k m.scores) (sym i))
