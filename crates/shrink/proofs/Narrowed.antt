-- From the bits of losses to the survivors: pieces, scores and lattices stay in step. Assumes nothing.
use mathlib.Core.Path.{◌≡◌, sym, ap, ◌∙◌, subst}
use mathlib.Core.List.{List}
use Prim.Native.Nat.{ℕ, ◌*◌, ◌≤◌}
use native.Mathlib.Omega.{arith}
use lib.ListN.{length, take, drop, length-append}
use lib.Ieee.{Float}
use Rattle.spans.specs.Spans.{listed}
use Rattle.spans.specs.Check.{AllGood}
use Rattle.lattice.specs.Pieces.{Distinct}
use Rattle.lattice.specs.Lattice.{Edge, cache}
use Rattle.lattice.specs.Layout.{flat}
use Rattle.lattice.specs.Written.{Begins, Written}
use Rattle.lattice.specs.Pruning.{gone, Remap, survivors, retained}
use Rattle.lattice.proofs.Survivors.{still_distinct}
use Rattle.retain.specs.Retain.{Laid, Cached}
use Rattle.retain.specs.Calls.{Slices as Four, Call, Leaves}
use Rattle.retain.proofs.Theorems.{takes_built, afresh}
use Rattle.retain.proofs.Held.{holds}
use Rattle.prune.specs.Prune.{kept, remap_of}
use Rattle.prune.specs.Compact.{surviving, compacted, twice}
use Rattle.prune.specs.Steps.{Pruning}
use Rattle.prune.proofs.Theorems.{entries, is_remap, how_many, pieces_left, items_left}
use Rattle.prune.proofs.Remaps.{front, pairs_left_long}
use Rattle.model.specs.Model.{Model, Task, lattices, loss_bits, remap_to, pruned_to}
use Rattle.model.proofs.Kept.{pruned_pieces, pruned_scores}
use Rattle.shrink.specs.At.{Slices, At}
use Rattle.shrink.specs.Steps.{AtExactly, Narrowing}
use Rattle.shrink.proofs.Good.{survivors_good}
use Rattle.shrink.proofs.Weighed.{many_are, listed_are, scores_same, pieces_many as as_many, all_good}

-- the cache's four slices
abbrev four : Slices → Four
four s = record { offsets = s.offsets; starts = s.starts; ids = s.ids; spans = s.spans }

module _ (text : List ℕ) (words required : ℕ) (s : Slices) (bits ranked remap : List ℕ) (n : Narrowing text words required s bits (length ranked) (length remap)) where
  -- ---- who survives
  pub pruning : Pruning bits required ranked remap
  pruning =
      record {
        in_ranked = n.in_ranked ∙ sym n.in_bits;
        in_remap = n.in_remap ∙ sym n.in_bits;
        there = let a = n.there in let b = n.in_bits in omega arith;
        few = let a = n.few in let b = n.in_bits in omega arith;
      }

  there : required ≤ length bits
  there = pruning.there

  few : length bits ≤ gone
  few = pruning.few

  module _ (keep : ℕ) (remap' : List ℕ) (r : remap' ≡ remap_of bits required keep) where
    pub entries_are : length remap' ≡ length s.scores
    entries_are = ap length r ∙ entries bits required keep there ∙ n.in_bits

    pub pieces_room : 2 * length remap' ≤ length s.pieces
    pieces_room = let a = entries_are in let b = n.exact.two_a_piece in omega arith

    pub scores_room : length remap' ≤ length s.scores
    scores_room = let a = entries_are in omega arith

    -- ---- the lattices
    as_pieces : {text : List ℕ} {t : Task} {m : Model} → AtExactly t text m s → length remap' ≡ length m.pieces
    as_pieces at = entries_are ∙ sym (as_many n.exact at)

    pub cached : Cached words remap' s.offsets s.starts s.ids s.spans
    cached = (
      lattices n.t n.m,
      subst (λ (k : ℕ). Laid k remap' s.offsets s.starts s.ids s.spans (lattices n.t n.m)) n.words_are
          (takes_built n.t.setting n.m.pieces n.t.words remap' (four s) (as_pieces n.at) n.at.begins),
    )

    -- ---- what is left of all
    module _ (pieces' : List ℕ) (scores' : List Float) (y : Four) (left edges : ℕ)
        (l : left ≡ kept required keep (length bits))
        (p : pieces' ≡ compacted (twice remap') s.pieces)
        (q : scores' ≡ compacted remap' s.scores)
        (call : (lattices : List (List (List Edge))) → Laid words remap' s.offsets s.starts s.ids s.spans lattices → Written (retained remap' lattices) s.offsets s.starts s.ids s.spans y.offsets y.starts y.ids y.spans edges) where
      scores_left : left ≡ length (surviving remap' s.scores)
      scores_left =
          l
          ∙ sym (how_many bits required keep there few s.scores (sym n.in_bits))
          ∙ ap (λ (x : List ℕ). length (surviving x s.scores)) (sym r)

      pieces_two : 2 * left ≡ length (surviving (twice remap') s.pieces)
      pieces_two =
          let a = pairs_left_long remap' s.pieces s.scores pieces_room (sym entries_are) in
          let b = scores_left in
          omega arith

      in_front : take (2 * left) pieces' ≡ surviving (twice remap') s.pieces
      in_front = ap (take (2 * left)) p ∙ front (twice remap') s.pieces (2 * left) pieces_two

      module _ (own : List ℕ) (t : Task) (m : Model) (w : length t.words ≡ words) (e : t.required ≡ required) (at : AtExactly t own m s) (b : bits ≡ loss_bits t m) where
        same_remap : remap' ≡ remap_to t keep m
        same_remap = r ∙ ap (λ (x : List ℕ). remap_of x required keep) b ∙ ap (λ (x : ℕ). remap_of (loss_bits t m) x keep) (sym e)

        new_pieces : (pruned_to t keep m).pieces ≡ survivors remap' m.pieces
        new_pieces = pruned_pieces t keep m ∙ ap (λ (x : List ℕ). survivors x m.pieces) (sym same_remap)

        leaves : Leaves (cache t.setting (survivors remap' m.pieces) t.words) (four s) y edges
        leaves =
            afresh t.setting (subst (Remap 0) (sym r) (is_remap bits required keep there few)) at.once (as_pieces at) t.words
            (subst (λ (k : ℕ). Call k remap' (four s) y edges) (sym w) call) at.begins

        pub narrowed : At t own (pruned_to t keep m) (record { pieces = pieces'; scores = scores'; offsets = y.offsets; starts = y.starts; ids = y.ids; spans = y.spans }) left edges
        narrowed =
            record {
              pieces_are =
                  ap (λ (x : List ℕ). listed own (take (2 * left) x)) p
                  ∙ pieces_left own remap' s.pieces pieces_room left pieces_two
                  ∙ ap (survivors remap') (listed_are n.exact at)
                  ∙ sym new_pieces;
              scores_are =
                  ap (take left) q
                  ∙ items_left remap' s.scores left scores_left
                  ∙ ap (surviving remap') (scores_same n.exact at)
                  ∙ ap (λ (x : List ℕ). surviving x m.scores) same_remap
                  ∙ sym (pruned_scores t keep m);
              in_pieces =
                  let a = ap length p in
                  let b = length-append (surviving (twice remap') s.pieces) (drop (length (surviving (twice remap') s.pieces)) s.pieces) in
                  let c = pieces_two in
                  omega arith;
              in_scores =
                  let a = ap length q in
                  let b = length-append (surviving remap' s.scores) (drop (length (surviving remap' s.scores)) s.scores) in
                  let c = scores_left in
                  omega arith;
              good =
                  subst (λ (x : List ℕ). AllGood own x 255 left) (sym in_front)
                  (survivors_good own remap' s.pieces 255 pieces_room
                  (subst (λ (k : ℕ). AllGood own s.pieces 255 k) (many_are n.exact at ∙ sym entries_are) (all_good n.exact at)) left pieces_two);
              once = subst Distinct (sym new_pieces) (still_distinct remap' at.once);
              begins =
                  subst (λ (x : List (List ℕ)). Begins (cache t.setting x t.words) y.offsets y.starts y.ids y.spans) (sym new_pieces)
                  (holds {x = four s} {y = y} {count = edges} leaves);
              edges_are =
                  leaves.edges
                  ∙ ap (λ (x : List (List ℕ)). length (flat (cache t.setting x t.words)).ids) (sym new_pieces);
            }
