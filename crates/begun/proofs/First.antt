-- The first lattices can be built, and what the rounds begin with is sound. Assumes nothing.
use Rattle.std.specs.Prelude.{Ok, Err}
use mathlib.Core.Path.{◌≡◌, refl, sym, ap, ◌∙◌, subst}
use mathlib.Core.List.{List, ◌++◌}
use Prim.Native.Nat.{ℕ, ◌+◌, ◌-◌, ◌*◌, ◌/◌, ◌≤◌}
use native.Mathlib.Nat.{lt_irrefl}
use native.Mathlib.Omega.{arith}
use lib.ListN.{length, take, drop, replicate, length-take, length-replicate}
use lib.Seq.{drop-append_seam}
use lib.Ieee.{Float}
use Rattle.refusal.specs.declared.Refusal.{Refusal}
use Rattle.ranking.specs.Seed.{counts}
use Rattle.ranking.specs.Scores.{seed_scores}
use Rattle.lattice.specs.Lattice.{Edge, cache}
use Rattle.lattice.specs.Layout.{flat}
use Rattle.lattice.specs.Written.{over, Begins}
use Rattle.inputs.specs.Inputs as inputs
use Rattle.inputs.proofs.Theorems.{one_answer}
use Rattle.listing.specs.Start.{Lent, Work, Left, Given, corpus}
use Rattle.fresh.specs.Slots.{filled, Holds}
use Rattle.fresh.specs.Build as fresh
use Rattle.fresh.specs.Steps.{InOrder, Follows}
use Rattle.model.specs.Model.{Model, lattices}
use Rattle.model.specs.Nodes.{nodes}
use Rattle.model.specs.Loop.{Sound}
use Rattle.model.proofs.Nodes.{nodes_listed}
use Rattle.shrink.specs.At.{At, Fixed, Room}
use Rattle.begun.specs.First.{first_model, target_in, task_of, seed_texts, built_of, TrieFits, Unlaid, no_trie, no_cache}
use Rattle.begun.proofs.Words as words
use Rattle.begun.proofs.Pieces as pieces

-- ---- slices that are filled begin with what they are filled with
filled_begins : (front l : List ℕ) (n : ℕ) → l ≡ filled front n → l ≡ over front l
filled_begins front l n e =
    let rest : List ℕ = replicate (n - length front) 0 in
    e ∙ ap (λ (x : List ℕ). front ++ x) (sym (ap (drop (length front)) e ∙ drop-append_seam front rest))

pub holds_begins : (lattices : List (List (List Edge))) (offsets starts ids spans offsets' starts' ids' spans' : List ℕ) (count : ℕ)
    → Holds lattices offsets starts ids spans offsets' starts' ids' spans' count → Begins lattices offsets' starts' ids' spans'
holds_begins lattices offsets starts ids spans offsets' starts' ids' spans' count h =
    record {
      offsets_begin = filled_begins (flat lattices).ends offsets' (length offsets) h.offsets_are;
      starts_begin = filled_begins (flat lattices).starts starts' (length starts) h.starts_are;
      ids_begin = filled_begins (flat lattices).ids ids' (length ids) h.ids_are;
      spans_begin = filled_begins (flat lattices).spans spans' (length spans) h.spans_are;
    }

module _ (x : Lent) (w : Work) (y : Left) (r count required : ℕ) (g : Given x w y r count required) where
  abbrev first : Model
  first = first_model (corpus x) (seed_texts x.text y.pieces count)

  -- ---- a build is in order, whatever the trie's slices are
  pub in_order_with : required ≤ target_in x → (keys ends table : List ℕ) → 2 * count ≤ length table → fresh.Ordered (built_of x y r count) (record { keys = keys; ends = ends; table = table })
  in_order_with h keys ends table t =
      let n = words.words_many x w y r count required g in
      let m = pieces.pieces_many x w y r count required g in
      let a = words.words_few x w y r count required g in
      let b = pieces.pieces_few x w y r count required g h in
      let c = g.fit.room.short_text in
      record {
        short = g.fit.settings_fit.length_within;
        bounded = record { few_words = omega arith; few_pieces = omega arith; short_text = c; short_pieces = c; table_room = omega arith };
        words_good = λ k l. words.words_good x w y r count required g k (omega arith);
        pieces_good = λ k l.
            let p = pieces.pieces_good x w y r count required g k (omega arith) in
            record { inside = p.inside; short = let q = p.short in omega arith; utf8 = p.utf8 };
        once = pieces.pieces_once x w y r count required g;
      }

  abbrev zeros : List ℕ
  zeros = replicate (2 * count) 0

  room : 2 * count ≤ length zeros
  room = let a = length-replicate {A = ℕ} (2 * count) 0 in omega arith

  pub in_order : required ≤ target_in x → (keys ends : List ℕ) → InOrder (built_of x y r count) keys ends
  in_order h keys ends = (zeros, in_order_with h keys ends zeros room)

  -- so that its promise holds
  pub accepted : required ≤ target_in x → (keys ends : List ℕ) (z z' : fresh.Results) (edges : ℕ) → Follows (built_of x y r count) z keys ends z' (Ok edges)
      → fresh.Accepted (built_of x y r count) z (record { keys = keys; ends = ends; table = replicate (2 * count) 0 }) z' edges
  accepted h keys ends z z' edges f = f zeros (in_order_with h keys ends zeros room)

  -- ---- the first model
  pub first_sound : required ≤ target_in x → Sound (task_of x required) (first_model (corpus x) (seed_texts x.text y.pieces count))
  first_sound h =
      let n = pieces.pieces_count x w y r count required g in
      let a = pieces.required_there x w y r count required g in
      let b = pieces.pieces_few x w y r count required g h in
      record {
        scored = pieces.scores_long (corpus x) (seed_texts x.text y.pieces count);
        there = omega arith;
        asked = h;
        few = omega arith;
      }

  pub first_fixed : Fixed (task_of x required) x.settings.max_piece_chars r (take r y.counts)
  first_fixed =
      let a = words.counts_in x w y r count required g in
      let b = length-take r y.counts in
      record {
        setting_is = refl;
        narrow = g.fit.settings_fit.length_within;
        words_are = words.words_long x w y r count required g;
        short = words.words_short x w y r count required g;
        frequencies_are = sym (words.frequencies_are x w y r count required g);
        frequent = omega arith;
      }

  -- ---- after an accepted build
  lattices_are : fresh.afresh (built_of x y r count) ≡ lattices (task_of x required) first
  lattices_are = ap (cache x.settings.max_piece_chars (seed_texts x.text y.pieces count)) (words.words_listed x w y r count required g)

  trie_fits : (v : fresh.Work) → fresh.TrieRoom (built_of x y r count) v → TrieFits (seed_texts x.text y.pieces count) v.keys v.ends
  trie_fits v h = subst (λ (n : ℕ). n + 1 ≤ fresh.places v / 2) (sym (nodes_listed x.text (take (2 * count) y.pieces))) h

  trie_room : (v : fresh.Work) → TrieFits (seed_texts x.text y.pieces count) v.keys v.ends → fresh.TrieRoom (built_of x y r count) v
  trie_room v h = subst (λ (n : ℕ). n + 1 ≤ fresh.places v / 2) (nodes_listed x.text (take (2 * count) y.pieces)) h

  module _ (z : fresh.Results) (v : fresh.Work) (z' : fresh.Results) (edges : ℕ) (a : fresh.Accepted (built_of x y r count) z v z' edges) where
    holds : fresh.Fresh (lattices (task_of x required) first) z z' edges
    holds = subst (λ (l : List (List (List Edge))). fresh.Fresh l z z' edges) lattices_are a.fresh

    pub first_at : (scores : List Float) → take count scores ≡ seed_scores (counts (corpus x) (seed_texts x.text y.pieces count)) → count ≤ length scores
        → At (task_of x required) x.text (first_model (corpus x) (seed_texts x.text y.pieces count))
        (record { pieces = y.pieces; scores = scores; offsets = z'.offsets; starts = z'.starts; ids = z'.ids; spans = z'.spans }) count edges
    first_at scores e h =
        record {
          pieces_are = refl;
          scores_are = e;
          in_pieces = pieces.pieces_in x w y r count required g;
          in_scores = h;
          good = pieces.pieces_good x w y r count required g;
          once = pieces.pieces_distinct x w y r count required g;
          begins = holds_begins (lattices (task_of x required) first) z.offsets z.starts z.ids z.spans z'.offsets z'.starts z'.ids z'.spans edges holds;
          edges_are = holds.edges;
        }

    pub first_trie : nodes (seed_texts x.text y.pieces count) + 1 ≤ fresh.smaller (fresh.smaller (length v.keys) (length v.ends)) 4294967295 / 2
    first_trie = trie_fits v a.trie_room

    -- slots for each round's work
    pub first_room : required ≤ target_in x → (used : ℕ) → count ≤ used
        → Room (seed_texts x.text y.pieces count) count used (length w.ranks) (length w.order) (length w.work) (length v.keys) (length v.ends)
    first_room h used u =
        let s = pieces.pieces_each x w y r count required g in
        let b = pieces.pieces_few x w y r count required g h in
        record { in_used = u; in_bits = s.in_ranks; in_ranked = s.in_order; in_remap = s.in_work; few = omega arith; trie_room = first_trie }

  -- ---- after a refused one: words and pieces are in order, so that it is for room
  not_refused : (v : fresh.Work) {refusal : Refusal} → fresh.Ordered (built_of x y r count) v
      → inputs.Why x.settings.max_piece_chars x.text (take (2 * r) y.kept) x.text (take (2 * count) y.pieces) v.table refusal → ⊥
  not_refused v {refusal} o n =
      let e = one_answer x.settings.max_piece_chars x.text (take (2 * r) y.kept) x.text (take (2 * count) y.pieces) v.table (Ok tt) (Err refusal) o n in
      let z : ◌≡◌ {A = ℕ} 0 1 = cc in
      lt_irrefl 0 (omega arith)

  unlaid : (z : fresh.Results) (v : fresh.Work) {refusal : Refusal} → fresh.Ordered (built_of x y r count) v → fresh.Why (built_of x y r count) z v refusal
      → Unlaid (task_of x required) first v.keys v.ends z refusal
  unlaid z v o (fresh.not_in_order n) = absurd (not_refused v o n)
  unlaid z v o (fresh.no_trie _ n) = no_trie (λ t. n (trie_room v t))
  unlaid z v o (fresh.no_cache _ t n) =
      no_cache (trie_fits v t) (subst (λ (l : List (List (List Edge))). fresh.CacheRoom l z → ⊥) lattices_are n)

  pub refused : required ≤ target_in x → (keys ends : List ℕ) (z z' : fresh.Results) (refusal : Refusal) → Follows (built_of x y r count) z keys ends z' (Err refusal)
      → Unlaid (task_of x required) (first_model (corpus x) (seed_texts x.text y.pieces count)) keys ends z refusal × fresh.Unchanged z z'
  refused h keys ends z z' refusal f = let o = in_order_with h keys ends zeros room in let p = f zeros o in (unlaid z (record { keys = keys; ends = ends; table = zeros }) o p.0, p.1)
