-- From a seed list in its slices to the first lattices, to the rounds and to what they leave. Assumes nothing.
use mathlib.Core.Path.{◌≡◌, refl, sym, ap, ◌∙◌, subst}
use mathlib.Core.List.{List}
use Rattle.std.specs.Prelude.{Result, Ok, Err}
use Prim.Native.Nat.{ℕ, ◌*◌, ◌/◌, ◌≤◌}
use native.Mathlib.Omega.{arith}
use lib.ListN.{length, take, replicate}
use lib.Ieee.{Float}
use Rattle.refusal.specs.declared.Refusal.{Refusal}
use Rattle.settings.specs.declared.Settings.{Settings}
use Rattle.lattice.specs.Lattice.{cache}
use Rattle.ranking.specs.Seed.{counts}
use Rattle.ranking.specs.Scores.{seed_scores}
use Rattle.listing.specs.Start as start
use Rattle.fresh.specs.Build as fresh
use Rattle.fresh.specs.Steps.{InOrder, Follows}
use Rattle.model.specs.Model.{Model, Task, lattices}
use Rattle.shrink.specs.At.{Slices, At}
use Rattle.rounds.specs.Steps.{Settled, Rounding, Rounds}
use Rattle.begun.specs.First.{first_model, target_in, task_of, seed_texts, built_of, TrieFits, Unlaid}
use Rattle.begun.specs.Here.{Here, lent_of}
use Rattle.begun.proofs.Words as words
use Rattle.begun.proofs.Pieces as pieces
use Rattle.begun.proofs.First as first
use Rattle.shape.specs.Steps.{Shaping, ShapesTo}

module _ (settings : Settings) (target : ℕ) (text kept frequencies : List ℕ) (many count required : ℕ) (spans : List ℕ) (scores : List Float) where
  -- ---- whatever words the list comes from
  module _ {texts specials : List ℕ} (h : Here settings texts specials text kept frequencies many count required spans scores) where
    abbrev x : start.Lent
    x = lent_of h

    abbrev y : start.Left
    y = record { kept = kept; counts = frequencies; pieces = spans; tallies = h.begun.tallies; scores = h.begun.front }

    given : start.Given x h.work y many count required
    given = h.begun.answers

    abbrev t : Task
    t = task_of x required

    abbrev m : Model
    m = first_model (start.corpus x) (seed_texts text spans count)

    pub kept_in : 2 * many ≤ length kept
    kept_in = words.kept_in x h.work y many count required given

    pub frequencies_in : many ≤ length frequencies
    frequencies_in = words.counts_in x h.work y many count required given

    pub words_few : many ≤ 16384
    words_few = words.words_few x h.work y many count required given

    pub spans_in : 2 * count ≤ length spans
    spans_in = pieces.pieces_in x h.work y many count required given

    scores_are : take count scores ≡ seed_scores (counts (start.corpus x) (seed_texts text spans count))
    scores_are = ap (take count) h.begun.scores_are ∙ pieces.scores_are_with x h.work y many count required given h.begun.rest

    scores_in : count ≤ length scores
    scores_in =
        let a = pieces.scores_in_with x h.work y many count required given h.begun.rest in
        let b = ap length h.begun.scores_are in
        omega arith

    -- ---- no more are required than are asked for
    module _ (asked : required ≤ target_in x) where
      pub pieces_few : count ≤ 1048576
      pieces_few = pieces.pieces_few x h.work y many count required given asked

      pub in_order : (keys ends : List ℕ) → InOrder (built_of x y many count) keys ends
      in_order keys ends = first.in_order x h.work y many count required given asked keys ends

      module _ (keys ends : List ℕ) (z z' : fresh.Results) where
        pub refused : (refusal : Refusal) (r : Result ℕ Refusal) → r ≡ Err refusal → Follows (built_of x y many count) z keys ends z' r → Unlaid t m keys ends z refusal
        refused refusal r q f = (first.refused x h.work y many count required given asked keys ends z z' refusal (subst (Follows (built_of x y many count) z keys ends z') q f)).0

        module _ (edges : ℕ) (r : Result ℕ Refusal) (q : r ≡ Ok edges) (f : Follows (built_of x y many count) z keys ends z' r) where
          taken : fresh.Accepted (built_of x y many count) z (record { keys = keys; ends = ends; table = replicate (2 * count) 0 }) z' edges
          taken = first.accepted x h.work y many count required given asked keys ends z z' edges (subst (Follows (built_of x y many count) z keys ends z') q f)

          pub trie_fits : TrieFits m.pieces keys ends
          trie_fits = first.first_trie x h.work y many count required given z (record { keys = keys; ends = ends; table = replicate (2 * count) 0 }) z' edges taken

          pub cache_fits : fresh.CacheRoom (lattices t m) z
          cache_fits =
              subst (λ (l : List (List ℕ)). fresh.CacheRoom (cache settings.max_piece_chars (seed_texts text spans count) l) z)
              (words.words_listed x h.work y many count required given) taken.cache_room

          abbrev s : Slices
          s = record { pieces = spans; scores = scores; offsets = z'.offsets; starts = z'.starts; ids = z'.ids; spans = z'.spans }

          pub at : At t text m s count edges
          at = first.first_at x h.work y many count required given z (record { keys = keys; ends = ends; table = replicate (2 * count) 0 }) z' edges taken scores scores_are scores_in

          settled : target ≡ target_in x → Settled t settings.em_iterations settings.shrink_factor target required
          settled e = record { iterations_are = refl; factor_is = refl; target_is = sym e; required_are = refl }

          -- ---- what the rounds leave
          pub shaped : target ≡ target_in x → (pieces' : List ℕ) (scores' : List Float) (left : ℕ)
              → Rounds settings.max_piece_chars text many (take many frequencies) settings.em_iterations settings.shrink_factor target required count edges s pieces' scores' left
              → ShapesTo t m text keys ends z pieces' scores' (Ok left)
          shaped e pieces' scores' left d =
              (trie_fits, cache_fits, d t m (first.first_fixed x h.work y many count required given) (settled e) (first.first_sound x h.work y many count required given asked) at)

          -- ---- what they are given
          pub rounding : target ≡ target_in x → (expected ranks order work : ℕ) → count ≤ expected → count ≤ ranks → count ≤ order → count ≤ work → (keys' ends' : List ℕ)
              → length keys' ≡ length keys → length ends' ≡ length ends
              → Rounding settings.max_piece_chars text many (take many frequencies) settings.em_iterations settings.shrink_factor target required count edges s expected ranks order work (length keys') (length ends')
          rounding e expected ranks order work ie ir io iw keys' ends' k n =
              record {
                t = t;
                begin = m;
                fixed = first.first_fixed x h.work y many count required given;
                settled = settled e;
                sound = first.first_sound x h.work y many count required given asked;
                at = at;
                room =
                    record {
                      in_used = ie;
                      in_bits = ir;
                      in_ranked = io;
                      in_remap = iw;
                      few = let a = pieces_few in omega arith;
                      trie_room =
                          let a = trie_fits in
                          let b = ap (λ (i : ℕ). fresh.smaller (fresh.smaller i (length ends')) 4294967295 / 2) k in
                          let c = ap (λ (i : ℕ). fresh.smaller (fresh.smaller (length keys) i) 4294967295 / 2) n in
                          omega arith;
                    };
              }

  -- ---- by what the call asks
  module _ (order work ranks expected : ℕ) (w : Shaping settings target text kept frequencies many count required order work ranks spans scores expected) where
    pub asked_own : required ≤ target_in (lent_of w.here)
    asked_own = let a = w.asked in let b = w.target_is in omega arith

  pub asked_of : required ≤ target → {texts specials : List ℕ} (h : Here settings texts specials text kept frequencies many count required spans scores) → target ≡ target_in (lent_of h) → required ≤ target_in (lent_of h)
  asked_of a h e = omega arith
