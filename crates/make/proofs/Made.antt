-- From the pieces that are left to the tokens, and what each refusal says. Assumes nothing.
use mathlib.Core.Path.{◌≡◌, refl, sym, ap, ◌∙◌, subst}
use mathlib.Core.List.{List, [], ◌∷◌, ◌++◌, map}
use Prim.Native.Nat.{ℕ, zero, suc, ◌+◌, ◌*◌, ◌/◌, ◌≤◌, ◌<◌}
use native.Mathlib.Omega.{arith}
use Rattle.std.specs.Prelude.{Result, Ok, Err}
use lib.Dec.{ltb}
use lib.ListN.{length, take}
use lib.Ieee.{Float}
use Rattle.refusal.specs.declared.Refusal.{Refusal}
use Rattle.refusal.specs.declared.Refusal.TheVariants.{VocabTooSmall}
use Rattle.settings.specs.declared.Settings.{Settings}
use Rattle.settings.specs.Settings.{target_of}
use Rattle.utf8.specs.Encode.{spelling}
use Rattle.spans.specs.Spans.{many, octets, chars_at, first}
use Rattle.spans.specs.Check.{AllGood}
use Rattle.trie.proofs.Same.{length_first}
use Rattle.listing.specs.Start as start
use Rattle.fresh.specs.Build as fresh
use Rattle.model.specs.Model.{Model, stalled}
use Rattle.model.proofs.Theorems.{trained_pieces, rounds_fewer}
use Rattle.shrink.proofs.Cut.{cut_long}
use Rattle.rounds.specs.Steps.{Left}
use Rattle.begun.specs.First.{first_model, target_in, task_of, seed_texts}
use Rattle.begun.specs.Here.{Here, lent_of}
use Rattle.begun.proofs.Pieces as pieces
use Rattle.begun.proofs.First as begun
use Rattle.shape.specs.Steps.{Shaping, Shapes, ShapesTo}
use Rattle.tokens.specs.Tokens as tokens
use Rattle.make.specs.Make.{Results, final, token_bytes, token_scores, Late, too_small, unlaid, no_results}
use Rattle.make.specs.Steps.{Concludes, Making, MakesTo}
use Rattle.make.specs.declared.Trained.{Trained}

half : (n k : ℕ) → n ≡ 2 * k → n / 2 ≡ k
half n k e = omega arith

-- ---- good pieces are spelt by their characters
texts_spelt : (text spans : List ℕ) (n : ℕ) → AllGood text spans 255 n → first (octets text spans) n ≡ map spelling (first (chars_at text spans) n)
texts_spelt text spans zero good = refl
texts_spelt text spans (suc n) good =
    ap (λ (l : List (List ℕ)). l ++ octets text spans n ∷ []) (texts_spelt text spans n (λ k h. good k (omega arith)))
    ∙ ap (λ (l : List ℕ). map spelling (first (chars_at text spans) n) ++ l ∷ []) (good n (omega arith)).utf8.spelt
    ∙ sym (map_append (first (chars_at text spans) n) (chars_at text spans n ∷ []))
  where
    map_append : (a b : List (List ℕ)) → map spelling (a ++ b) ≡ map spelling a ++ map spelling b
    map_append [] b = refl
    map_append (x ∷ a) b = ap (λ (l : List (List ℕ)). spelling x ∷ l) (map_append a b)

module _ (settings : Settings) (texts specials text kept counts : List ℕ) (words count required : ℕ) (spans : List ℕ) (scores : List Float) (keys ends : List ℕ) (z : fresh.Results) (y : Results)
    {target : ℕ} (e : target ≡ target_of settings (many specials)) where
  -- ---- whatever words the list comes from
  module _ (h : Here settings texts specials text kept counts words count required spans scores) where
    abbrev x : start.Lent
    x = lent_of h

    abbrev left_of : start.Left
    left_of = record { kept = kept; counts = counts; pieces = spans; tallies = h.begun.tallies; scores = h.begun.front }

    given : start.Given x h.work left_of words count required
    given = h.begun.answers

    pub required_small : 2 * required ≤ length spans
    required_small =
        let a = pieces.required_there x h.work left_of words count required given in
        let b = pieces.pieces_in x h.work left_of words count required given in
        omega arith

    pub specials_few : many specials ≤ 256
    specials_few = given.fit.settings_fit.specials_within.few

    -- ---- 8
    pub refuse_vocab : (y' : Results) (n : ℕ) → n ≡ required + many specials → target < required → y' ≡ y → MakesTo x (seed_texts text spans count) required keys ends z y y' (Err (VocabTooSmall n))
    refuse_vocab y' n q l s = (subst (λ (k : ℕ). Late x keys ends z y (seed_texts text spans count) required (VocabTooSmall k)) (sym q) (too_small (omega arith)), s)

    -- ---- 7 at 2 and 3
    module _ (asked : required ≤ target) where
      asked_of : required ≤ target_in x
      asked_of = omega arith

      pub refuse_shape : (pieces' : List ℕ) (scores' : List Float) (refusal : Refusal) (r : Result ℕ Refusal) → r ≡ Err refusal
          → Shapes settings target text kept counts words count required spans scores keys ends z pieces' scores' r
          → MakesTo x (seed_texts text spans count) required keys ends z y y (Err refusal)
      refuse_shape pieces' scores' refusal r q f = (
        unlaid asked_of
            (subst (ShapesTo (task_of x required) (first_model (start.corpus x) (seed_texts text spans count)) text keys ends z pieces' scores') q (f texts specials h e)),
        refl,
      )

      -- ---- the pieces that are left
      module _ (pieces' : List ℕ) (scores' : List Float) (left : ℕ) (r : Result ℕ Refusal) (q : r ≡ Ok left)
          (f : Shapes settings target text kept counts words count required spans scores keys ends z pieces' scores' r) where
        shaped : ShapesTo (task_of x required) (first_model (start.corpus x) (seed_texts text spans count)) text keys ends z pieces' scores' (Ok left)
        shaped = subst (ShapesTo (task_of x required) (first_model (start.corpus x) (seed_texts text spans count)) text keys ends z pieces' scores') q (f texts specials h e)

        abbrev last : Model
        last = final x (seed_texts text spans count) required

        gone : Left text last pieces' scores' left
        gone = shaped.2

        pub in_pieces : 2 * left ≤ length pieces'
        in_pieces = gone.in_pieces

        pub in_scores : left ≤ length scores'
        in_scores = gone.in_scores

        many_left : many (take (2 * left) pieces') ≡ left
        many_left = half (length (take (2 * left) pieces')) left (sym (cut_long (2 * left) pieces' in_pieces))

        good_left : AllGood text (take (2 * left) pieces') 255 (many (take (2 * left) pieces'))
        good_left = subst (AllGood text (take (2 * left) pieces') 255) (sym many_left) gone.good

        count_left : length last.pieces ≡ left
        count_left = ap length (sym gone.pieces_are) ∙ length_first (chars_at text (take (2 * left) pieces')) (many (take (2 * left) pieces')) ∙ many_left

        pub left_few : left ≤ 1048576
        left_few =
            let a = pieces.pieces_few x h.work left_of words count required given asked_of in
            let b = pieces.pieces_count x h.work left_of words count required given in
            let c = count_left in
            let d = ap length (trained_pieces (task_of x required) (first_model (start.corpus x) (seed_texts text spans count))) in
            let g = rounds_fewer (task_of x required) (length (seed_texts text spans count)) (first_model (start.corpus x) (seed_texts text spans count))
            (begun.first_sound x h.work left_of words count required given asked_of) in
            omega arith

        pub concluding : tokens.Given texts specials text (take (2 * left) pieces') (take left scores')
        concluding =
            record {
              specials_good = given.fit.settings_fit.specials_within.good;
              few_specials = specials_few;
              pieces_good = good_left;
              few_pieces = let a = many_left in let b = left_few in omega arith;
              scored = sym (cut_long left scores' in_scores) ∙ sym many_left;
            }

        bytes_are : tokens.tokens_of texts specials text (take (2 * left) pieces') ≡ token_bytes x last
        bytes_are =
            ap (λ (l : List (List ℕ)). tokens.texts_of texts specials ++ l)
            (texts_spelt text (take (2 * left) pieces') (many (take (2 * left) pieces')) good_left ∙ ap (map spelling) gone.pieces_are)

        scores_are : tokens.scores_of specials (take left scores') ≡ token_scores x last
        scores_are = ap (tokens.scores_of specials) gone.scores_are

        over_is : ltb target (length (take left scores')) ≡ stalled (task_of x required) last
        over_is =
            ap (λ (n : ℕ). ltb target n) (sym (cut_long left scores' in_scores) ∙ sym count_left)
            ∙ ap (λ (n : ℕ). ltb n (length last.pieces)) e

        -- ---- 7 at 4, or the tokens
        pub makes : (y' : Results) (a : Result Trained Refusal)
            → Concludes (tokens.tokens_of texts specials text (take (2 * left) pieces')) (tokens.scores_of specials (take left scores')) (length (take left scores')) target required y y' a
            → MakesTo x (seed_texts text spans count) required keys ends z y y' a
        makes y' (Ok r') (filled, c, o) = (
          c,
          record {
            asked = asked_of;
            trie_fits = shaped.0;
            cache_fits = shaped.1;
            filled =
                subst (λ (s : List Float). tokens.Filled (token_bytes x last) s y.bytes y.tokens y.scores y'.bytes y'.tokens y'.scores r'.tokens) scores_are
                (subst (λ (l : List (List ℕ)). tokens.Filled l (tokens.scores_of specials (take left scores')) y.bytes y.tokens y.scores y'.bytes y'.tokens y'.scores r'.tokens) bytes_are filled);
            over_is = o ∙ over_is;
          },
        )
        makes y' (Err refusal) p = (
          subst (Late x keys ends z y (seed_texts text spans count) required) (sym p.0)
              (no_results asked_of shaped.0 shaped.1 (λ r. p.1 (subst (λ (l : List (List ℕ)). tokens.Room l y.bytes y.tokens y.scores) (sym bytes_are) r))),
          p.2,
        )

  -- ---- what `shape` is given
  pub shaping : (order work ranks expected : ℕ) → Making settings texts specials text kept counts words count required order work ranks spans scores expected → required ≤ target
      → Shaping settings target text kept counts words count required order work ranks spans scores expected
  shaping order work ranks expected w a =
      record {
        texts = texts;
        specials = specials;
        here = w.here;
        target_is = e;
        asked = a;
        in_order = w.in_order;
        in_work = w.in_work;
        in_ranks = w.in_ranks;
        in_expected = w.in_expected;
      }
