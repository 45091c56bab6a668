-- The check of the words has one answer; the words that are kept are the corpus, and ready for training. Assumes nothing.
use Rattle.std.specs.Prelude.{Option, Some, Result, Ok, Err}
use mathlib.Core.Path.{◌≡◌, refl, sym, ap, ap₂, ◌∙◌}
use mathlib.Core.List.{List}
use Prim.Native.Nat.{ℕ, ◌*◌, ◌<◌}
use native.Mathlib.Decide.{dec_lt}
use native.Mathlib.Omega.{arith}
use lib.ListN.{length, get_or, take, drop}
use lib.Seq.{take-append_seam}
use Rattle.refusal.specs.declared.Refusal.{Refusal}
use Rattle.refusal.specs.declared.Refusal.TheVariants.{BadWord, RepeatedWord}
use Rattle.laws.proofs.Outcome.{one_outcome}
use Rattle.utf8.specs.Chars.{chars_of, measured}
use Rattle.spans.specs.Spans.{many, octets, chars_at}
use Rattle.repeats.specs.Repeats.{Lowest}
use Rattle.repeats.proofs.Theorems.{one_answer as one-repeat}
use Rattle.corpus.specs.Corpus.{FirstBad, Utf8, weighs, weight_at, weight_of}
use Rattle.corpus.specs.Check.{InOrder, Why, bad_word, repeated, too_heavy, empty, Answers}
use Rattle.corpus.specs.Kept.{chosen, spans_at, frequencies_at, corpus_of, weight_in, words_of, Ready, Kept}
use Rattle.corpus.proofs.Measures.{yes_utf8, measure_utf8}
use Rattle.corpus.proofs.Chosen.{chosen_at, chosen_rises}
use Rattle.corpus.proofs.Keeps.{spans_long, frequencies_long}
use Rattle.corpus.proofs.Fronts.{kept_frequency, kept_octets, kept_good, chosen_some, chosen_first, chosen_weight}

-- ---- one answer
lowest_one : (text words : List ℕ) (j k : ℕ) → Lowest text words j → Lowest text words k → j ≡ k
lowest_one text words j k p q = let e : ◌≡◌ {A = Option ℕ} (Some j) (Some k) = one-repeat text words (Some j) (Some k) p q in cc

module _ {text words frequencies : List ℕ} where
  bad_one : (j k : ℕ) → FirstBad text words frequencies j → FirstBad text words frequencies k → j ≡ k
  bad_one j k p q = elim (dec_lt j k) [
    | yes l ↦ absurd (p.bad (q.before j l))
    | no l ↦ elim (dec_lt k j) [
      | yes m ↦ absurd (q.bad (p.before k m))
      | no m ↦ omega arith
    ]
  ]

  not_both : {r : Refusal} → Why text words frequencies r → InOrder text words frequencies → ⊥
  not_both (bad_word f) o = f.bad (o.good _ f.within)
  not_both (repeated g l) o = o.once _ l.within l.again
  not_both (too_heavy g c n) o = n o.light
  not_both (empty g c l n) o = n o.some

  one_why : {r s : Refusal} → Why text words frequencies r → Why text words frequencies s → r ≡ s
  one_why (bad_word {k = j} f) (bad_word {k = k} g) = ap BadWord (bad_one j k f g)
  one_why (bad_word f) (repeated g _) = absurd (f.bad (g _ f.within))
  one_why (bad_word f) (too_heavy g _ _) = absurd (f.bad (g _ f.within))
  one_why (bad_word f) (empty g _ _ _) = absurd (f.bad (g _ f.within))
  one_why (repeated g _) (bad_word f) = absurd (f.bad (g _ f.within))
  one_why (repeated {k = j} g l) (repeated {k = k} h m) = ap RepeatedWord (lowest_one text words j k l m)
  one_why (repeated g l) (too_heavy _ o _) = absurd (o _ l.within l.again)
  one_why (repeated g l) (empty _ o _ _) = absurd (o _ l.within l.again)
  one_why (too_heavy g _ _) (bad_word f) = absurd (f.bad (g _ f.within))
  one_why (too_heavy _ o _) (repeated g l) = absurd (o _ l.within l.again)
  one_why (too_heavy _ _ _) (too_heavy _ _ _) = refl
  one_why (too_heavy _ _ n) (empty _ _ h _) = absurd (n h)
  one_why (empty g _ _ _) (bad_word f) = absurd (f.bad (g _ f.within))
  one_why (empty _ o _ _) (repeated g l) = absurd (o _ l.within l.again)
  one_why (empty _ _ h _) (too_heavy _ _ n) = absurd (n h)
  one_why (empty _ _ _ _) (empty _ _ _ _) = refl

pub one_answer : (text words frequencies : List ℕ) (r s : Result (Unit {0}) Refusal) → Answers text words frequencies r → Answers text words frequencies s → r ≡ s
one_answer text words frequencies (Ok _) (Ok _) p q = refl
one_answer text words frequencies (Ok _) (Err s) p q = absurd (not_both q p)
one_answer text words frequencies (Err r) (Ok _) p q = absurd (not_both p q)
one_answer text words frequencies (Err r) (Err s) p q = ap Err (one_why p q)

-- ---- a UTF-8 word weighs its frequency times its characters, the empty word and a word that is not UTF-8 nothing
module _ (text words frequencies : List ℕ) (k : ℕ) where
  pub weight_utf8 : Utf8 text words k → weight_at text words frequencies k ≡ get_or frequencies k 0 * length (chars_at text words k)
  weight_utf8 u = ap (λ (t : Result ℕ ℕ). weighs t (get_or frequencies k 0)) (measure_utf8 (octets text words k) u)

  pub weight_other : (Utf8 text words k → ⊥) → weight_at text words frequencies k ≡ 0
  weight_other n = go (measured (octets text words k)) refl
    where
      go : (t : Result ℕ ℕ) → measured (octets text words k) ≡ t → weighs t (get_or frequencies k 0) ≡ 0
      go (Ok c) e = absurd (n (yes_utf8 (octets text words k) e))
      go (Err b) e = refl

-- ---- what is kept is one
module _ {text words frequencies kept counts : List ℕ} where
  pub one_kept : {kept' counts' kept'' counts'' : List ℕ} {r s : ℕ} → Kept text words frequencies (many words) kept counts kept' counts' r → Kept text words frequencies (many words) kept counts kept'' counts'' s
      → (r ≡ s) × (kept' ≡ kept'') × (counts' ≡ counts'')
  one_kept a b = (one_outcome a.count b.count, one_outcome a.spans_are b.spans_are, one_outcome a.frequencies_are b.frequencies_are)

module _ {text words frequencies kept counts kept' counts' : List ℕ} {r : ℕ} (k : Kept text words frequencies (many words) kept counts kept' counts' r) where
  -- ---- the fronts of the slices
  pub kept_front : take (2 * r) kept' ≡ spans_at words (chosen text words (many words))
  kept_front =
      let front = spans_at words (chosen text words (many words)) in
      let n : 2 * r ≡ length front = let l = spans_long words (chosen text words (many words)) in let c = k.count in omega arith in
      ap₂ (λ (m : ℕ) (x : List ℕ). take m x) n k.spans_are ∙ take-append_seam front (drop (length front) kept)

  pub counts_front : take r counts' ≡ frequencies_at frequencies (chosen text words (many words))
  counts_front =
      let front = frequencies_at frequencies (chosen text words (many words)) in
      let n : r ≡ length front = let l = frequencies_long frequencies (chosen text words (many words)) in let c = k.count in omega arith in
      ap₂ (λ (m : ℕ) (x : List ℕ). take m x) n k.frequencies_are ∙ take-append_seam front (drop (length front) counts)

  -- ---- the kept words are the corpus
  pub kept_corpus : words_of text kept' counts' r ≡ corpus_of text words frequencies
  kept_corpus =
      let f : ℕ → List ℕ × ℕ = λ j. (chars_at text kept' j, get_or counts' j 0) in
      let g : ℕ → List ℕ × ℕ = λ i. (chars_at text words i, get_or frequencies i 0) in
      ap (λ (n : ℕ). words_of text kept' counts' n) k.count
      ∙ chosen_first f g text words (many words)
      (λ j l. let m : j < r = let c = k.count in omega arith in ap₂ (λ (x : List ℕ) (y : ℕ). (x, y)) (ap chars_of (kept_octets k j m)) (kept_frequency k j m))

  pub corpus_weight : weight_in (words_of text kept' counts' r) ≡ weight_of text words frequencies
  corpus_weight = ap weight_in kept_corpus ∙ chosen_weight text words frequencies (many words)

  -- ---- and ready
  pub ready : InOrder text words frequencies → Ready text kept' counts' r
  ready o =
      let n = k.count in
      record {
        some = let s = chosen_some text words (many words) o.some.0 o.some.1 o.some.2 in omega arith;
        good = λ j l. kept_good k j l o.good;
        frequent = λ j l.
            let g = (o.good (get_or (chosen text words (many words)) j 0) (chosen_at text words (many words) j (omega arith)).below).frequent in
            let f = kept_frequency k j l in
            omega arith;
        distinct = λ i j l m e.
            o.once (get_or (chosen text words (many words)) j 0) (chosen_at text words (many words) j (omega arith)).below (
              get_or (chosen text words (many words)) i 0,
              chosen_rises text words (many words) i j l (omega arith),
              sym (kept_octets k i (omega arith)) ∙ e ∙ kept_octets k j m,
            );
        light = let w = corpus_weight in let h = o.light in omega arith;
      }
