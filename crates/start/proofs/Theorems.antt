-- The start of training has one outcome: one refusal at one place, or one list. Assumes nothing.
use Rattle.std.specs.Prelude.{Result, Ok, Err}
use mathlib.Core.Path.{◌≡◌, refl}
use Prim.Native.Nat.{ℕ}
use native.Mathlib.Nat.{lt_irrefl}
use native.Mathlib.Omega.{arith}
use Rattle.refusal.specs.declared.Refusal.{Refusal}
use Rattle.settings.specs.Check.{InBounds, Why as BadSettings}
use Rattle.settings.proofs.Theorems as settings
use Rattle.corpus.specs.Check.{InOrder, Why as BadWords}
use Rattle.corpus.proofs.Theorems as words
use Rattle.seed.proofs.Theorems as seed
use Rattle.listing.specs.declared.Seeded.{Seeded}
use Rattle.listing.specs.Start.{Lent, Work, Left, Bad, bad_settings, no_room, bad_words, Fit, Why, bad, no_slots, Given, Answers}

module _ (x : Lent) where
  one_setting : {r s : Refusal} → BadSettings x.settings x.texts x.specials r → BadSettings x.settings x.texts x.specials s → r ≡ s
  one_setting {r} {s} a b = let e = settings.one_answer x.settings x.texts x.specials (Err r) (Err s) a b in cc

  not_setting : {r : Refusal} → BadSettings x.settings x.texts x.specials r → InBounds x.settings x.texts x.specials → ⊥
  not_setting {r} a b = let e = settings.one_answer x.settings x.texts x.specials (Err r) (Ok tt) a b in let z : ◌≡◌ {A = ℕ} 0 1 = cc in lt_irrefl 0 (omega arith)

  one_word : {r s : Refusal} → BadWords x.text x.words x.frequencies r → BadWords x.text x.words x.frequencies s → r ≡ s
  one_word {r} {s} a b = let e = words.one_answer x.text x.words x.frequencies (Err r) (Err s) a b in cc

  not_word : {r : Refusal} → BadWords x.text x.words x.frequencies r → InOrder x.text x.words x.frequencies → ⊥
  not_word {r} a b = let e = words.one_answer x.text x.words x.frequencies (Err r) (Ok tt) a b in let z : ◌≡◌ {A = ℕ} 0 1 = cc in lt_irrefl 0 (omega arith)

  one_bad : {R : Type 0} {r s : Refusal} → Bad x R r → Bad x R s → r ≡ s
  one_bad (bad_settings a) (bad_settings b) = one_setting a b
  one_bad (bad_settings a) (no_room b n) = absurd (not_setting a b)
  one_bad (bad_settings a) (bad_words b m w) = absurd (not_setting a b)
  one_bad (no_room a n) (bad_settings b) = absurd (not_setting b a)
  one_bad (no_room a n) (no_room b m) = refl
  one_bad (no_room a n) (bad_words b m w) = absurd (n m)
  one_bad (bad_words a n v) (bad_settings b) = absurd (not_setting b a)
  one_bad (bad_words a n v) (no_room b m) = absurd (m n)
  one_bad (bad_words a n v) (bad_words b m w) = one_word v w

  not_bad : {R : Type 0} {r : Refusal} → Fit x R → Bad x R r → ⊥
  not_bad f (bad_settings a) = not_setting a f.settings_fit
  not_bad f (no_room a n) = n f.room
  not_bad f (bad_words a n w) = not_word w f.words_fit

  module _ (w : Work) where
    one_why : {r s : Refusal} → Why x w r → Why x w s → r ≡ s
    one_why (bad a) (bad b) = one_bad a b
    one_why (bad a) (no_slots f n) = absurd (not_bad f a)
    one_why (no_slots f n) (bad b) = absurd (not_bad f b)
    one_why (no_slots f n) (no_slots g m) = refl

    never : {y : Left} {a b c : ℕ} {r : Refusal} → Given x w y a b c → Why x w r → ⊥
    never g (bad b) = not_bad g.fit b
    never g (no_slots f n) = seed.not_both g.list n

-- of two calls with the same lists lent, both are refused alike, or both leave the same words, and lists that spell the same with
-- the same counts and scores
abbrev pub Alike : Lent → Left → Left → Result Seeded Refusal → Result Seeded Refusal → Type 0
Alike x y y' (Ok a) (Ok b) = (a.words ≡ b.words) × (y.kept ≡ y'.kept) × (y.counts ≡ y'.counts) × seed.Same x.text a.required a.pieces y.pieces y.tallies y.scores b.required b.pieces y'.pieces y'.tallies y'.scores
Alike x y y' (Err r) (Err s) = r ≡ s
Alike x y y' (Ok a) (Err s) = ⊥
Alike x y y' (Err r) (Ok b) = ⊥

pub no_second : (x : Lent) (w : Work) (y y' : Left) (r s : Result Seeded Refusal) → Answers x w y r → Answers x w y' s → Alike x y y' r s
no_second x w y y' (Ok a) (Ok b) g h = let k = words.one_kept g.words_are h.words_are in (k.0, k.1, k.2, seed.no_second g.list h.list)
no_second x w y y' (Ok a) (Err s) g q = never x w g q
no_second x w y y' (Err r) (Ok b) p h = never x w h p
no_second x w y y' (Err r) (Err s) p q = one_why x w p q
