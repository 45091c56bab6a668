-- Every corpus has positions, so that its list can be worked out. Assumes nothing.
use mathlib.Core.Path.{◌≡◌, refl}
use mathlib.Core.Bool.{cond}
use mathlib.Core.List.{List, [], ◌∷◌}
use Prim.Native.Nat.{ℕ, zero, suc, ◌+◌, ◌-◌, ◌<◌}
use native.Mathlib.Omega.{arith}
use lib.Dec.{ltb}
use lib.ListN.{length, take, drop}
use borrow.Author.Tests.{lt-ltb, le-ltb}
use Rattle.ranking.specs.Corpus.{Corpus, word_at, frequency_at}
use Rattle.ranking.specs.Positions.{characters, before, Positioned}

-- what a function of a word and a place in it gives at position p
abbrev pub value_at_position : {A : Type 0} → (List ℕ × ℕ → ℕ → A) → A → Corpus → ℕ → A
value_at_position f none [] p = none
value_at_position f none (w ∷ corpus) p = cond (ltb p (length w.0)) (f w p) (value_at_position f none corpus (p - length w.0))

module _ {A : Type 0} (f : List ℕ × ℕ → ℕ → A) (none : A) where
  at_position : (corpus : Corpus) (k i : ℕ) (w : List ℕ × ℕ) → k < length corpus → (word_at corpus k, frequency_at corpus k) ≡ w
      → i < length w.0
      → value_at_position f none corpus (before corpus k + i) ≡ f w i
  at_position [] k i w h e g = absurd (omega arith)
  at_position (v ∷ corpus) zero i w h e g =
      let z : 0 + i ≡ i = omega arith in
      let l : i < length v.0 = rw e g in
      rw (z, lt-ltb i (length v.0) l, ← e)
  at_position (v ∷ corpus) (suc k) i w h e g =
      let a : length v.0 + before corpus k + i - length v.0 ≡ before corpus k + i = omega arith in
      rw (le-ltb (length v.0 + before corpus k + i) (length v.0) (omega arith), a) (at_position corpus k i w (omega arith) e g)

abbrev pub text_at : ℕ → Corpus → ℕ → List ℕ
text_at reach = value_at_position (λ w i. take reach (drop i w.0)) []

abbrev pub weight_at : Corpus → ℕ → ℕ
weight_at = value_at_position (λ w i. w.1) 0

pub positioned : (corpus : Corpus) (reach : ℕ)
    → Positioned corpus reach (text_at reach corpus) (weight_at corpus) (characters corpus)
positioned corpus reach =
    record {
      many = refl;
      text_is = λ k i h g. at_position (λ w i. take reach (drop i w.0)) [] corpus k i (word_at corpus k, frequency_at corpus k) h refl g;
      frequency_is = λ k i h g. at_position (λ w i. w.1) 0 corpus k i (word_at corpus k, frequency_at corpus k) h refl g;
    }
