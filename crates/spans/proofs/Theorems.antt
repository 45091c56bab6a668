-- The check of words and pieces has one answer. Assumes nothing.
use mathlib.Core.Path.{◌≡◌, refl, ap}
use mathlib.Core.List.{List}
use Prim.Native.Nat.{ℕ, ◌<◌}
use native.Mathlib.Omega.{arith}
use native.Mathlib.Decide.{dec_lt}
use Rattle.spans.specs.Check.{FirstBad, Answers}
use Rattle.std.specs.Prelude.{Result, Ok, Err}

module _ (text spans : List ℕ) (most : ℕ) where
  not_before : {j k : ℕ} → FirstBad text spans most j → FirstBad text spans most k → j < k → ⊥
  not_before p q l = p.bad (q.before _ l)

  pub one_bad : (j k : ℕ) → FirstBad text spans most j → FirstBad text spans most k → j ≡ k
  one_bad j k p q = elim (dec_lt j k) [
    | yes l ↦ absurd (not_before p q l)
    | no l ↦ elim (dec_lt k j) [
      | yes m ↦ absurd (not_before q p m)
      | no m ↦ omega arith
    ]
  ]

  pub one_answer : (r s : Result (Unit {0}) ℕ) → Answers text spans most r → Answers text spans most s → r ≡ s
  one_answer (Ok a) (Ok b) p q = refl
  one_answer (Ok a) (Err k) p q = absurd (q.bad (p k q.within))
  one_answer (Err j) (Ok b) p q = absurd (p.bad (q j p.within))
  one_answer (Err j) (Err k) p q = ap Err (one_bad j k p q)
