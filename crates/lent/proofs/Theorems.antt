-- The checks have one answer each. Assumes nothing.
use mathlib.Core.Path.{◌≡◌, refl, ap}
use mathlib.Core.List.{List}
use Prim.Native.Nat.{ℕ}
use native.Mathlib.Omega.{arith}
use native.Mathlib.Decide.{dec_lt}
use lib.Ieee.{Float}
use Rattle.lent.specs.Lent.{FirstBad, Answers}
use Rattle.std.specs.Prelude.{Result, Ok, Err}

pub one_bad : (scores : List Float) (i j : ℕ) → FirstBad scores i → FirstBad scores j → i ≡ j
one_bad scores i j p q = elim (dec_lt i j) [
  | yes l ↦ absurd (p.bad (q.before i l))
  | no l ↦ elim (dec_lt j i) [
    | yes m ↦ absurd (q.bad (p.before j m))
    | no m ↦ omega arith
  ]
]

pub one_answer : (scores : List Float) (r s : Result (Unit {0}) ℕ) → Answers scores r → Answers scores s → r ≡ s
one_answer scores (Ok _) (Ok _) p q = refl
one_answer scores (Ok _) (Err j) p q = absurd (q.bad (p j q.within))
one_answer scores (Err i) (Ok _) p q = absurd (p.bad (q i p.within))
one_answer scores (Err i) (Err j) p q = ap Err (one_bad scores i j p q)
