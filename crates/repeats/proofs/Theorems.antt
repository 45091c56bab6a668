-- An answer that fits is the only one. Assumes nothing.
use mathlib.Core.Path.{◌≡◌, refl, ap}
use mathlib.Core.List.{List}
use Prim.Native.Nat.{ℕ}
use native.Mathlib.Decide.{dec_lt}
use native.Mathlib.Omega.{arith}
use Rattle.repeats.specs.Repeats.{Lowest, Answers}
use Rattle.std.specs.Prelude.{Option, Some, None}

one_lowest : (text spans : List ℕ) (j k : ℕ) → Lowest text spans j → Lowest text spans k → j ≡ k
one_lowest text spans j k a b = elim (dec_lt j k) [
  | yes l ↦ absurd (b.lowest j l a.again)
  | no l ↦ elim (dec_lt k j) [
    | yes h ↦ absurd (a.lowest k h b.again)
    | no h ↦ omega arith
  ]
]

pub one_answer : (text spans : List ℕ) (r s : Option ℕ) → Answers text spans r → Answers text spans s → r ≡ s
one_answer text spans None None a b = refl
one_answer text spans None (Some k) a b = absurd (a k b.within b.again)
one_answer text spans (Some k) None a b = absurd (b k a.within a.again)
one_answer text spans (Some j) (Some k) a b = ap Some (one_lowest text spans j k a b)
