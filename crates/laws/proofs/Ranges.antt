-- What holds from `low` up to, not with, a number: none of it at first, then one number more at each turn. Assumes nothing.
use mathlib.Core.Path.{◌≡◌, subst}
use mathlib.Core.Logic.{inl, inr}
use Prim.Native.Nat.{ℕ, suc, ◌≤◌, ◌<◌, ◌+◌}
use native.Mathlib.Nat.{eq-or-lt_of_le}
use native.Mathlib.Omega.{arith}
use native.Mathlib.Decide.{dec_lt}

abbrev pub Between : (ℕ → Type 0) → ℕ → ℕ → Type 0
Between P low high = (k : ℕ) → low ≤ k → k < high → P k

nothing : (low k : ℕ) → low ≤ k → k < low → ⊥
nothing low k a b = omega arith

pub between_none : (P : ℕ → Type 0) (low : ℕ) → Between P low low
between_none P low k a b = absurd (nothing low k a b)

last_one : (j k : ℕ) → j < k + 1 → ¬ (j < k) → k ≡ j
last_one j k b l = omega arith

pub between_more : (P : ℕ → Type 0) {low : ℕ} (k : ℕ) → Between P low k → P k → Between P low (k + 1)
between_more P {low} k f h j a b = elim (dec_lt j k) [ yes l ↦ f j a l | no l ↦ subst P (last_one j k b l) h ]

pub between_nought : (P : ℕ → Type 0) (low : ℕ) → Between P low (low + 0)
between_nought P low k a b = absurd (nothing low k a (omega arith))

-- the same from the other side: what holds here and from the next number on
pub from_here : (P : ℕ → Type 0) (p n : ℕ) → P p → Between P (suc p) (suc p + n) → Between P p (p + suc n)
from_here P p n here rest q a b = elim (eq-or-lt_of_le a) [ inl e ↦ subst P e here | inr l ↦ rest q (omega arith) (omega arith) ]
