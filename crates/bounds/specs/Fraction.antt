-- Fractions of whole numbers, so that a bound reads as it is said. Every denominator that is made here is above 0. Definitions only.
use Rattle.std.specs.Prelude.{ℕ, ◌+◌, ◌*◌, ◌^◌, ◌≤◌, Float}
use Rattle.std.specs.Float.Ieee.Positive.{num, den}

pub record Fraction : Type 0 where
  pub over : ℕ
  pub under : ℕ

-- the size of a finite float, which its bits name exactly; its sign is said beside
abbrev pub size : Float → Fraction
size x = record { over = num x; under = den x }

abbrev pub whole : ℕ → Fraction
whole n = record { over = n; under = 1 }

infixl 6 ◌⊞◌
infixl 7 ◌⊠◌
abbrev pub ◌⊞◌ : Fraction → Fraction → Fraction
p ⊞ q = record { over = p.over * q.under + q.over * p.under; under = p.under * q.under }

abbrev pub ◌⊠◌ : Fraction → Fraction → Fraction
p ⊠ q = record { over = p.over * q.over; under = p.under * q.under }

abbrev pub half : Fraction → Fraction
half p = record { over = p.over; under = p.under * 2 }

-- of a fraction above 0
abbrev pub inverse : Fraction → Fraction
inverse p = record { over = p.under; under = p.over }

-- p ≤ q + 1 / W, with every denominator multiplied out
abbrev pub Within : ℕ → Fraction → Fraction → Type 0
Within W p q = p.over * q.under * W ≤ q.over * p.under * W + p.under * q.under

-- p ≤ q, to within 2 ^ -40
infix 4 ◌≲◌
abbrev pub ◌≲◌ : Fraction → Fraction → Type 0
p ≲ q = Within (2 ^ 40) p q
