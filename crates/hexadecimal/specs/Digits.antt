-- Digits and numbers: 0 to 9 and a to f, in ASCII.
-- Assumes nothing.
use Rattle.std.specs.Prelude.{ℕ, zero, suc, ◌+◌, ◌-◌, ◌*◌, ◌/◌, ◌%◌, cond, List, [], ◌∷◌, ◌++◌, leb, ltb, Option, Some, None}

-- the digit of a number below 16
abbrev pub digit_of : ℕ → ℕ
digit_of v = cond (ltb v 10) (48 + v) (87 + v)

-- the number of a digit: 30 to 39, and 61 to 66
unfoldable pub value_of : ℕ → Option ℕ
value_of b =
    cond (ltb b 48) None (cond (leb b 57) (Some (b - 48)) (cond (ltb b 97) None (cond (leb b 102) (Some (b - 87)) None)))

-- the n low digits of a number, most significant first
unfoldable pub digits_of : ℕ → ℕ → List ℕ
digits_of zero x = []
digits_of (suc n) x = digits_of n (x / 16) ++ digit_of (x % 16) ∷ []

-- a digit more, and what `rest` makes of the number then
unfoldable pub then : Option ℕ → ℕ → (ℕ → Option ℕ) → Option ℕ
then (Some d) v rest = rest (v * 16 + d)
then None v rest = None

-- the number that digits make, after those that made v
unfoldable pub numeral : List ℕ → ℕ → Option ℕ
unfolding then
numeral [] v = Some v
numeral (b ∷ s) v = then (value_of b) v (λ w. numeral s w)
