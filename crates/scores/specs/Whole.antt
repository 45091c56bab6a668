-- Whole-number scores at zero or below. Sums stop at a lowest number, minus `top`, which stands for no cut. Definitions only.
use Rattle.std.specs.Prelude.{◌≡◌, ℕ, zero, suc, ◌+◌, ◌≤◌, min, ℤ, pos, negsuc, nat_abs}
use Rattle.std.specs.Int.Signed.{lt_z}
use Rattle.scores.specs.Domain.{Domain}

-- -n
abbrev pub minus : ℕ → ℤ
minus zero = pos 0
minus (suc n) = negsuc n

abbrev pub wholes : ℕ → Domain ℤ
wholes top = record { add = λ x s. minus (min top (nat_abs x + nat_abs s)); less = lt_z; zero = pos 0; bottom = minus top; past = pos 0 }

-- from -top to 0
pub record FromTop (top : ℕ) (x : ℤ) : Type 0 where
  pub is : x ≡ minus (nat_abs x)
  pub within : nat_abs x ≤ top
