-- A number at a position of a text, read and written.
-- Assumes nothing.
use Rattle.std.specs.Prelude.{cond, ℕ, ◌+◌, List, leb, length, take, drop, Option, Some, None}
use Rattle.std.proofs.lemmas.List.Edits.{sets}
use Rattle.hexadecimal.specs.Digits.{digits_of, numeral}

-- n digits from `at` on, if there are so many and no more than a u64 holds
unfoldable pub read_at : List ℕ → ℕ → ℕ → Option ℕ
read_at text at n = cond (leb n 16) (cond (leb (at + n) (length text)) (numeral (take n (drop at text)) 0) None) None

-- the answer to a write of n digits at `at`, where `size` bytes are lent
unfoldable pub written_at : ℕ → ℕ → ℕ → Option ℕ
written_at size at n = cond (leb (at + n) size) (Some (at + n)) None

-- and what is lent then: the digits in place, or all as it was
unfoldable pub write_at : List ℕ → ℕ → ℕ → ℕ → List ℕ
write_at out at n x = cond (leb (at + n) (length out)) (sets out at (digits_of n x)) out
