-- A line's digits and the bytes that they are: document 01, "Lower-case hexadecimal". Definitions only.
use Rattle.std.specs.Prelude.{ℕ, zero, suc, ◌+◌, ◌*◌, ◌/◌, ◌%◌, Bool, true, false, cond, List, [], ◌∷◌, ◌++◌, leb, eqb, length, drop, get_or, Option, None, Some, is_some, unwrap_or}
use Rattle.hexadecimal.specs.Digits.{value_of}

-- a byte is a digit: 30 to 39, or 61 to 66; no upper case, no space, no CR
abbrev pub is_digit : ℕ → Bool
is_digit b = is_some (value_of b)

-- the number of a digit, and 0 for what is none
abbrev pub nibble_of : ℕ → ℕ
nibble_of b = unwrap_or (value_of b) 0

-- a line is all digits
unfoldable pub digits_only : List ℕ → Bool
digits_only [] = true
digits_only (b ∷ line) = cond (is_digit b) (digits_only line) false

-- the byte of the i-th pair of digits, from 0
abbrev pub byte_at : List ℕ → ℕ → ℕ
byte_at line i = nibble_of (get_or line (2 * i) 0) * 16 + nibble_of (get_or line (2 * i + 1) 0)

-- the bytes of the first n pairs
unfoldable pub bytes_upto : List ℕ → ℕ → List ℕ
bytes_upto line zero = []
bytes_upto line (suc n) = bytes_upto line n ++ byte_at line n ∷ []

-- the bytes of a line
abbrev pub bytes_of : List ℕ → List ℕ
bytes_of line = bytes_upto line (length line / 2)

-- a line is digits in pairs, and its bytes fit into so many
abbrev pub decodes : List ℕ → ℕ → Bool
decodes line size = cond (eqb (length line % 2) 0) (cond (leb (length line / 2) size) (digits_only line) false) false

-- how many bytes a line is
unfoldable pub decoded_of : List ℕ → ℕ → Option ℕ
decoded_of line size = cond (decodes line size) (Some (length line / 2)) None

-- what is lent then: the bytes of the line, and behind them what stood there; or all as it was
unfoldable pub decoded_in : List ℕ → List ℕ → List ℕ
decoded_in line bytes = cond (decodes line (length bytes)) (bytes_of line ++ drop (length line / 2) bytes) bytes
