-- A whole text: its characters, as far as they go, and what `measure` and `valid_up_to` answer.
-- Assumes nothing.
use Rattle.std.specs.Prelude.{cond, ℕ, zero, suc, List, [], ◌∷◌, eqb, length, drop, Option, Some, None, Result, Ok, Err}
use Rattle.utf8.specs.Encode.{spelling}
use Rattle.utf8.specs.Decode.{decoded}
use Rattle.utf8.specs.declared.Char.{Char}

-- a character and what `rest` makes of the text after it; nothing where none stands
unfoldable pub after : Option Char → List ℕ → (List ℕ → List ℕ) → List ℕ
after (Some found) s rest = found.code ∷ rest (drop found.width s)
after None s rest = []

-- The recursion is not on a part of the text, so it counts down a number that is large enough: the length. The equations
-- that a reader expects are `chars_char` and `chars_bad` of proofs/Whole, and nothing after them looks at the count.
unfoldable pub chars_f : ℕ → List ℕ → List ℕ
unfolding after
chars_f zero s = []
chars_f (suc f) s = after (decoded s) s (λ t. chars_f f t)

-- the characters of a text, from its front as far as they go
unfoldable pub chars_of : List ℕ → List ℕ
unfolding chars_f
chars_of s = chars_f (length s) s

-- how many octets they take: the text is UTF-8 up to here
unfoldable pub valid_of : List ℕ → ℕ
valid_of s = length (spelling (chars_of s))

-- the number of characters, if they are the whole text; else where the first octet stands that begins none
unfoldable pub measured : List ℕ → Result ℕ ℕ
measured s = cond (eqb (valid_of s) (length s)) (Ok (length (chars_of s))) (Err (valid_of s))
