-- The character at the front of a text, as a function that computes: what `decode` answers.
--
-- It goes by the class of the first octet, which is the alternative of RFC 3629's grammar that begins with it. That it is
-- the grammar, and that the grammar is the encoding, both ways, is said by proofs/Theorems.
-- Assumes nothing.
use Rattle.std.specs.Prelude.{ℕ, zero, suc, ◌+◌, ◌*◌, ◌%◌, ◌<◌, ◌≡◌, Bool, cond, ◌&&◌, List, [], ◌∷◌, leb, ltb, eqb, length, get_or, Option, Some, None}
use Rattle.utf8.specs.declared.Char.{Char}

-- a character stands there: its code point, and how many octets it takes
abbrev pub character : ℕ → ℕ → Option Char
character code width = Some (record { code = code; width = width })

-- %xLOW-HIGH as a test
abbrev pub within : ℕ → ℕ → ℕ → Bool
within low high x = leb low x && leb x high

-- the class of a first octet; 0: no character begins with it
unfoldable pub class_of : ℕ → ℕ
class_of a =
    cond (within 0x00 0x7F a) 1
    (cond (within 0xC2 0xDF a) 2
    (cond (eqb a 0xE0) 3
    (cond (within 0xE1 0xEC a) 4
    (cond (eqb a 0xED) 5
    (cond (within 0xEE 0xEF a) 4
    (cond (eqb a 0xF0) 6
    (cond (within 0xF1 0xF3 a) 7
    (cond (eqb a 0xF4) 8 0))))))))

-- the class that a table gives an octet
unfoldable pub class_in : List ℕ → ℕ → ℕ
class_in table a = get_or table a 0

-- a table of classes is right: it has 256 entries, each the class of its place
pub record Right (table : List ℕ) : Type 0 where
  pub entries : length table ≡ 256
  pub entry : (a : ℕ) → a < 256 → class_in table a ≡ class_of a

-- n UTF8-tails, after octets whose free bits made `code`; the whole character is w octets wide
unfoldable pub decoded_tails : ℕ → ℕ → ℕ → List ℕ → Option Char
decoded_tails zero code w s = character code w
decoded_tails (suc n) code w [] = None
decoded_tails (suc n) code w (b ∷ s) = cond (within 0x80 0xBF b) (decoded_tails n (code * 64 + b % 64) w s) None

-- after a first octet whose free bits are `lead`: an octet from low to high, and n UTF8-tails
unfoldable pub decoded_after : ℕ → ℕ → ℕ → ℕ → List ℕ → Option Char
unfolding decoded_tails
decoded_after lead low high n [] = None
decoded_after lead low high n (b ∷ s) = cond (within low high b) (decoded_tails n (lead * 64 + b % 64) (n + 2) s) None

-- the character whose first octet is a, of the class k
unfoldable pub by_class : ℕ → ℕ → List ℕ → Option Char
by_class k a s =
    cond (eqb k 1) (character a 1)
    (cond (eqb k 2) (decoded_after (a % 32) 0x80 0xBF 0 s)
    (cond (eqb k 3) (decoded_after (a % 16) 0xA0 0xBF 1 s)
    (cond (eqb k 4) (decoded_after (a % 16) 0x80 0xBF 1 s)
    (cond (eqb k 5) (decoded_after (a % 16) 0x80 0x9F 1 s)
    (cond (eqb k 6) (decoded_after (a % 8) 0x90 0xBF 2 s)
    (cond (eqb k 7) (decoded_after (a % 8) 0x80 0xBF 2 s)
    (cond (eqb k 8) (decoded_after (a % 8) 0x80 0x8F 2 s) None)))))))

-- the character at the front of a text
unfoldable pub decoded : List ℕ → Option Char
decoded [] = None
decoded (a ∷ s) = by_class (class_of a) a s

-- the same by any table of classes, of which an ASCII octet has no need
unfoldable pub decoded_by : List ℕ → List ℕ → Option Char
decoded_by table [] = None
decoded_by table (a ∷ s) = cond (ltb a 0x80) (character a 1) (by_class (class_in table a) a s)
