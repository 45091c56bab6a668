-- Words and pieces as spans of a text: two numbers each, where its bytes begin and how many they are. Definitions only.
use Rattle.std.specs.Prelude.{List, [], ◌∷◌, ◌++◌, ℕ, zero, suc, ◌+◌, ◌*◌, ◌/◌, ◌≤◌, length, get_or, take, drop}
use Rattle.utf8.specs.Chars.{chars_of}

-- how many there are
abbrev pub many : List ℕ → ℕ
many spans = length spans / 2

abbrev pub from : List ℕ → ℕ → ℕ
from spans k = get_or spans (2 * k) 0

abbrev pub bytes : List ℕ → ℕ → ℕ
bytes spans k = get_or spans (2 * k + 1) 0

-- inside its text
abbrev pub Inside : List ℕ → List ℕ → ℕ → Type 0
Inside text spans k = from spans k + bytes spans k ≤ length text

-- its bytes, and its characters
abbrev pub octets : List ℕ → List ℕ → ℕ → List ℕ
octets text spans k = take (bytes spans k) (drop (from spans k) text)

abbrev pub chars_at : List ℕ → List ℕ → ℕ → List ℕ
chars_at text spans k = chars_of (octets text spans k)

-- how many bytes the first k have
abbrev pub bytes_before : List ℕ → ℕ → ℕ
bytes_before spans zero = 0
bytes_before spans (suc k) = bytes_before spans k + bytes spans k

-- the first n values of f
abbrev pub first : {A : Type 0} → (ℕ → A) → ℕ → List A
first f zero = []
first f (suc n) = first f n ++ (f n ∷ [])

-- all of them, by their characters
abbrev pub listed : List ℕ → List ℕ → List (List ℕ)
listed text spans = first (chars_at text spans) (many spans)
