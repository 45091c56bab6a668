-- Pieces and their prefixes. A prefix is written with its last character first, so that one character more is one at the head.
-- Assumes nothing.
use Rattle.std.specs.Prelude.{ℕ, zero, suc, ◌+◌, ◌<◌, Bool, true, false, cond, List, [], ◌∷◌, eqb, length, get_or}

-- the first k characters of a word, the last of them first
abbrev pub back : List ℕ → ℕ → List ℕ
back w zero = []
back w (suc k) = get_or w k 0 ∷ back w k

-- a piece as the prefix that is the whole of it
abbrev pub whole : List ℕ → List ℕ
whole w = back w (length w)

-- two prefixes are equal
abbrev pub equal : List ℕ → List ℕ → Bool
equal [] [] = true
equal [] (d ∷ r) = false
equal (c ∷ q) [] = false
equal (c ∷ q) (d ∷ r) = cond (eqb c d) (equal q r) false

-- a list of prefixes has one
abbrev pub has : List (List ℕ) → List ℕ → Bool
has [] q = false
has (p ∷ ps) q = cond (equal p q) true (has ps q)

-- a list of prefixes with one more, unless it has it
abbrev pub with : List (List ℕ) → List ℕ → List (List ℕ)
with ps q = cond (has ps q) ps (q ∷ ps)

-- a list of prefixes with the first k non-empty prefixes of a word
abbrev pub joined : List (List ℕ) → List ℕ → ℕ → List (List ℕ)
joined ps w zero = ps
joined ps w (suc k) = with (joined ps w k) (back w (suc k))

-- the distinct non-empty prefixes of pieces, the newest first in both lists
abbrev pub prefixes_of : List (List ℕ) → List (List ℕ)
prefixes_of [] = []
prefixes_of (w ∷ older) = joined (prefixes_of older) w (length w)

-- the id plus 1 of the last piece with a spelling, or 0; a piece's id is the number of older ones
abbrev pub id_of : List (List ℕ) → List ℕ → ℕ
id_of [] q = 0
id_of (w ∷ older) q = cond (equal (whole w) q) (length older + 1) (id_of older q)

-- characters that a key can hold
abbrev pub Small : List ℕ → Type 0
Small [] = Unit {0}
Small (c ∷ q) = (c < 4294967295) × Small q
