-- RFC 3629, section 3: the octets of a code point, and of a list of them.
-- Assumes nothing.
use Rattle.std.specs.Prelude.{ℕ, ◌+◌, ◌/◌, ◌%◌, ◌≤◌, ◌≡◌, cond, List, [], ◌∷◌, ◌++◌, leb}

-- A code point that UTF-8 encodes: up to 10FFFF, and no surrogate (D800 to DFFF).
pub record Scalar (c : ℕ) : Type 0 where
  pub most : c ≤ 0x10FFFF
  pub no_surrogate : 0xD800 ≤ c → c ≤ 0xDFFF → ⊥

-- Section 3's table, by its first column:
--
--     0000-007F       0xxxxxxx
--     0080-07FF       110xxxxx 10xxxxxx
--     0800-FFFF       1110xxxx 10xxxxxx 10xxxxxx
--     10000-10FFFF    11110xxx 10xxxxxx 10xxxxxx 10xxxxxx
unfoldable pub encode : ℕ → List ℕ
encode c =
    cond (leb c 0x7F) (c ∷ [])
    (cond (leb c 0x7FF) ((0xC0 + c / 64) ∷ (0x80 + c % 64) ∷ [])
    (cond (leb c 0xFFFF) ((0xE0 + c / 4096) ∷ (0x80 + c / 64 % 64) ∷ (0x80 + c % 64) ∷ [])
    ((0xF0 + c / 262144) ∷ (0x80 + c / 4096 % 64) ∷ (0x80 + c / 64 % 64) ∷ (0x80 + c % 64) ∷ [])))

-- the encoding of c stands at the front of a text
abbrev pub Begins : List ℕ → ℕ → Type 0
Begins s c = (rest : List ℕ) × (s ≡ encode c ++ rest)

-- no character stands there
abbrev pub Begins_none : List ℕ → Type 0
Begins_none s = (c : ℕ) → Scalar c → Begins s c → ⊥

-- the octets of a list of code points, one after the other
unfoldable pub spelling : List ℕ → List ℕ
spelling [] = []
spelling (c ∷ cs) = encode c ++ spelling cs

-- each is a code point that UTF-8 encodes
pub data Scalars : List ℕ → Type 0 where
  none : Scalars []
  more : {c : ℕ} {cs : List ℕ} → Scalar c → Scalars cs → Scalars (c ∷ cs)

-- `Spells text cs`: the text is UTF-8, and its characters are the list cs
pub record Spells (text cs : List ℕ) : Type 0 where
  pub scalars : Scalars cs
  pub spelt : text ≡ spelling cs
