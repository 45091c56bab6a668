-- RFC 3629, section 4: which octets are a character, and section 3: the code point that their free bits make.
--
-- The section's grammar, of which `UTF8_char` has one constructor for each alternative:
--
--     UTF8-1    = %x00-7F
--     UTF8-2    = %xC2-DF UTF8-tail
--     UTF8-3    = %xE0 %xA0-BF UTF8-tail / %xE1-EC 2( UTF8-tail ) / %xED %x80-9F UTF8-tail / %xEE-EF 2( UTF8-tail )
--     UTF8-4    = %xF0 %x90-BF 2( UTF8-tail ) / %xF1-F3 3( UTF8-tail ) / %xF4 %x80-8F 2( UTF8-tail )
--     UTF8-tail = %x80-BF
--
-- Assumes nothing.
use Rattle.std.specs.Prelude.{ℕ, ◌+◌, ◌*◌, ◌%◌, ◌≤◌, ◌≡◌, List, [], ◌∷◌}

-- %xLOW-HIGH
pub record Range (low high x : ℕ) : Type 0 where
  pub from : low ≤ x
  pub upto : x ≤ high

-- UTF8-tail
abbrev pub Tail : ℕ → Type 0
Tail x = Range 0x80 0xBF x

-- The free bits, marked x in section 3's table, most significant first: 110xxxxx 10xxxxxx
abbrev pub code2 : ℕ → ℕ → ℕ
code2 a b = a % 32 * 64 + b % 64

-- 1110xxxx 10xxxxxx 10xxxxxx
abbrev pub code3 : ℕ → ℕ → ℕ → ℕ
code3 a b c = (a % 16 * 64 + b % 64) * 64 + c % 64

-- 11110xxx 10xxxxxx 10xxxxxx 10xxxxxx
abbrev pub code4 : ℕ → ℕ → ℕ → ℕ → ℕ
code4 a b c d = ((a % 8 * 64 + b % 64) * 64 + c % 64) * 64 + d % 64

-- `UTF8_char octets code`: the octets are a character of the grammar, and its code point is `code`
pub data UTF8_char : List ℕ → ℕ → Type 0 where
  utf8_1 : {a : ℕ} → Range 0x00 0x7F a → UTF8_char (a ∷ []) a
  utf8_2 : {a b : ℕ} → Range 0xC2 0xDF a → Tail b → UTF8_char (a ∷ b ∷ []) (code2 a b)
  utf8_3_E0 : {a b c : ℕ} → a ≡ 0xE0 → Range 0xA0 0xBF b → Tail c → UTF8_char (a ∷ b ∷ c ∷ []) (code3 a b c)
  utf8_3_E1 : {a b c : ℕ} → Range 0xE1 0xEC a → Tail b → Tail c → UTF8_char (a ∷ b ∷ c ∷ []) (code3 a b c)
  utf8_3_ED : {a b c : ℕ} → a ≡ 0xED → Range 0x80 0x9F b → Tail c → UTF8_char (a ∷ b ∷ c ∷ []) (code3 a b c)
  utf8_3_EE : {a b c : ℕ} → Range 0xEE 0xEF a → Tail b → Tail c → UTF8_char (a ∷ b ∷ c ∷ []) (code3 a b c)
  utf8_4_F0 : {a b c d : ℕ} → a ≡ 0xF0 → Range 0x90 0xBF b → Tail c → Tail d → UTF8_char (a ∷ b ∷ c ∷ d ∷ []) (code4 a b c d)
  utf8_4_F1 : {a b c d : ℕ} → Range 0xF1 0xF3 a → Tail b → Tail c → Tail d → UTF8_char (a ∷ b ∷ c ∷ d ∷ []) (code4 a b c d)
  utf8_4_F4 : {a b c d : ℕ} → a ≡ 0xF4 → Range 0x80 0x8F b → Tail c → Tail d → UTF8_char (a ∷ b ∷ c ∷ d ∷ []) (code4 a b c d)
