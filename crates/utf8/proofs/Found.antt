-- The function `decoded` is the grammar of RFC 3629: what it finds is a character of the grammar, and it finds each.
-- Assumes nothing.
use mathlib.Core.Bool.{cond}
use Prim.Native.Nat.{ℕ, ◌%◌}
use mathlib.Core.Path.{◌≡◌, refl, ◌∙◌, ap}
use mathlib.Core.List.{List, [], ◌∷◌, ◌++◌}
use lib.ListN.{length}
use Rattle.std.specs.Prelude.{Option, Some, None}
use Rattle.utf8.specs.Grammar.{Range, Tail, code2, code3, code4, UTF8_char, utf8_1, utf8_2, utf8_3_E0, utf8_3_E1, utf8_3_ED, utf8_3_EE, utf8_4_F0, utf8_4_F1, utf8_4_F4}
use Rattle.utf8.specs.Decode.{within, character, class_of, decoded_after, by_class, decoded}
use Rattle.utf8.specs.declared.Char.{Char}
use Rattle.laws.proofs.Choices.{cond_cases}
use Rattle.utf8.proofs.Tests.{in_range, range}
use Rattle.utf8.proofs.Classed.{Classed, none, one, two, three_E0, three_E1, three_ED, three_EE, four_F0, four_F1, four_F4, classed, all_class, range_class}

-- an answer about the text s: a character of the grammar stands at its front, so wide; of `None` nothing is said
abbrev pub Found : List ℕ → Option Char → Type 0
Found s (Some found) = (bytes : List ℕ) × (rest : List ℕ) × UTF8_char bytes found.code × (s ≡ bytes ++ rest) × (found.width ≡ length bytes)
Found s None = Unit {0}

-- a test that fails leaves nothing to be shown
tested : (s : List ℕ) (low high x : ℕ) (d : Option Char) → (Range low high x → Found s d) → Found s (cond (within low high x) d None)
tested s low high x d f = cond_cases (Found s) (within low high x) d None (λ t. f (range t)) (λ _. tt)

found2 : (a : ℕ) → Range 0xC2 0xDF a → (s : List ℕ) → Found (a ∷ s) (decoded_after (a % 32) 0x80 0xBF 0 s)
unfolding decoded_after
found2 a h [] = tt
found2 a h (b ∷ s) = tested (a ∷ b ∷ s) 0x80 0xBF b _ (λ t. (a ∷ b ∷ [], s, utf8_2 h t, refl, refl))

found3 : (low high a : ℕ) → ((b c : ℕ) → Range low high b → Tail c → UTF8_char (a ∷ b ∷ c ∷ []) (code3 a b c))
    → (s : List ℕ) → Found (a ∷ s) (decoded_after (a % 16) low high 1 s)
unfolding decoded_after
found3 low high a f [] = tt
found3 low high a f (b ∷ []) = tested (a ∷ b ∷ []) low high b None (λ _. tt)
found3 low high a f (b ∷ c ∷ s) =
    tested (a ∷ b ∷ c ∷ s) low high b _ (λ t. tested (a ∷ b ∷ c ∷ s) 0x80 0xBF c _ (λ u. (a ∷ b ∷ c ∷ [], s, f b c t u, refl, refl)))

found4 : (low high a : ℕ) → ((b c d : ℕ) → Range low high b → Tail c → Tail d → UTF8_char (a ∷ b ∷ c ∷ d ∷ []) (code4 a b c d))
    → (s : List ℕ) → Found (a ∷ s) (decoded_after (a % 8) low high 2 s)
unfolding decoded_after
found4 low high a f [] = tt
found4 low high a f (b ∷ []) = tested (a ∷ b ∷ []) low high b None (λ _. tt)
found4 low high a f (b ∷ c ∷ []) = tested (a ∷ b ∷ c ∷ []) low high b _ (λ _. tested (a ∷ b ∷ c ∷ []) 0x80 0xBF c None (λ _. tt))
found4 low high a f (b ∷ c ∷ d ∷ s) =
    tested (a ∷ b ∷ c ∷ d ∷ s) low high b _
    (λ t. tested (a ∷ b ∷ c ∷ d ∷ s) 0x80 0xBF c _
    (λ u. tested (a ∷ b ∷ c ∷ d ∷ s) 0x80 0xBF d _ (λ v. (a ∷ b ∷ c ∷ d ∷ [], s, f b c d t u v, refl, refl))))

by_class_lem : (a k : ℕ) → Classed a k → (s : List ℕ) → Found (a ∷ s) (by_class k a s)
unfolding by_class
by_class_lem a k none s = tt
by_class_lem a k (one h) s = (a ∷ [], s, utf8_1 h, refl, refl)
by_class_lem a k (two h) s = found2 a h s
by_class_lem a k (three_E0 h) s = found3 0xA0 0xBF a (λ b c t u. utf8_3_E0 h t u) s
by_class_lem a k (three_E1 h) s = found3 0x80 0xBF a (λ b c t u. utf8_3_E1 h t u) s
by_class_lem a k (three_ED h) s = found3 0x80 0x9F a (λ b c t u. utf8_3_ED h t u) s
by_class_lem a k (three_EE h) s = found3 0x80 0xBF a (λ b c t u. utf8_3_EE h t u) s
by_class_lem a k (four_F0 h) s = found4 0x90 0xBF a (λ b c d t u v. utf8_4_F0 h t u v) s
by_class_lem a k (four_F1 h) s = found4 0x80 0xBF a (λ b c d t u v. utf8_4_F1 h t u v) s
by_class_lem a k (four_F4 h) s = found4 0x80 0x8F a (λ b c d t u v. utf8_4_F4 h t u v) s

-- what `decoded` finds is a character of the grammar
pub found : (s : List ℕ) → Found s (decoded s)
unfolding decoded
found [] = tt
found (a ∷ s) = by_class_lem a (class_of a) (classed a) s

-- The other way: a character of the grammar, whatever follows it, is what `decoded` finds.
module _ (a b c : ℕ) (s : List ℕ) where
  yes2 : Tail b → decoded_after (a % 32) 0x80 0xBF 0 (b ∷ s) ≡ character (code2 a b) 2
  unfolding decoded_after
  yes2 t = rw (in_range t)

  yes3 : (low high : ℕ) → Range low high b → Tail c → decoded_after (a % 16) low high 1 (b ∷ c ∷ s) ≡ character (code3 a b c) 3
  unfolding decoded_after
  yes3 low high t u = rw (in_range t, in_range u)

  yes4 : (low high d : ℕ) → Range low high b → Tail c → Tail d → decoded_after (a % 8) low high 2 (b ∷ c ∷ d ∷ s) ≡ character (code4 a b c d) 4
  unfolding decoded_after
  yes4 low high d t u v = rw (in_range t, in_range u, in_range v)

-- the class of the first byte chooses
by : (a k : ℕ) (s : List ℕ) (d : Option Char) → class_of a ≡ k → by_class k a s ≡ d → decoded (a ∷ s) ≡ d
unfolding decoded
by a k s d e p = ap (λ (j : ℕ). by_class j a s) e ∙ p

pub finds : {bytes : List ℕ} {c : ℕ} → UTF8_char bytes c → (rest : List ℕ) → decoded (bytes ++ rest) ≡ character c (length bytes)
unfolding by_class class_of all_class
finds (utf8_1 {a} h) s = by a 1 s _ (range_class 1 tt h) refl
finds (utf8_2 {a} {b} h t) s = by a 2 (b ∷ s) _ (range_class 2 tt h) (yes2 a b 0 s t)
finds (utf8_3_E0 {a} {b} {c} e t u) s = by a 3 (b ∷ c ∷ s) _ (ap class_of e) (yes3 a b c s 0xA0 0xBF t u)
finds (utf8_3_E1 {a} {b} {c} h t u) s = by a 4 (b ∷ c ∷ s) _ (range_class 4 tt h) (yes3 a b c s 0x80 0xBF t u)
finds (utf8_3_ED {a} {b} {c} e t u) s = by a 5 (b ∷ c ∷ s) _ (ap class_of e) (yes3 a b c s 0x80 0x9F t u)
finds (utf8_3_EE {a} {b} {c} h t u) s = by a 4 (b ∷ c ∷ s) _ (range_class 4 tt h) (yes3 a b c s 0x80 0xBF t u)
finds (utf8_4_F0 {a} {b} {c} {d} e t u v) s = by a 6 (b ∷ c ∷ d ∷ s) _ (ap class_of e) (yes4 a b c s 0x90 0xBF d t u v)
finds (utf8_4_F1 {a} {b} {c} {d} h t u v) s = by a 7 (b ∷ c ∷ d ∷ s) _ (range_class 7 tt h) (yes4 a b c s 0x80 0xBF d t u v)
finds (utf8_4_F4 {a} {b} {c} {d} e t u v) s = by a 8 (b ∷ c ∷ d ∷ s) _ (ap class_of e) (yes4 a b c s 0x80 0x8F d t u v)
