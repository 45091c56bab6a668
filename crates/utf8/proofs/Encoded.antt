-- The grammar of section 4 is the encoding of section 3: both ways, for every code point that UTF-8 encodes.
-- Assumes nothing.
use Prim.Native.Nat.{ℕ, ◌+◌, ◌*◌, ◌/◌, ◌%◌, ◌≤◌, ◌<◌}
use mathlib.Core.Path.{◌≡◌, refl, ◌∙◌, sym, subst₂}
use mathlib.Core.List.{List, [], ◌∷◌}
use native.Mathlib.Decide.{dec_le}
use native.Mathlib.Nat.{lt_of_not-le}
use native.Mathlib.Omega.{arith}
use lib.Dec.{lit≤}
use borrow.Author.Tests.{le-leb, lt-leb}
use Rattle.utf8.specs.Grammar.{Range, Tail, code2, code3, code4, UTF8_char, utf8_1, utf8_2, utf8_3_E0, utf8_3_E1, utf8_3_ED, utf8_3_EE, utf8_4_F0, utf8_4_F1, utf8_4_F4}
use Rattle.utf8.specs.Encode.{Scalar, encode}

-- at most, or more
pub split {ℓ} : {X : Type ℓ} (a b : ℕ) → (a ≤ b → X) → (b < a → X) → X
split a b f g = elim (dec_le a b) [ yes h ↦ f h | no h ↦ g (lt_of_not-le h) ]

-- the encoding at each row of the table
module _ (c : ℕ) where
  pub encode1 : c ≤ 0x7F → encode c ≡ c ∷ []
  unfolding encode
  encode1 h = rw (le-leb c 0x7F h)

  pub encode2 : 0x7F < c → c ≤ 0x7FF → encode c ≡ (0xC0 + c / 64) ∷ (0x80 + c % 64) ∷ []
  unfolding encode
  encode2 g h = rw (lt-leb c 0x7F g, le-leb c 0x7FF h)

  pub encode3 : 0x7FF < c → c ≤ 0xFFFF → encode c ≡ (0xE0 + c / 4096) ∷ (0x80 + c / 64 % 64) ∷ (0x80 + c % 64) ∷ []
  unfolding encode
  encode3 g h = let l : 0x7F < c = omega arith in rw (lt-leb c 0x7F l, lt-leb c 0x7FF g, le-leb c 0xFFFF h)

  pub encode4 : 0xFFFF < c → encode c ≡ (0xF0 + c / 262144) ∷ (0x80 + c / 4096 % 64) ∷ (0x80 + c / 64 % 64) ∷ (0x80 + c % 64) ∷ []
  unfolding encode
  encode4 g =
      let l : 0x7F < c = omega arith in
      let m : 0x7FF < c = omega arith in
      rw (lt-leb c 0x7F l, lt-leb c 0x7FF m, lt-leb c 0xFFFF g)

-- two lists of bytes, byte by byte
cons : {a b : ℕ} {s t : List ℕ} → a ≡ b → s ≡ t → a ∷ s ≡ b ∷ t
cons p q = cc

-- The bytes of a row of the grammar are the encoding of their free bits.
of1 : (a : ℕ) → Range 0x00 0x7F a → a ∷ [] ≡ encode a
of1 a h = sym (encode1 a h.upto)

of2 : (a b : ℕ) → Range 0xC2 0xDF a → Tail b → a ∷ b ∷ [] ≡ encode (code2 a b)
of2 a b h t = sym (encode2 (code2 a b) (omega arith) (omega arith) ∙ cons (omega arith) (cons (omega arith) refl))

of3 : (a b c : ℕ) → Range 0xE0 0xEF a → Tail b → Tail c → 0x7FF < code3 a b c → a ∷ b ∷ c ∷ [] ≡ encode (code3 a b c)
of3 a b c h t u l =
    sym (encode3 (code3 a b c) l (omega arith) ∙ cons (omega arith) (cons (omega arith) (cons (omega arith) refl)))

of4 : (a b c d : ℕ) → Range 0xF0 0xF7 a → Tail b → Tail c → Tail d → 0xFFFF < code4 a b c d → a ∷ b ∷ c ∷ d ∷ [] ≡ encode (code4 a b c d)
of4 a b c d h t u v l =
    sym
    (encode4 (code4 a b c d) l
    ∙ cons (omega arith) (cons (omega arith) (cons (omega arith) (cons (omega arith) refl))))

wider : {low high low' high' x : ℕ} → low' ≤ low → high ≤ high' → Range low high x → Range low' high' x
wider l h r = record { from = omega arith; upto = omega arith }

only : {low high x y : ℕ} → low ≤ y → y ≤ high → x ≡ y → Range low high x
only l h e = record { from = omega arith; upto = omega arith }

-- a character of the grammar is the encoding of its code point, which is one that UTF-8 encodes
pub encoded : {bytes : List ℕ} {c : ℕ} → UTF8_char bytes c → Scalar c × (bytes ≡ encode c)
encoded (utf8_1 {a} h) = (omega arith, of1 a h)
encoded (utf8_2 {a} {b} h t) = (omega arith, of2 a b h t)
encoded (utf8_3_E0 {a} {b} {c} e t u) = (omega arith, of3 a b c (only (lit≤ tt) (lit≤ tt) e) (wider (lit≤ tt) (lit≤ tt) t) u (omega arith))
encoded (utf8_3_E1 {a} {b} {c} h t u) = (omega arith, of3 a b c (wider (lit≤ tt) (lit≤ tt) h) t u (omega arith))
encoded (utf8_3_ED {a} {b} {c} e t u) = (omega arith, of3 a b c (only (lit≤ tt) (lit≤ tt) e) (wider (lit≤ tt) (lit≤ tt) t) u (omega arith))
encoded (utf8_3_EE {a} {b} {c} h t u) = (omega arith, of3 a b c (wider (lit≤ tt) (lit≤ tt) h) t u (omega arith))
encoded (utf8_4_F0 {a} {b} {c} {d} e t u v) = (omega arith, of4 a b c d (only (lit≤ tt) (lit≤ tt) e) (wider (lit≤ tt) (lit≤ tt) t) u v (omega arith))
encoded (utf8_4_F1 {a} {b} {c} {d} h t u v) = (omega arith, of4 a b c d (wider (lit≤ tt) (lit≤ tt) h) t u v (omega arith))
encoded (utf8_4_F4 {a} {b} {c} {d} e t u v) = (omega arith, of4 a b c d (only (lit≤ tt) (lit≤ tt) e) (wider (lit≤ tt) (lit≤ tt) t) u v (omega arith))

-- The other way: the encoding of such a code point is a character of the grammar. Which alternative, its range decides.
at2 : (c : ℕ) → 0x7F < c → c ≤ 0x7FF → UTF8_char (encode c) c
at2 c g h =
    subst₂ UTF8_char (sym (encode2 c g h)) (bits c h)
    (utf8_2 (record { from = omega arith; upto = omega arith }) (record { from = omega arith; upto = omega arith }))
  where
    bits : (x : ℕ) → x ≤ 0x7FF → code2 (0xC0 + x / 64) (0x80 + x % 64) ≡ x
    bits x l = omega arith

bits3 : (c : ℕ) → c ≤ 0xFFFF → code3 (0xE0 + c / 4096) (0x80 + c / 64 % 64) (0x80 + c % 64) ≡ c
bits3 c h = omega arith

low_bits : (x : ℕ) → (0x80 + x % 64) % 64 ≡ x % 64
low_bits x = omega arith

high_bits : (x : ℕ) → x ≤ 7 → (0xF0 + x) % 8 ≡ x
high_bits x h = omega arith

digits : (c : ℕ) → ((c / 262144 * 64 + c / 4096 % 64) * 64 + c / 64 % 64) * 64 + c % 64 ≡ c
digits c = omega arith

bits4 : (c : ℕ) → c ≤ 0x1FFFFF → code4 (0xF0 + c / 262144) (0x80 + c / 4096 % 64) (0x80 + c / 64 % 64) (0x80 + c % 64) ≡ c
bits4 c h =
    let q : c / 262144 ≤ 7 = omega arith in
    rw (high_bits (c / 262144) q, low_bits (c / 4096), low_bits (c / 64), low_bits c) (digits c)

tail : (x : ℕ) → Tail (0x80 + x % 64)
tail x = record { from = omega arith; upto = omega arith }

-- the three bytes and the four, once the alternative is known
three : (c : ℕ) → 0x7FF < c → c ≤ 0xFFFF
    → UTF8_char ((0xE0 + c / 4096) ∷ (0x80 + c / 64 % 64) ∷ (0x80 + c % 64) ∷ []) (code3 (0xE0 + c / 4096) (0x80 + c / 64 % 64) (0x80 + c % 64))
    → UTF8_char (encode c) c
three c g h u = subst₂ UTF8_char (sym (encode3 c g h)) (bits3 c h) u

four : (c : ℕ) → 0xFFFF < c → c ≤ 0x10FFFF
    → UTF8_char ((0xF0 + c / 262144) ∷ (0x80 + c / 4096 % 64) ∷ (0x80 + c / 64 % 64) ∷ (0x80 + c % 64) ∷ []) (code4 (0xF0 + c / 262144) (0x80 + c / 4096 % 64) (0x80 + c / 64 % 64) (0x80 + c % 64))
    → UTF8_char (encode c) c
four c g h u = subst₂ UTF8_char (sym (encode4 c g)) (bits4 c (omega arith)) u

at3 : (c : ℕ) → Scalar c → 0x7FF < c → c ≤ 0xFFFF → UTF8_char (encode c) c
at3 c s g h =
    split c 0xFFF (λ l. three c g h (utf8_3_E0 (omega arith) (record { from = omega arith; upto = omega arith }) (tail c)))
    (λ m. split c 0xCFFF
    (λ l. three c g h (utf8_3_E1 (record { from = omega arith; upto = omega arith }) (tail (c / 64)) (tail c)))
    (λ n. split c 0xD7FF (λ l. three c g h (utf8_3_ED (omega arith) (record { from = omega arith; upto = omega arith }) (tail c)))
    (λ o. split c 0xDFFF (λ l. absurd (s.no_surrogate o l))
    (λ p. three c g h (utf8_3_EE (record { from = omega arith; upto = omega arith }) (tail (c / 64)) (tail c))))))

at4 : (c : ℕ) → 0xFFFF < c → c ≤ 0x10FFFF → UTF8_char (encode c) c
at4 c g h =
    split c 0x3FFFF
    (λ l. four c g h (utf8_4_F0 (omega arith) (record { from = omega arith; upto = omega arith }) (tail (c / 64)) (tail c)))
    (λ m. split c 0xFFFFF
    (λ l. four c g h (utf8_4_F1 (record { from = omega arith; upto = omega arith }) (tail (c / 4096)) (tail (c / 64)) (tail c)))
    (λ n. four c g h (utf8_4_F4 (omega arith) (record { from = omega arith; upto = omega arith }) (tail (c / 64)) (tail c))))

pub grammatical : (c : ℕ) → Scalar c → UTF8_char (encode c) c
grammatical c s =
    split c 0x7F (λ h. subst₂ UTF8_char (sym (encode1 c h)) refl (utf8_1 (record { from = omega arith; upto = h })))
    (λ g. split c 0x7FF (λ h. at2 c g h) (λ h. split c 0xFFFF (λ l. at3 c s h l) (λ l. at4 c l s.most)))
