-- What is proved of UTF-8, in RFC 3629's words. `decode text at` answers `decoded (drop at text)`, `measure text` answers
-- `measured text` and `valid_up_to text` answers `valid_of text`, so each statement here is one about the functions.
-- Assumes nothing.
use Prim.Native.Nat.{ℕ, ◌+◌, ◌≤◌, ◌<◌}
use mathlib.Core.Path.{◌≡◌, refl, ◌∙◌, sym, ap, subst, subst₂}
use mathlib.Core.Logic.{◌⊎◌, inl, inr, ◌↔◌}
use mathlib.Core.List.{List, [], ◌∷◌, ◌++◌, append-nil, append_assoc}
use native.Mathlib.Nat.{eq-or-lt_of_le}
use native.Mathlib.Omega.{arith}
use lib.ListN.{length, take, drop, get_or, length-drop, take-append-drop}
use lib.Seq.{take-length, drop_at, length-take-le}
use borrow.Author.Tests.{eq-eqb, ne_eqb}
use Rattle.std.specs.Prelude.{Option, Some, None, Result, Ok, Err}
use Rattle.utf8.specs.Grammar.{UTF8_char}
use Rattle.utf8.specs.Encode.{Scalar, encode, Begins, Begins_none, spelling, Scalars, none, more, Spells}
use Rattle.utf8.specs.Decode.{character, class_of, Right, decoded_after, by_class, decoded, decoded_by}
use Rattle.utf8.specs.Chars.{chars_of, valid_of, measured}
use Rattle.utf8.specs.Order.{Before}
use Rattle.utf8.specs.declared.Char.{Char}
use Rattle.utf8.proofs.Classed.{by_right_at}
use Rattle.utf8.proofs.Encoded.{split, encode1, encode2, encode3, encode4, encoded, grammatical}
use Rattle.utf8.proofs.Whole.{Stands, stands, chars_bad, valid_whole, valid_part}
use Rattle.utf8.proofs.Ordered.{ahead, not_both, not_itself, which, spelt_before}
use Rattle.utf8.proofs.Spelt.{at_front, chars_front, parts, valid_take, valid_drop, valid_most, chars_spelt}

-- ---- one character

-- The grammar of section 4 holds of octets and a code point exactly where the code point is one that UTF-8 encodes and the
-- octets are its encoding by section 3's table.
pub grammar_is_encoding : {bytes : List ℕ} {c : ℕ} → UTF8_char bytes c ↔ (Scalar c × (bytes ≡ encode c))
grammar_is_encoding {bytes} {c} = (λ g. encoded g, λ p. subst (λ (b : List ℕ). UTF8_char b c) (sym p.1) (grammatical c p.0))

-- A character is answered exactly where its encoding stands, with the width of that encoding.
pub decodes_char : (s : List ℕ) (c w : ℕ) → (decoded s ≡ character c w) ↔ (Scalar c × Begins s c × (w ≡ length (encode c)))
decodes_char s c w = (there, back)
  where
    there : decoded s ≡ character c w → Scalar c × Begins s c × (w ≡ length (encode c))
    there e = let t : Stands s c w = stands e in (t.scalar, (drop w s, t.front), t.width)

    back : Scalar c × Begins s c × (w ≡ length (encode c)) → decoded s ≡ character c w
    back (h, (rest, e), l) = ap decoded e ∙ at_front c h rest ∙ ap (λ (n : ℕ). character c n) (sym l)

-- `None` is answered exactly where no encoding stands.
pub decodes_bad : (s : List ℕ) → (decoded s ≡ None) ↔ Begins_none s
decodes_bad s = (there, λ n. back n (decoded s) refl)
  where
    there : decoded s ≡ None → Begins_none s
    there e c h b = let p : decoded s ≡ character c (length (encode c)) = (decodes_char s c (length (encode c))).1 (h, b, refl) in let z : ◌≡◌ {A = ℕ} 0 1 = cc in omega arith

    back : Begins_none s → (d : Option Char) → decoded s ≡ d → decoded s ≡ None
    back n None e = e
    back n (Some r) e = let t : Scalar r.code × Begins s r.code × (r.width ≡ length (encode r.code)) = (decodes_char s r.code r.width).0 e in absurd (n r.code t.0 t.1)

-- With a table that is right, the decoder by a table says the same of a text of bytes.
pub lent : {table : List ℕ} → Right table → (text : List ℕ) (at : ℕ) → get_or text at 0 < 256 → decoded_by table (drop at text) ≡ decoded (drop at text)
lent r text at h = by_right_at r text at h

-- No encoding is the front of another, and what follows it is known.
pub prefix_free : (c d : ℕ) (s t : List ℕ) → encode c ++ s ≡ encode d ++ t → (c ≡ d) × (s ≡ t)
prefix_free c d s t e = split c d (λ l. at_most (eq-or-lt_of_le l)) (λ l. absurd (not_itself (ahead d c l t s) (sym e)))
  where
    at_most : (c ≡ d) ⊎ (c < d) → (c ≡ d) × (s ≡ t)
    at_most (inr l) = absurd (not_itself (ahead c d l s t) e)
    at_most (inl p) =
        let q : encode c ++ s ≡ encode c ++ t = e ∙ ap (λ (x : ℕ). encode x ++ t) (sym p) in
        (p, sym (drop_at (encode c) s (length (encode c)) refl) ∙ ap (drop (length (encode c))) q ∙ drop_at (encode c) t (length (encode c)) refl)

-- ---- a whole text

-- A text has at most one list of characters,
pub one_spelling : {s cs ds : List ℕ} → Spells s cs → Spells s ds → cs ≡ ds
one_spelling p q = sym (chars_spelt p) ∙ chars_spelt q

-- and it is `chars_of`, of a text that they spell whole.
pub spells : (s : List ℕ) → Spells s (chars_of s) ↔ (valid_of s ≡ length s)
unfolding valid_of
spells s = (λ p. sym (ap length p.spelt), back)
  where
    back : valid_of s ≡ length s → Spells s (chars_of s)
    back e = record { scalars = (parts s).scalars; spelt = sym (take-length s) ∙ ap (λ (n : ℕ). take n s) (sym e) ∙ valid_take s }

-- Up to `valid_of` a text is UTF-8, and no character stands there.
pub valid_up_to : (s : List ℕ) → Spells (take (valid_of s) s) (chars_of s) × Begins_none (drop (valid_of s) s)
valid_up_to s = (record { scalars = (parts s).scalars; spelt = valid_take s }, (decodes_bad (drop (valid_of s) s)).0 (ap decoded (valid_drop s) ∙ (parts s).stop))

-- `Ok n` is answered exactly where the text is the encodings of n code points one after the other.
pub measures_chars : (s : List ℕ) (n : ℕ) → (measured s ≡ Ok n) ↔ ((cs : List ℕ) × Spells s cs × (length cs ≡ n))
unfolding measured valid_of
measures_chars s n = (there, back)
  where
    count : Ok n ≡ measured s → valid_of s ≡ length s → length (chars_of s) ≡ n
    count p v = let q : ◌≡◌ {A = Result ℕ ℕ} (Ok n) (Ok (length (chars_of s))) = p ∙ rw (eq-eqb (valid_of s) (length s) v) in cc

    there : measured s ≡ Ok n → (cs : List ℕ) × Spells s cs × (length cs ≡ n)
    there p = let v : valid_of s ≡ length s = sym (valid_whole s (sym p)) in (chars_of s, (spells s).1 v, count (sym p) v)

    back : (cs : List ℕ) × Spells s cs × (length cs ≡ n) → measured s ≡ Ok n
    back (cs, p, l) =
        let e : chars_of s ≡ cs = chars_spelt p in
        let v : valid_of s ≡ length s = ap (λ (x : List ℕ). length (spelling x)) e ∙ sym (ap length p.spelt) in
        rw (eq-eqb (valid_of s) (length s) v, e, l)

-- `Err k` is answered exactly where the first k bytes are such encodings and at k, within the text, none stands.
pub measures_bad : (s : List ℕ) (k : ℕ) → (measured s ≡ Err k) ↔ ((k < length s) × ((cs : List ℕ) × Spells (take k s) cs) × Begins_none (drop k s))
unfolding measured valid_of
measures_bad s k = (there, back)
  where
    short : measured s ≡ Err k → valid_of s ≡ length s → ⊥
    short p v = let q : ◌≡◌ {A = Result ℕ ℕ} (Err k) (Ok (length (chars_of s))) = sym p ∙ rw (eq-eqb (valid_of s) (length s) v) in let z : ◌≡◌ {A = ℕ} 0 1 = cc in omega arith

    there : measured s ≡ Err k → (k < length s) × ((cs : List ℕ) × Spells (take k s) cs) × Begins_none (drop k s)
    there p =
        let e : k ≡ valid_of s = valid_part s (sym p) in
        let n : valid_of s ≡ length s → ⊥ = short p in (
          rw e (at_most (eq-or-lt_of_le (valid_most s)) n),
          (chars_of s, subst (λ (j : ℕ). Spells (take j s) (chars_of s)) (sym e) (valid_up_to s).0),
          subst (λ (j : ℕ). Begins_none (drop j s)) (sym e) (valid_up_to s).1,
        )
      where
        at_most : (valid_of s ≡ length s) ⊎ (valid_of s < length s) → (valid_of s ≡ length s → ⊥) → valid_of s < length s
        at_most (inl e) n = absurd (n e)
        at_most (inr l) n = l

    back : (k < length s) × ((cs : List ℕ) × Spells (take k s) cs) × Begins_none (drop k s) → measured s ≡ Err k
    back (h, (cs, p), b) =
        let stop : chars_of (drop k s) ≡ [] = chars_bad (drop k s) ((decodes_bad (drop k s)).1 b) in
        let e : chars_of s ≡ cs =
        ap chars_of (sym (take-append-drop k s) ∙ ap (λ (t : List ℕ). t ++ drop k s) p.spelt)
        ∙ chars_front p.scalars (drop k s) ∙ ap (λ (l : List ℕ). cs ++ l) stop ∙ append-nil cs in
        let v : valid_of s ≡ k = ap (λ (x : List ℕ). length (spelling x)) e ∙ sym (ap length p.spelt) ∙ length-take-le k s (omega arith) in
        let n : valid_of s ≡ length s → ⊥ = λ q. omega arith in
        rw (ne_eqb (valid_of s) (length s) n, v)

-- ---- a text character by character, for whoever walks one

-- A character is one to four bytes wide.
pub width : (c : ℕ) → (1 ≤ length (encode c)) × (length (encode c) ≤ 4)
width c =
    split c 0x7F (λ h. rw (encode1 c h) (omega arith))
    (λ g. split c 0x7FF (λ h. rw (encode2 c g h) (omega arith))
    (λ g. split c 0xFFFF (λ h. rw (encode3 c g h) (omega arith)) (λ g. rw (encode4 c g) (omega arith))))

-- A character that is decoded lies within the text.
pub inside : (text : List ℕ) (at : ℕ) {c w : ℕ} → decoded (drop at text) ≡ character c w → (1 ≤ w) × (w ≤ 4) × (at + w ≤ length text)
inside text at {c} {w} e =
    let t : Stands (drop at text) c w = stands e in
    (t.some, subst (λ (n : ℕ). n ≤ 4) (sym t.width) (width c).1, omega (arith, length-drop at text, t.inside, t.some))

-- The first character of a text is what is decoded, and the others are those of what follows it.
pub first_character : {s : List ℕ} {c : ℕ} {cs : List ℕ} → Spells s (c ∷ cs)
    → (decoded s ≡ character c (length (encode c))) × Spells (drop (length (encode c)) s) cs
unfolding spelling
first_character {s} {c} {cs} p = go p.scalars
  where
    go : Scalars (c ∷ cs) → (decoded s ≡ character c (length (encode c))) × Spells (drop (length (encode c)) s) cs
    go (more h r) = (
      (decodes_char s c (length (encode c))).1 (h, (spelling cs, p.spelt), refl),
      record { scalars = r; spelt = ap (drop (length (encode c))) p.spelt ∙ drop_at (encode c) (spelling cs) (length (encode c)) refl },
    )

-- A text with no characters is empty.
pub no_character : {s : List ℕ} → Spells s [] → s ≡ []
unfolding spelling
no_character p = p.spelt

-- Two texts one after the other have the characters of both.
pub joined : {s t cs ds : List ℕ} → Spells s cs → Spells t ds → Spells (s ++ t) (cs ++ ds)
unfolding spelling
joined {s} {t} {cs} {ds} p q = record {
  scalars = all p.scalars q.scalars;
  spelt = rw (p.spelt, q.spelt) (sym (both cs ds));
}
  where
    all : {xs ys : List ℕ} → Scalars xs → Scalars ys → Scalars (xs ++ ys)
    all none r = r
    all (more h t) r = more h (all t r)

    both : (xs ys : List ℕ) → spelling (xs ++ ys) ≡ spelling xs ++ spelling ys
    both [] ys = refl
    both (x ∷ xs) ys = ap (λ (l : List ℕ). encode x ++ l) (both xs ys) ∙ sym (append_assoc (encode x) (spelling xs) (spelling ys))

-- ---- order

-- The order of code points is the order of their octets,
pub order : (c d : ℕ) → (c < d) ↔ Before (encode c) (encode d)
order c d = (there, λ b. split d c (λ l. absurd (not l b)) (λ l. l))
  where
    there : {x y : ℕ} → x < y → Before (encode x) (encode y)
    there {x} {y} h = subst₂ Before (append-nil (encode x)) (append-nil (encode y)) (ahead x y h [] [])

    not : d ≤ c → Before (encode c) (encode d) → ⊥
    not l b = go (eq-or-lt_of_le l) b
      where
        go : (d ≡ c) ⊎ (d < c) → Before (encode c) (encode d) → ⊥
        go (inl e) b = not_itself b (ap encode (sym e))
        go (inr h) b = not_both b (there h)

-- and so it is of lists of them and their spellings, each in lexicographic order, a prefix first.
pub order_of_lists : (cs ds : List ℕ) → Before cs ds ↔ Before (spelling cs) (spelling ds)
order_of_lists cs ds = (λ b. spelt_before b, λ b. go (which cs ds) b)
  where
    go : Before cs ds ⊎ ((cs ≡ ds) ⊎ Before ds cs) → Before (spelling cs) (spelling ds) → Before cs ds
    go (inl p) b = p
    go (inr (inl e)) b = absurd (not_itself b (ap spelling e))
    go (inr (inr p)) b = absurd (not_both b (spelt_before p))

-- ---- document 01's examples: ED A0 80, C0 80 and F4 90 80 80 are refused; F4 8F BF BF is accepted, as 10FFFF

pub examples :
    (decoded (0xED ∷ 0xA0 ∷ 0x80 ∷ []) ≡ None)
    × (decoded (0xC0 ∷ 0x80 ∷ []) ≡ None)
    × (decoded (0xF4 ∷ 0x90 ∷ 0x80 ∷ 0x80 ∷ []) ≡ None)
    × (decoded (0xF4 ∷ 0x8F ∷ 0xBF ∷ 0xBF ∷ []) ≡ character 0x10FFFF 4)
unfolding decoded by_class class_of decoded_after
examples = (refl, refl, refl, refl)
