-- A whole text: its characters one after the other, and the loop that counts them.
-- Assumes nothing.
use Prim.Native.Nat.{ℕ, zero, suc, ◌+◌, ◌≤◌, ◌<◌}
use mathlib.Core.Path.{◌≡◌, refl, ◌∙◌, sym, ap, subst}
use mathlib.Core.List.{List, [], ◌∷◌, ◌++◌}
use native.Mathlib.Nat.{le_refl}
use native.Mathlib.Omega.{arith}
use lib.ListN.{length, drop, length-append, length-drop, drop_of_length-le}
use lib.Seq.{drop_at, drop-drop}
use borrow.Author.Tests.{eq-eqb, ne_eqb, eqb-true}
use lib.Dec.{eqb}
use mathlib.Core.Bool.{Bool, true, false, cond}
use Rattle.std.specs.Prelude.{Option, Some, None, Ok, Err}
use Rattle.utf8.specs.Grammar.{UTF8_char, utf8_1, utf8_2, utf8_3_E0, utf8_3_E1, utf8_3_ED, utf8_3_EE, utf8_4_F0, utf8_4_F1, utf8_4_F4}
use Rattle.utf8.specs.Encode.{Scalar, encode, spelling}
use Rattle.utf8.specs.Decode.{character, decoded}
use Rattle.utf8.specs.Chars.{after, chars_f, chars_of, valid_of, measured}
use Rattle.utf8.specs.declared.Char.{Char}
use Rattle.utf8.proofs.Found.{Found, found}
use Rattle.utf8.proofs.Encoded.{encoded}

-- a character of the grammar has a byte
some_byte : {bytes : List ℕ} {c : ℕ} → UTF8_char bytes c → 1 ≤ length bytes
some_byte (utf8_1 h) = omega arith
some_byte (utf8_2 h t) = omega arith
some_byte (utf8_3_E0 h t u) = omega arith
some_byte (utf8_3_E1 h t u) = omega arith
some_byte (utf8_3_ED h t u) = omega arith
some_byte (utf8_3_EE h t u) = omega arith
some_byte (utf8_4_F0 h t u v) = omega arith
some_byte (utf8_4_F1 h t u v) = omega arith
some_byte (utf8_4_F4 h t u v) = omega arith

-- what a character that `decoded` finds is: a code point, its encoding at the front, and what follows it
pub record Stands (s : List ℕ) (c w : ℕ) : Type 0 where
  pub scalar : Scalar c
  pub front : s ≡ encode c ++ drop w s
  pub width : w ≡ length (encode c)
  pub some : 1 ≤ w
  pub inside : w ≤ length s

pub stands : {s : List ℕ} {c w : ℕ} → decoded s ≡ character c w → Stands s c w
stands {s} {c} {w} e = go (subst (Found s) e (found s))
  where
    go : Found s (character c w) → Stands s c w
    go (bytes, rest, g, p, q) =
        let b : bytes ≡ encode c = (encoded g).1 in
        let n : length s ≡ length bytes + length rest = ap length p ∙ length-append bytes rest in
        let r : drop w s ≡ rest = ap (drop w) p ∙ drop_at bytes rest w (sym q) in
        record {
          scalar = (encoded g).0;
          front = p ∙ rw (b, r);
          width = q ∙ ap length b;
          some = subst (λ (k : ℕ). 1 ≤ k) (sym q) (some_byte g);
          inside = omega arith;
        }

-- any count that is large enough gives the same characters
no_text : (f : ℕ) → chars_f f [] ≡ []
unfolding chars_f decoded
no_text zero = refl
no_text (suc f) = refl

shorter : (s : List ℕ) {c w : ℕ} → decoded s ≡ character c w → (f : ℕ) → length s ≤ suc f → length (drop w s) ≤ f
shorter s {c} {w} e f h = let t : Stands s c w = stands e in simp length-drop (omega arith)

same : (f g : ℕ) (s : List ℕ) → length s ≤ f → length s ≤ g → chars_f f s ≡ chars_f g s
unfolding chars_f
same zero g [] h k = sym (no_text g)
same zero g (a ∷ s) h k = absurd (omega arith)
same (suc f) zero [] h k = no_text (suc f)
same (suc f) zero (a ∷ s) h k = absurd (omega arith)
same (suc f) (suc g) s h k = go (decoded s) refl (λ t l m. same f g t l m)
  where
    go : (d : Option Char) → decoded s ≡ d → ((t : List ℕ) → length t ≤ f → length t ≤ g → chars_f f t ≡ chars_f g t)
        → after d s (λ t. chars_f f t) ≡ after d s (λ t. chars_f g t)
    go (Some r) e ih = ap (λ (l : List ℕ). r.code ∷ l) (ih (drop r.width s) (shorter s {c = r.code} {w = r.width} e f h) (shorter s {c = r.code} {w = r.width} e g k))
    go None e ih = refl

-- The equations that a reader expects: a character and then those after it; none where none stands.
module _ (s : List ℕ) where
  first : chars_of s ≡ after (decoded s) s (λ t. chars_f (length s) t)
  unfolding chars_of
  first = same (length s) (suc (length s)) s (le_refl (length s)) (omega arith)

  pub chars_char : {c w : ℕ} → decoded s ≡ character c w → chars_of s ≡ c ∷ chars_of (drop w s)
  unfolding chars_of after
  chars_char {c} {w} e =
      first ∙ ap (λ (d : Option Char). after d s (λ t. chars_f (length s) t)) e
      ∙ ap (λ (l : List ℕ). c ∷ l) (same (length s) (length (drop w s)) (drop w s) (simp length-drop (omega arith)) (le_refl (length (drop w s))))

  pub chars_bad : decoded s ≡ None → chars_of s ≡ []
  unfolding after
  chars_bad e = first ∙ ap (λ (d : Option Char). after d s (λ t. chars_f (length s) t)) e

  -- and of the bytes that they take
  pub valid_char : {c w : ℕ} → decoded s ≡ character c w → valid_of s ≡ w + valid_of (drop w s)
  unfolding valid_of spelling
  valid_char {c} {w} e =
      let t : Stands s c w = stands e in
      ap (λ (cs : List ℕ). length (spelling cs)) (chars_char e) ∙ rw (length-append (encode c) (spelling (chars_of (drop w s)))) (rw (← t.width))

  pub valid_bad : decoded s ≡ None → valid_of s ≡ 0
  unfolding valid_of spelling
  valid_bad e = ap (λ (cs : List ℕ). length (spelling cs)) (chars_bad e)

-- How far the loop of `measure` has come: the bytes before `at` are `count` characters, and those of the rest are still to come.
pub record Along (text : List ℕ) (at count : ℕ) : Type 0 where
  pub inside : at ≤ length text
  pub few : count ≤ at
  pub bytes : valid_of text ≡ at + valid_of (drop at text)
  pub chars : length (chars_of text) ≡ count + length (chars_of (drop at text))

pub along_none : (text : List ℕ) → Along text 0 0
along_none text = record { inside = omega arith; few = omega arith; bytes = omega arith; chars = omega arith }

module _ {text : List ℕ} {at count : ℕ} (a : Along text at count) where
  -- one more character
  pub along_inside : {c w : ℕ} → decoded (drop at text) ≡ character c w → (at + w ≤ length text) × (1 ≤ w)
  along_inside {c} {w} e =
      let t : Stands (drop at text) c w = stands e in
      let n : length (drop at text) ≡ _ = length-drop at text in
      (omega (arith, a.inside), t.some)

  pub along_more : {c w : ℕ} → decoded (drop at text) ≡ character c w → Along text (at + w) (count + 1)
  along_more {c} {w} e =
      let i : (at + w ≤ length text) × (1 ≤ w) = along_inside e in
      let d : drop w (drop at text) ≡ drop (at + w) text = drop-drop w at text in
      let v : valid_of (drop at text) ≡ w + valid_of (drop (at + w) text) = valid_char (drop at text) e ∙ rw d in
      let l : length (chars_of (drop at text)) ≡ suc (length (chars_of (drop (at + w) text))) = ap length (chars_char (drop at text) e) ∙ rw d in
      record {
        inside = i.0;
        few = omega (arith, a.few);
        bytes = omega (arith, a.bytes);
        chars = omega (arith, a.chars);
      }

  -- the end of the text, and a byte that begins no character
  pub along_end : length text ≤ at → Ok count ≡ measured text
  unfolding measured decoded
  along_end h =
      let e : decoded (drop at text) ≡ None = ap decoded (drop_of_length-le text h) in
      let v : valid_of text ≡ length text = a.bytes ∙ omega (arith, valid_bad (drop at text) e, a.inside) in
      let n : length (chars_of text) ≡ count = a.chars ∙ omega (arith, ap length (chars_bad (drop at text) e)) in
      rw (eq-eqb (valid_of text) (length text) v, n)

  pub along_bad : at < length text → decoded (drop at text) ≡ None → Err at ≡ measured text
  unfolding measured
  along_bad h e =
      let v : valid_of text ≡ at = a.bytes ∙ omega (arith, valid_bad (drop at text) e) in
      let n : valid_of text ≡ length text → ⊥ = λ p. omega arith in
      rw (ne_eqb (valid_of text) (length text) n, v)

-- how many bytes are valid, from what `measure` says
pub valid_whole : (text : List ℕ) {n : ℕ} → Ok n ≡ measured text → length text ≡ valid_of text
unfolding measured
valid_whole text {n} p = go (eqb (valid_of text) (length text)) refl p
  where
    go : (b : Bool) → eqb (valid_of text) (length text) ≡ b → Ok n ≡ cond b (Ok (length (chars_of text))) (Err (valid_of text)) → length text ≡ valid_of text
    go true e q = sym (eqb-true (valid_of text) (length text) e)
    go false e q = let z : ◌≡◌ {A = ℕ} 0 1 = cc in absurd (omega arith)

pub valid_part : (text : List ℕ) {k : ℕ} → Err k ≡ measured text → k ≡ valid_of text
unfolding measured
valid_part text {k} p = go (eqb (valid_of text) (length text)) p
  where
    go : (b : Bool) → Err k ≡ cond b (Ok (length (chars_of text))) (Err (valid_of text)) → k ≡ valid_of text
    go true q = let z : ◌≡◌ {A = ℕ} 0 1 = cc in absurd (omega arith)
    go false q = cc
