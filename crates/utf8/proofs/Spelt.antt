-- The characters of a text and its spelling: the function `chars_of` against the relation `Spells`, both ways.
-- Assumes nothing.
use Prim.Native.Nat.{ℕ, zero, suc, ◌≤◌}
use mathlib.Core.Path.{◌≡◌, refl, ◌∙◌, sym, ap}
use mathlib.Core.List.{List, [], ◌∷◌, ◌++◌, append_assoc, append-nil}
use native.Mathlib.Nat.{le_refl}
use native.Mathlib.Omega.{arith}
use lib.ListN.{length, take, drop, length-append, length-drop}
use lib.Seq.{take_at, drop_at, drop-append_seam}
use Rattle.std.specs.Prelude.{Option, Some, None}
use Rattle.utf8.specs.Encode.{Scalar, encode, spelling, Scalars, none, more, Spells}
use Rattle.utf8.specs.Decode.{character, decoded}
use Rattle.utf8.specs.Chars.{chars_of, valid_of}
use Rattle.utf8.specs.declared.Char.{Char}
use Rattle.utf8.proofs.Found.{finds}
use Rattle.utf8.proofs.Encoded.{grammatical}
use Rattle.utf8.proofs.Whole.{Stands, stands, chars_char, chars_bad}

-- The function from the relation: characters that stand at the front are found, whatever follows.
pub at_front : (c : ℕ) → Scalar c → (s : List ℕ) → decoded (encode c ++ s) ≡ character c (length (encode c))
at_front c h s = finds (grammatical c h) s

pub chars_front : {cs : List ℕ} → Scalars cs → (s : List ℕ) → chars_of (spelling cs ++ s) ≡ cs ++ chars_of s
unfolding spelling
chars_front none s = refl
chars_front (more {c} {cs} h r) s =
    ap chars_of (append_assoc (encode c) (spelling cs) s)
    ∙ chars_char (encode c ++ (spelling cs ++ s)) (at_front c h (spelling cs ++ s))
    ∙ ap (λ (l : List ℕ). c ∷ chars_of l) (drop-append_seam (encode c) (spelling cs ++ s))
    ∙ ap (λ (l : List ℕ). c ∷ l) (chars_front r s)

-- The relation from the function: a text is the spelling of its characters, and then what begins with none.
pub record Parts (s : List ℕ) : Type 0 where
  pub scalars : Scalars (chars_of s)
  pub rest : List ℕ
  pub whole : s ≡ spelling (chars_of s) ++ rest
  pub stop : decoded rest ≡ None

stopped : (s : List ℕ) → decoded s ≡ None → Parts s
unfolding spelling
stopped s e = record {
  scalars = rw (chars_bad s e) none;
  rest = s;
  whole = rw (chars_bad s e);
  stop = e;
}

joined : (s : List ℕ) {c w : ℕ} → decoded s ≡ character c w → Parts (drop w s) → Parts s
unfolding spelling
joined s {c} {w} e p =
    let t : Stands s c w = stands e in
    record {
      scalars = rw (chars_char s e) (more t.scalar p.scalars);
      rest = p.rest;
      whole =
          t.front ∙ ap (λ (l : List ℕ). encode c ++ l) p.whole ∙ sym (append_assoc (encode c) (spelling (chars_of (drop w s))) p.rest)
          ∙ ap (λ (l : List ℕ). spelling l ++ p.rest) (sym (chars_char s e));
      stop = p.stop;
    }

by_length : (f : ℕ) (s : List ℕ) → length s ≤ f → Parts s
by_length zero [] h = stopped [] (unfold decoded in refl)
by_length zero (a ∷ s) h = absurd (omega arith)
by_length (suc f) s h = go (decoded s) refl (λ t l. by_length f t l)
  where
    go : (d : Option Char) → decoded s ≡ d → ((t : List ℕ) → length t ≤ f → Parts t) → Parts s
    go None e ih = stopped s e
    go (Some r) e ih = let t : Stands s r.code r.width = stands e in joined s {c = r.code} {w = r.width} e (ih (drop r.width s) (simp length-drop (omega arith)))

pub parts : (s : List ℕ) → Parts s
parts s = by_length (length s) s (le_refl (length s))

-- the bytes that are valid spell the characters, and the rest is what is left
module _ (s : List ℕ) where
  pub valid_take : take (valid_of s) s ≡ spelling (chars_of s)
  unfolding valid_of
  valid_take = ap (take (valid_of s)) (parts s).whole ∙ take_at (spelling (chars_of s)) (parts s).rest (valid_of s) refl

  pub valid_drop : drop (valid_of s) s ≡ (parts s).rest
  unfolding valid_of
  valid_drop = ap (drop (valid_of s)) (parts s).whole ∙ drop_at (spelling (chars_of s)) (parts s).rest (valid_of s) refl

  pub valid_most : valid_of s ≤ length s
  unfolding valid_of
  valid_most = omega (arith, ap length (parts s).whole ∙ length-append (spelling (chars_of s)) (parts s).rest)

-- the characters of a text that is UTF-8
pub chars_spelt : {s cs : List ℕ} → Spells s cs → chars_of s ≡ cs
chars_spelt {s} {cs} p = ap chars_of (p.spelt ∙ sym (append-nil (spelling cs))) ∙ chars_front p.scalars [] ∙ ap (λ (l : List ℕ). cs ++ l) (chars_bad [] (unfold decoded in refl)) ∙ append-nil cs
