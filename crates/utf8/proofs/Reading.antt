-- Reading a text that is UTF-8, character by character: a loop with a place in the text and the number of characters before it.
-- Assumes nothing.
use Prim.Native.Nat.{ℕ, zero, suc, ◌+◌, ◌≤◌, ◌<◌}
use mathlib.Core.Path.{◌≡◌, refl, ◌∙◌, sym, ap, subst}
use mathlib.Core.List.{List, [], ◌∷◌}
use native.Mathlib.Nat.{lt_irrefl, add-zero}
use native.Mathlib.Omega.{arith}
use lib.ListN.{length, get_or, drop, length-drop, drop_of_length-le}
use lib.Seq.{drop_at, drop-drop, get_or-drop}
use Rattle.std.specs.Prelude.{None}
use Rattle.utf8.specs.Encode.{Scalar, encode, spelling, Scalars, none, more, Spells}
use Rattle.utf8.specs.Decode.{character, decoded}
use Rattle.utf8.specs.Chars.{chars_of}
use Rattle.utf8.proofs.Whole.{Stands, stands, chars_char, chars_bad}

-- each of a list's code points
pub scalars_at : {cs : List ℕ} → Scalars cs → (i : ℕ) → i < length cs → Scalar (get_or cs i 0)
scalars_at none i h = absurd (lt_irrefl 0 (omega arith))
scalars_at (more s r) zero h = s
scalars_at (more s r) (suc i) h = scalars_at r i (omega arith)

scalars_tail : {c : ℕ} {cs : List ℕ} → Scalars (c ∷ cs) → Scalars cs
scalars_tail (more s r) = r

-- no text has no character, and a text that is UTF-8 has one, or is none
pub chars_none : (text : List ℕ) → length text ≡ 0 → chars_of text ≡ []
unfolding decoded
chars_none [] e = chars_bad [] refl
chars_none (a ∷ s) e = absurd (lt_irrefl 0 (omega arith))

pub chars_some : {text : List ℕ} → Spells text (chars_of text) → 0 < length text → 0 < length (chars_of text)
chars_some {text} p h = go (chars_of text) p.spelt
  where
    go : (cs : List ℕ) → text ≡ spelling cs → 0 < length cs
    go [] e = absurd (lt_irrefl 0 (let z : length text ≡ 0 = ap length e ∙ (unfold spelling in refl) in omega arith))
    go (c ∷ cs) e = omega arith

-- what follows a character is UTF-8 too
rest_spelt : {s : List ℕ} {c w : ℕ} → decoded s ≡ character c w → Spells s (chars_of s) → Spells (drop w s) (chars_of (drop w s))
unfolding spelling
rest_spelt {s} {c} {w} e p =
    let t : Stands s c w = stands e in
    let q : chars_of s ≡ c ∷ chars_of (drop w s) = chars_char s e in
    record {
      scalars = scalars_tail (subst Scalars q p.scalars);
      spelt = ap (drop w) (p.spelt ∙ ap spelling q) ∙ drop_at (encode c) (spelling (chars_of (drop w s))) w (sym t.width);
    }

-- The bytes before `at` are the first k characters, and the rest is UTF-8.
pub record Reading (text : List ℕ) (at k : ℕ) : Type 0 where
  pub inside : at ≤ length text
  pub few : k ≤ at
  pub near : k ≤ length (chars_of text)
  pub rest : drop k (chars_of text) ≡ chars_of (drop at text)
  pub utf8 : Spells (drop at text) (chars_of (drop at text))

-- A character c of w bytes stands at `at`, and is read.
pub record Read (text : List ℕ) (at k c w : ℕ) : Type 0 where
  pub within : k < length (chars_of text)
  pub char : get_or (chars_of text) k 0 ≡ c
  pub scalar : Scalar c
  pub some : 1 ≤ w
  pub inside : at + w ≤ length text
  pub next : Reading text (at + w) (k + 1)

pub reading_none : {text : List ℕ} → Spells text (chars_of text) → Reading text 0 0
reading_none p = record { inside = omega arith; few = omega arith; near = omega arith; rest = refl; utf8 = p }

module _ {text : List ℕ} {at k : ℕ} (r : Reading text at k) where
  pub reading_more : {c w : ℕ} → decoded (drop at text) ≡ character c w → Read text at k c w
  reading_more {c} {w} e =
      let t : Stands (drop at text) c w = stands e in
      let d : drop w (drop at text) ≡ drop (at + w) text = drop-drop w at text in
      let n : length (drop at text) ≡ _ = length-drop at text in
      let q : drop k (chars_of text) ≡ c ∷ chars_of (drop (at + w) text) = r.rest ∙ chars_char (drop at text) e ∙ ap (λ (s : List ℕ). c ∷ chars_of s) d in
      let m : length (drop k (chars_of text)) ≡ _ = length-drop k (chars_of text) in
      let o : length (drop k (chars_of text)) ≡ suc (length (chars_of (drop (at + w) text))) = ap length q in
      record {
        within = omega (arith, r.near);
        char = ap (λ (i : ℕ). get_or (chars_of text) i 0) (sym (add-zero k)) ∙ sym (get_or-drop k (chars_of text) 0 0) ∙ ap (λ (s : List ℕ). get_or s 0 0) q;
        scalar = t.scalar;
        some = t.some;
        inside = omega (arith, r.inside, t.inside);
        next = record {
          inside = omega (arith, r.inside, t.inside);
          few = omega (arith, r.few, t.some);
          near = omega (arith, r.near);
          rest = sym (drop-drop 1 k (chars_of text)) ∙ ap (drop 1) q;
          utf8 = subst (λ (s : List ℕ). Spells s (chars_of s)) d (rest_spelt e r.utf8);
        };
      }

  -- a text that is UTF-8 has a character at each place that is reached
  pub reading_bad : at < length text → decoded (drop at text) ≡ None → ⊥
  unfolding spelling
  reading_bad h e =
      let z : length (drop at text) ≡ 0 = ap length (r.utf8.spelt ∙ ap spelling (chars_bad (drop at text) e)) in
      let n : length (drop at text) ≡ _ = length-drop at text in
      lt_irrefl at (omega arith)

  pub reading_end : length text ≤ at → k ≡ length (chars_of text)
  reading_end h =
      let z : drop at text ≡ [] = drop_of_length-le text h in
      let o : length (drop k (chars_of text)) ≡ 0 = ap length (r.rest ∙ ap chars_of z ∙ chars_none [] refl) in
      let m : length (drop k (chars_of text)) ≡ _ = length-drop k (chars_of text) in
      omega (arith, r.near)
