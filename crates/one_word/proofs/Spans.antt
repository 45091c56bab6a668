-- The word as the only span of a text: its first bytes, one more than a word may have. Assumes nothing.
use mathlib.Core.Path.{◌≡◌, sym, ap, ◌∙◌, subst}
use mathlib.Core.List.{List, [], ◌∷◌}
use Prim.Native.Nat.{ℕ, ◌≤◌}
use native.Mathlib.Nat.{not-suc-le-zero}
use native.Mathlib.Omega.{arith}
use lib.ListN.{length, take}
use lib.Seq.{take_all, length-take-le}
use Rattle.utf8.specs.Encode.{Spells}
use Rattle.utf8.specs.Chars.{chars_of}
use Rattle.spans.specs.Spans.{many, octets, listed}
use Rattle.spans.specs.Check.{Good, AllGood, FirstBad}
use Rattle.one_word.specs.Word.{GoodWord}
use Rattle.one_word.specs.Steps.{Spanned}

module _ {word : List ℕ} {bytes : ℕ} {span : List ℕ} (s : Spanned word bytes span) where
  pub inside : bytes ≤ length word
  inside = let e = s.bytes_are in omega arith

  pub short_text : length (take bytes word) ≤ 256
  short_text = let e = s.bytes_are in let l = length-take-le bytes word inside in omega arith

  pub one_span : many span ≡ 1
  one_span = ap many s.span_is

  abbrev literal : List ℕ
  literal = 0 ∷ bytes ∷ []

  -- the bytes at the span
  at_span : octets (take bytes word) literal 0 ≡ take bytes word
  at_span = take_all bytes (take bytes word) (let l = length-take-le bytes word inside in omega arith)

  whole : length word ≤ 255 → take bytes word ≡ word
  whole h = let e = s.bytes_are in take_all bytes word (omega arith)

  whole_octets : length word ≤ 255 → octets (take bytes word) literal 0 ≡ word
  whole_octets h = at_span ∙ whole h

  good_literal : GoodWord word → Good (take bytes word) literal 255 0
  good_literal g =
      let e = s.bytes_are in
      let l = length-take-le bytes word inside in
      let h = g.short in
      record { inside = omega arith; short = omega arith; utf8 = subst (λ (o : List ℕ). Spells o (chars_of o)) (sym (whole_octets g.short)) g.utf8 }

  literal_good : Good (take bytes word) literal 255 0 → GoodWord word
  literal_good g =
      let e = s.bytes_are in
      let b = g.short in
      let h : length word ≤ 255 = omega arith in
      record { short = h; utf8 = subst (λ (o : List ℕ). Spells o (chars_of o)) (whole_octets h) g.utf8 }

  pub good_span : GoodWord word → AllGood (take bytes word) span 255 (many span)
  good_span g = subst (λ (l : List ℕ). AllGood (take bytes word) l 255 (many l)) (sym s.span_is) (λ k h. let z : 0 ≡ k = omega arith in subst (Good (take bytes word) literal 255) z (good_literal g))

  pub span_good : AllGood (take bytes word) span 255 (many span) → GoodWord word
  span_good a = literal_good (subst (λ (l : List ℕ). AllGood (take bytes word) l 255 (many l)) s.span_is a 0 (omega arith))

  pub bad_span : {k : ℕ} → FirstBad (take bytes word) span 255 k → (k ≡ 0) × (GoodWord word → ⊥)
  bad_span {k} f =
      let one = one_span in
      let h = f.within in
      let z : k ≡ 0 = omega arith in
      (z, λ g. f.bad (good_span g k f.within))

  pub span_bad : (GoodWord word → ⊥) → FirstBad (take bytes word) span 255 0
  span_bad n =
      let one = one_span in
      record {
        within = omega arith;
        before = λ k l. absurd (not-suc-le-zero l);
        bad = λ g. n (span_good (λ k l. let z : 0 ≡ k = omega arith in subst (Good (take bytes word) span 255) z g));
      }

  -- the words of that text: this one
  pub listed_span : GoodWord word → listed (take bytes word) span ≡ chars_of word ∷ []
  listed_span g = ap (listed (take bytes word)) s.span_is ∙ ap (λ (o : List ℕ). chars_of o ∷ []) (whole_octets g.short)
