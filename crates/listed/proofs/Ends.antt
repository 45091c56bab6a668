-- Where pieces of gathered positions end, and what they spell. Assumes nothing.
use Rattle.std.proofs.Common.{◌≡◌, ℕ, ◌+◌, ◌<◌, ◌≤◌, Bool, true, false, cond, ◌&&◌, eqb, ltb, List, length, take, drop, sym, refl, ap, ◌∙◌, subst, arith, take-take, ltb-false, ltb-true, eqb-true}
use native.Mathlib.Decide.{dec_lt}
use borrow.Author.Tests.{eqb-false}
use Rattle.utf8.specs.Encode.{spelling}
use Rattle.spans.specs.Spans.{many, from, bytes, chars_at}
use Rattle.spans.specs.Check.{AllGood}
use Rattle.positions.specs.Positions.{at, left, word, text_at}
use Rattle.positions.specs.Gathered.{begin, Place, Gathered}
use Rattle.positions.proofs.Rows.{Of, begin_before}
use Rattle.positions.proofs.Theorems.{of_word, text_is, ends_inside, ends_last}
use Rattle.listed.specs.Spelled.{end_of}

module _ {text words : List ℕ} {reach : ℕ} {chars places : List ℕ} {n : ℕ} (g : Gathered text words reach (many words) chars places n)
  where
    -- position p is a character of a word
    module _ (p : ℕ) (h : p < n) where
      o : Of text words (many words) p
      o = of_word g p h

      abbrev w : List ℕ
      w = chars_at text words o.which

      place : Place text words reach places (begin text words o.which + o.char) o.which o.char
      place = g.places_are o.which o.char o.known o.within

      word_is : word places p ≡ o.which
      word_is = ap (word places) o.is ∙ place.word_is

      pub known : word places p < many words
      known = subst (λ (j : ℕ). j < many words) (sym word_is) o.known

      pub left_short : left places p ≤ reach
      left_short = omega (arith, place.left_is, ap (left places) o.is)

    module _ (good : AllGood text words 255 (many words)) (p l : ℕ) (h : p < n) (h' : l ≤ left places p) where
      chars_are : take l (text_at chars places p) ≡ take l (drop (o p h).char (w p h))
      chars_are =
          ap (λ (q : ℕ). take l (text_at chars places q)) (o p h).is
          ∙ ap (take l) (text_is g (o p h).which (o p h).char (o p h).known (o p h).within)
          ∙ take-take l reach (drop (o p h).char (w p h)) (omega (arith, (place p h).left_is, ap (left places) (o p h).is))

      abbrev bytes_long : ℕ
      bytes_long = length (spelling (take l (drop (o p h).char (w p h))))

      same_long : bytes_long ≡ length (spelling (take l (text_at chars places p)))
      same_long = ap (λ (cs : List ℕ). length (spelling cs)) (sym chars_are)

      -- where the next position is one of the same word, the piece ends inside the word
      inside : p + l < n → word places (p + l) ≡ word places p → (o p h).char + l < length (w p h)
      inside a b =
          let o' = of_word g (p + l) a in
          let e : o'.which ≡ (o p h).which =
          sym (g.places_are o'.which o'.char o'.known o'.within).word_is ∙ sym (ap (word places) o'.is) ∙ b ∙ word_is p h in
          let x = o'.is in
          let y = (o p h).is in
          let z : o'.char < length (w p h) = subst (λ (j : ℕ). o'.char < length (chars_at text words j)) e o'.within in
          let v : begin text words o'.which ≡ begin text words (o p h).which = ap (begin text words) e in
          omega arith

      -- and else at the word's end
      past : (p + l < n → word places (p + l) ≡ word places p → ⊥) → length (w p h) ≤ (o p h).char + l
      past f = elim (dec_lt ((o p h).char + l) (length (w p h))) [
        | no a ↦ omega arith
        | yes a ↦
            let e : p + l ≡ begin text words (o p h).which + ((o p h).char + l) = omega (arith, (o p h).is) in
            let b = begin_before text words (o p h).which (many words) (o p h).known in
            let c = g.counted in
            let q = (g.places_are (o p h).which ((o p h).char + l) (o p h).known a).word_is in
            absurd (f (omega arith) (ap (word places) e ∙ q ∙ sym (word_is p h)))
      ]

      ends_in : (o p h).char + l < length (w p h) → at places (p + l) ≡ at places p + bytes_long
      ends_in a =
          let e : p + l ≡ begin text words (o p h).which + ((o p h).char + l) = omega (arith, (o p h).is) in
          ap (at places) e ∙ ends_inside g (o p h).which (o p h).char l (o p h).known a
          ∙ ap (λ (q : ℕ). at places q + bytes_long) (sym (o p h).is)

      ends_out : length (w p h) ≤ (o p h).char + l → from words (word places p) + bytes words (word places p) ≡ at places p + bytes_long
      ends_out a =
          ap (λ (j : ℕ). from words j + bytes words j) (word_is p h)
          ∙ ends_last g (o p h).which (o p h).char l (o p h).known (o p h).within a (good (o p h).which (o p h).known)
          ∙ ap (λ (q : ℕ). at places q + bytes_long) (sym (o p h).is)

      pub ends : end_of words places n p l ≡ at places p + length (spelling (take l (text_at chars places p)))
      ends = by (ltb (p + l) n) refl (eqb (word places (p + l)) (word places p)) refl ∙ ap (λ (m : ℕ). at places p + m) same_long
        where
          by : (s : Bool) → ltb (p + l) n ≡ s → (t : Bool) → eqb (word places (p + l)) (word places p) ≡ t
              → cond (s && t) (at places (p + l)) (from words (word places p) + bytes words (word places p)) ≡ at places p + bytes_long
          by true a true b = ends_in (inside (ltb-true (p + l) n a) (eqb-true (word places (p + l)) (word places p) b))
          by true a false b = ends_out (past (λ c d. eqb-false (word places (p + l)) (word places p) b d))
          by false a t b = ends_out (past (λ c d. absurd (omega (arith, ltb-false (p + l) n a))))
