-- What the pieces spell, as spans of the text. Assumes nothing.
use Rattle.std.proofs.Common.{◌≡◌, ℕ, zero, suc, ◌+◌, ◌-◌, ◌*◌, ◌/◌, ◌<◌, ◌≤◌, List, [], ◌∷◌, ◌++◌, map, length, get_or, take, sym, refl, ap, ◌∙◌, subst, ap₂, add-one, arith}
use lib.ListN.{length-map}
use Rattle.utf8.specs.Encode.{spelling}
use Rattle.spans.specs.Spans.{many, from, bytes, chars_at, first, listed}
use Rattle.spans.specs.Check.{Good, AllGood}
use Rattle.positions.specs.Positions.{at, left, word, text_at}
use Rattle.positions.specs.Gathered.{Gathered}
use Rattle.positions.proofs.Theorems.{part}
use Rattle.ranking.specs.Counting.{Entry, span, entry_at, spelt, texts}
use Rattle.ranking.specs.Slots.{packed}
use Rattle.ranks.proofs.Moves.{map_at}
use Rattle.ranking.proofs.Lists.{by_number, span_join, map_join}
use Rattle.ranking.proofs.Slots.{length_packed, packed_position, packed_size}
use Rattle.listed.specs.Spelled.{end_of, position_of, length_of, Ending, Cutting, Spelling, Spelled}
use Rattle.listed.proofs.Ends.{ends, known, left_short}

-- a list by number, as spans have it and as ranking has it
pub first_map : {A : Type 0} (f : ℕ → A) (n : ℕ) → first f n ≡ map f (span 0 n)
first_map f zero = refl
first_map {A} f (suc n) =
    let z : 0 + n ≡ n = omega arith in
    ap (λ (l : List A). l ++ (f n ∷ [])) (first_map f n)
    ∙ ap (λ (k : ℕ). map f (span 0 n) ++ (f k ∷ [])) (sym z)
    ∙ sym (map_join f (span 0 n) (span (0 + n) 1)) ∙ ap (map f) (sym (span_join 0 n 1)) ∙ ap (λ (k : ℕ). map f (span 0 k)) (add-one n)

-- the first characters of a position's text
pub record Within (places : List ℕ) (n : ℕ) (e : Entry) : Type 0 where
  pub position : e.0 < n
  pub length : e.1.0 ≤ left places e.0

module _ {text words : List ℕ} {reach : ℕ} {chars places : List ℕ} {n : ℕ} (g : Gathered text words reach (many words) chars places n)
    (good : AllGood text words 255 (many words)) (text-small : length text < 4294967296) (far : reach ≤ 32) (few : n < 4294967296)
    (es : List Entry) (within : (i : ℕ) → i < length es → Within places n (entry_at es i)) where
  -- its bytes end inside the text
  inside : (p l : ℕ) → p < n → l ≤ left places p → at places p + length (spelling (take l (text_at chars places p))) ≤ length text
  inside p l h h' =
      (part g good p l h h' (at places p ∷ length (spelling (take l (text_at chars places p))) ∷ []) 0 refl refl).0.inside

  module _ {pieces : List ℕ} (p : pieces ≡ packed es) where
    many_is : many pieces ≡ length es
    many_is = omega (arith, ap length p, length_packed es)

    position_is : (i : ℕ) → i < length es → position_of pieces i ≡ (entry_at es i).0
    position_is i h = ap (λ (l : List ℕ). get_or l (2 * i) 0) p ∙ packed_position es i h

    length_is : (i : ℕ) → i < length es → length_of pieces i ≡ (entry_at es i).1.0
    length_is i h = ap (λ (l : List ℕ). get_or l (2 * i + 1) 0) p ∙ packed_size es i h

    one : (i q l : ℕ) → 2 * i + 1 < length pieces → position_of pieces i ≡ q → length_of pieces i ≡ l → q < n → l ≤ left places q
        → Cutting words places n pieces i
    one i q l m a b h h' =
        let e = ends g good q l h h' in
        let k = known g q h in
        let t = inside q l h h' in
        let w = (good (word places q) k).inside in
        let f : Ending words places n q l = record {
          placed = g.placed;
          within = h;
          known = k;
          short = omega (arith, left_short g q h);
          few = few;
          small = omega arith;
        } in
        record {
          in_pieces = m;
          ending = subst (λ (x : ℕ). Ending words places n x (length_of pieces i)) (sym a) (subst (Ending words places n q) (sym b) f);
          forward = rw (a, b) (omega (arith, e));
          small = rw (a, b) (omega (arith, e));
        }

    -- So they can be written as spans;
    pub spelling_asked : Spelling words places n pieces
    spelling_asked = record {
      each = λ i h.
          let m : i < length es = omega (arith, many_is) in
          one i (entry_at es i).0 (entry_at es i).1.0 (omega (arith, ap length p, length_packed es)) (position_is i m) (length_is i m)
          (within i m).position (within i m).length;
    }

    module _ {pieces' : List ℕ} (s : Spelled words places n pieces pieces') where
      at_is : (i : ℕ) (h : i < length es) → from pieces' i ≡ at places (entry_at es i).0
      at_is i h = s.froms i (omega (arith, many_is)) ∙ ap (at places) (position_is i h)

      bytes_are : (i : ℕ) (h : i < length es)
          → bytes pieces' i ≡ length (spelling (take (entry_at es i).1.0 (text_at chars places (entry_at es i).0)))
      bytes_are i h =
          let q = (entry_at es i).0 in
          let l = (entry_at es i).1.0 in
          let e = ends g good q l (within i h).position (within i h).length in
          s.lengths i (omega (arith, many_is))
          ∙ ap₂ (λ (x y : ℕ). end_of words places n x y - at places x) (position_is i h) (length_is i h)
          ∙ (omega (arith, e))

      -- each is then inside the text, of at most 255 bytes and UTF-8,
      pub spelled_good : (i : ℕ) → i < length es → Good text pieces' 255 i
      spelled_good i h =
          (part g good (entry_at es i).0 (entry_at es i).1.0 (within i h).position (within i h).length pieces' i (at_is i h) (bytes_are i h)).0

      -- and the spans spell the strings.
      pub spelled_listed : length pieces' ≡ length pieces → listed text pieces' ≡ texts (text_at chars places) es
      spelled_listed m =
          let many' : many pieces' ≡ length (texts (text_at chars places) es) =
          ap (λ (k : ℕ). k / 2) m ∙ many_is ∙ sym (length-map es (spelt (text_at chars places))) in
          let z : (i : ℕ) → 0 + i ≡ i = λ i. omega arith in
          first_map (chars_at text pieces') (many pieces')
          ∙ ap (λ (k : ℕ). map (chars_at text pieces') (span 0 k)) many'
          ∙ by_number (texts (text_at chars places) es) [] (chars_at text pieces') 0
          (λ i h. ap (chars_at text pieces') (z i) ∙ spelt_is i (omega (arith, length-map es (spelt (text_at chars places)))))
        where
          spelt_is : (i : ℕ) → i < length es → chars_at text pieces' i ≡ get_or (texts (text_at chars places) es) i []
          spelt_is i h =
              (part g good (entry_at es i).0 (entry_at es i).1.0 (within i h).position (within i h).length pieces' i
              (at_is i h) (bytes_are i h)).1
              ∙ sym (map_at (spelt (text_at chars places)) es i (0, (0, 0)) [] h)
