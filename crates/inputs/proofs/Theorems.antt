-- The check of what a build is lent has one answer; and what it says in document 01's words. Assumes nothing.
use mathlib.Core.Path.{◌≡◌, refl, sym, ap, ◌∙◌}
use mathlib.Core.Logic.{◌↔◌, inl, inr}
use mathlib.Core.List.Memᴰ
use mathlib.Core.List.{List, [], ◌∷◌, ◌++◌, Memᴰ}
use Prim.Native.Nat.{ℕ, zero, suc, ◌≤◌, ◌<◌}
use native.Mathlib.Omega.{arith}
use native.Mathlib.Decide.{dec_lt}
use lib.ListN.{length}
use Rattle.refusal.specs.declared.Refusal.{Refusal}
use Rattle.refusal.specs.declared.Refusal.TheVariants.{BadWord, BadPiece, RepeatedPiece}
use Rattle.utf8.specs.Encode.{Spells, spelling}
use Rattle.spans.specs.Spans.{many, Inside, octets, chars_at, first, listed}
use Rattle.spans.specs.Check.{Good}
use Rattle.spans.proofs.Theorems.{one_bad}
use Rattle.repeats.specs.Repeats.{Lowest}
use Rattle.lattice.specs.Pieces.{Distinct, no_piece, one_more}
use Rattle.inputs.specs.Inputs.{GoodPieces, Once, InOrder, Why, bad_setting, no_room, bad_word, bad_piece, repeated, Answers}
use Rattle.std.specs.Prelude.{Result, Ok, Err}

-- ---- one answer
lowest_one : {spellings pieces : List ℕ} (j k : ℕ) → Lowest spellings pieces j → Lowest spellings pieces k → j ≡ k
lowest_one j k p q = elim (dec_lt j k) [
  | yes l ↦ absurd (q.lowest j l p.again)
  | no l ↦ elim (dec_lt k j) [
    | yes m ↦ absurd (p.lowest k m q.again)
    | no m ↦ omega arith
  ]
]

module _ {setting : ℕ} {text words spellings pieces table : List ℕ} where
  pub not_both : {r : Refusal} → Why setting text words spellings pieces table r → InOrder setting text words spellings pieces table → ⊥
  not_both (bad_setting n) o = n o.short
  not_both (no_room s n) o = n o.bounded
  not_both (bad_word s b f) o = f.bad (o.words_good _ f.within)
  not_both (bad_piece s b w f) o = f.bad (o.pieces_good _ f.within)
  not_both (repeated s b w p l) o = o.once _ l.within l.again

  pub one_why : {r s : Refusal} → Why setting text words spellings pieces table r → Why setting text words spellings pieces table s → r ≡ s
  one_why (bad_setting n) (bad_setting m) = refl
  one_why (bad_setting n) (no_room s _) = absurd (n s)
  one_why (bad_setting n) (bad_word s _ _) = absurd (n s)
  one_why (bad_setting n) (bad_piece s _ _ _) = absurd (n s)
  one_why (bad_setting n) (repeated s _ _ _ _) = absurd (n s)
  one_why (no_room s n) (bad_setting m) = absurd (m s)
  one_why (no_room s n) (no_room t m) = refl
  one_why (no_room s n) (bad_word t b _) = absurd (n b)
  one_why (no_room s n) (bad_piece t b _ _) = absurd (n b)
  one_why (no_room s n) (repeated t b _ _ _) = absurd (n b)
  one_why (bad_word s b f) (bad_setting m) = absurd (m s)
  one_why (bad_word s b f) (no_room t m) = absurd (m b)
  one_why (bad_word {k = j} s b f) (bad_word {k = k} t c g) = ap BadWord (one_bad text words 255 j k f g)
  one_why (bad_word s b f) (bad_piece t c w _) = absurd (f.bad (w _ f.within))
  one_why (bad_word s b f) (repeated t c w _ _) = absurd (f.bad (w _ f.within))
  one_why (bad_piece s b w f) (bad_setting m) = absurd (m s)
  one_why (bad_piece s b w f) (no_room t m) = absurd (m b)
  one_why (bad_piece s b w f) (bad_word t c g) = absurd (g.bad (w _ g.within))
  one_why (bad_piece {k = j} s b w f) (bad_piece {k = k} t c v g) = ap BadPiece (one_bad spellings pieces 1048576 j k f g)
  one_why (bad_piece s b w f) (repeated t c v p _) = absurd (f.bad (p _ f.within))
  one_why (repeated s b w p l) (bad_setting m) = absurd (m s)
  one_why (repeated s b w p l) (no_room t m) = absurd (m b)
  one_why (repeated s b w p l) (bad_word t c g) = absurd (g.bad (w _ g.within))
  one_why (repeated s b w p l) (bad_piece t c v g) = absurd (g.bad (p _ g.within))
  one_why (repeated {k = j} s b w p l) (repeated {k = k} t c v q m) = ap RepeatedPiece (lowest_one j k l m)

pub one_answer : (setting : ℕ) (text words spellings pieces table : List ℕ) (r s : Result (Unit {0}) Refusal) → Answers setting text words spellings pieces table r → Answers setting text words spellings pieces table s → r ≡ s
one_answer setting text words spellings pieces table (Ok _) (Ok _) p q = refl
one_answer setting text words spellings pieces table (Ok _) (Err s) p q = absurd (not_both q p)
one_answer setting text words spellings pieces table (Err r) (Ok _) p q = absurd (not_both p q)
one_answer setting text words spellings pieces table (Err r) (Err s) p q = ap Err (one_why p q)

-- ---- BadPiece is given exactly when "a lent piece is not UTF-8 or outside its text"
pub good_piece : (text pieces : List ℕ) (k : ℕ) → length text ≤ 1048576 → Good text pieces 1048576 k ↔ (Inside text pieces k × Spells (octets text pieces k) (chars_at text pieces k))
good_piece text pieces k h = (λ g. (g.inside, g.utf8), λ (i, u). record { inside = i; short = omega arith; utf8 = u })

-- ---- where no bytes stand twice, no spelling does
first_in : {A : Type 0} (f : ℕ → A) (n : ℕ) (x : A) → Memᴰ x (first f n) → (i : ℕ) × (i < n) × (f i ≡ x)
first_in f zero x m = absurd (none_in m)
  where
    none_in : Memᴰ x [] → ⊥
    none_in h = elim h [ ]
first_in f (suc n) x m = elim (Memᴰ.append_cases (first f n) m) [
  | inl h ↦ let (i, l, e) = first_in f n x h in (i, omega arith, e)
  | inr h ↦ (n, omega arith, sym (Memᴰ.eq_of_singleton h))
]

distinct_more : {ps : List (List ℕ)} (p : List ℕ) → Distinct ps → (Memᴰ p ps → ⊥) → Distinct (ps ++ p ∷ [])
distinct_more p no_piece n = one_more n no_piece
distinct_more p (one_more {p = q} {ps = ps} m d) n =
    one_more {p = q}
    (λ h. elim (Memᴰ.append_cases ps {t = p ∷ []} h) [ inl g ↦ m g | inr g ↦ n (Memᴰ.head (sym (Memᴰ.eq_of_singleton g))) ])
    (distinct_more p d (λ h. n (Memᴰ.tail h)))

distinct_first : (f : ℕ → List ℕ) (n : ℕ) → ((i j : ℕ) → i < j → j < n → f i ≡ f j → ⊥) → Distinct (first f n)
distinct_first f zero h = no_piece
distinct_first f (suc n) h =
    distinct_more (f n) (distinct_first f n (λ i j l m. h i j l (omega arith)))
    (λ m. let (i, l, e) = first_in f n (f n) m in h i n l (omega arith) e)

pub listed_distinct : (text pieces : List ℕ) → GoodPieces text pieces → Once text pieces → Distinct (listed text pieces)
listed_distinct text pieces good once =
    distinct_first (chars_at text pieces) (many pieces)
    (λ i j l m e. once j m (i, l, (good i (omega arith)).utf8.spelt ∙ ap spelling e ∙ sym (good j m).utf8.spelt))
