-- The indexes of the UTF-8 words: how many there are, that each is one, and that they rise. Assumes nothing.
use Rattle.std.specs.Prelude.{Result, Ok, Err}
use mathlib.Core.Path.{◌≡◌, refl, sym, ap, ◌∙◌, subst}
use mathlib.Core.List.{List, [], ◌∷◌, ◌++◌}
use Prim.Native.Nat.{ℕ, zero, suc, ◌+◌, ◌≤◌, ◌<◌}
use native.Mathlib.Decide.{dec_lt}
use native.Mathlib.Omega.{arith}
use lib.ListN.{length, get_or, length-append}
use lib.Seq.{get_or-append_seam}
use Rattle.utf8.specs.Chars.{measured}
use Rattle.spans.specs.Spans.{octets}
use Rattle.corpus.specs.Corpus.{Utf8}
use Rattle.corpus.specs.Kept.{pick, chosen}
use Rattle.corpus.proofs.Measures.{yes_utf8}

pub get_d_left : {A : Type 0} (xs ys : List A) (i : ℕ) (d : A) → i < length xs → get_or (xs ++ ys) i d ≡ get_or xs i d
get_d_left [] ys i d h = absurd (omega arith)
get_d_left (x ∷ xs) ys zero d h = refl
get_d_left (x ∷ xs) ys (suc i) d h = get_d_left xs ys i d (omega arith)

-- the last of one more
pub get_d_last : (ks : List ℕ) (k j : ℕ) → j ≡ length ks → get_or (ks ++ k ∷ []) j 0 ≡ k
get_d_last ks k j e = ap (λ (i : ℕ). get_or (ks ++ k ∷ []) i 0) e ∙ get_or-append_seam ks k [] 0

more_long : (ks : List ℕ) (k : ℕ) → length (ks ++ k ∷ []) ≡ length ks + 1
more_long ks k = length-append ks (k ∷ [])

-- ---- no more than there are words
pick_few : (t : Result ℕ ℕ) (k : ℕ) (ks : List ℕ) → length ks ≤ k → length (pick t k ks) ≤ suc k
pick_few (Ok c) k ks h = let e = more_long ks k in omega arith
pick_few (Err b) k ks h = omega arith

pub chosen_few : (text words : List ℕ) (n : ℕ) → length (chosen text words n) ≤ n
chosen_few text words zero = omega arith
chosen_few text words (suc n) = pick_few (measured (octets text words n)) n (chosen text words n) (chosen_few text words n)

-- ---- each is the index of a UTF-8 word
pub record Chosen (text words ks : List ℕ) (n j : ℕ) : Type 0 where
  pub below : get_or ks j 0 < n
  pub utf8 : Utf8 text words (get_or ks j 0)

module _ (text words : List ℕ) where
  pick_at : (t : Result ℕ ℕ) (k : ℕ) (ks : List ℕ) → measured (octets text words k) ≡ t → ((j : ℕ) → j < length ks → Chosen text words ks k j)
      → (j : ℕ) → j < length (pick t k ks) → Chosen text words (pick t k ks) (suc k) j
  pick_at (Ok c) k ks m h j l = elim (dec_lt j (length ks)) [
    | yes y ↦
        let g = h j y in
        let e = get_d_left ks (k ∷ []) j 0 y in
        let b = g.below in
        record { below = omega arith; utf8 = subst (Utf8 text words) (sym e) g.utf8 }
    | no y ↦
        let e = get_d_last ks k j (let a = more_long ks k in omega arith) in
        record { below = omega arith; utf8 = subst (Utf8 text words) (sym e) (yes_utf8 (octets text words k) m) }
  ]
  pick_at (Err b) k ks m h j l = let g = h j l in let b = g.below in record { below = omega arith; utf8 = g.utf8 }

  pub chosen_at : (n j : ℕ) → j < length (chosen text words n) → Chosen text words (chosen text words n) n j
  chosen_at zero j l = absurd (omega arith)
  chosen_at (suc n) j l = pick_at (measured (octets text words n)) n (chosen text words n) refl (chosen_at n) j l

  -- ---- they rise
  pick_rises : (t : Result ℕ ℕ) (k : ℕ) (ks : List ℕ) → ((j : ℕ) → j < length ks → get_or ks j 0 < k) → ((i j : ℕ) → i < j → j < length ks → get_or ks i 0 < get_or ks j 0)
      → (i j : ℕ) → i < j → j < length (pick t k ks) → get_or (pick t k ks) i 0 < get_or (pick t k ks) j 0
  pick_rises (Ok c) k ks b h i j l m = elim (dec_lt j (length ks)) [
    | yes y ↦ let e = get_d_left ks (k ∷ []) j 0 y in let f = get_d_left ks (k ∷ []) i 0 (omega arith) in let g = h i j l y in omega arith
    | no y ↦
        let a = more_long ks k in
        let e = get_d_last ks k j (omega arith) in
        let x : i < length ks = omega arith in
        let f = get_d_left ks (k ∷ []) i 0 x in
        let g = b i x in
        omega arith
  ]
  pick_rises (Err c) k ks b h i j l m = h i j l m

  pub chosen_rises : (n i j : ℕ) → i < j → j < length (chosen text words n) → get_or (chosen text words n) i 0 < get_or (chosen text words n) j 0
  chosen_rises zero i j l m = absurd (omega arith)
  chosen_rises (suc n) i j l m = pick_rises (measured (octets text words n)) n (chosen text words n) (λ p q. (chosen_at n p q).below) (chosen_rises n) i j l m
