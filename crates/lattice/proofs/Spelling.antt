-- Which piece spells some characters: what is found is there, and what is there is found. Assumes nothing.
use mathlib.Core.Path.{◌≡◌, refl, sym, ap, ◌∙◌, subst}
use mathlib.Core.Bool.{Bool, true, false, ◌&&◌}
use mathlib.Core.List.{List, [], ◌∷◌, Memᴰ}
use mathlib.Core.Option.{Option, none, some}
use Prim.Native.Nat.{ℕ, zero, suc, ◌<◌}
use native.Mathlib.Nat.{le_of_suc-le-suc, not-suc-le-zero}
use native.Mathlib.Omega.{arith}
use lib.Dec.{T, eqb, eqb→eq, eqb_refl}
use lib.Ieee.Bits.{is_true}
use lib.Ieee.Fits.{and_l, and_r}
use lib.ListN.{length, get_or}
use Rattle.laws.proofs.Choices.{yes}
use Rattle.lattice.specs.Pieces.{same, later, id_of, Distinct, no_piece, one_more}

-- ---- the same characters
same_chars : (a b : List ℕ) → T (same a b) → a ≡ b
same_chars [] [] t = refl
same_chars [] (d ∷ b) t = absurd t
same_chars (c ∷ a) [] t = absurd t
same_chars (c ∷ a) (d ∷ b) t =
    let e : c ≡ d = eqb→eq c d (and_l (eqb c d) (same a b) t) in
    let f : a ≡ b = same_chars a b (and_r (eqb c d) (same a b) t) in
    ap (λ (x : ℕ). x ∷ a) e ∙ ap (λ (x : List ℕ). d ∷ x) f

pub is_same : (a b : List ℕ) → same a b ≡ true → a ≡ b
is_same a b e = same_chars a b (yes e)

both : (a b : Bool) → T a → T b → T (a && b)
both true b s t = t
both false b s t = s

same_itself : (a : List ℕ) → T (same a a)
same_itself [] = tt
same_itself (c ∷ a) = both (eqb c c) (same a a) (eqb_refl c) (same_itself a)

pub same_as : (a b : List ℕ) → a ≡ b → same a b ≡ true
same_as a b e = subst (λ (x : List ℕ). same a x ≡ true) e (is_true (same a a) (same_itself a))

-- ---- what is found is there
pub record Stands (ps : List (List ℕ)) (chars : List ℕ) (k : ℕ) : Type 0 where
  pub inside : k < length ps
  pub spells : get_or ps k [] ≡ chars

stands_here : (p : List ℕ) (ps : List (List ℕ)) (chars : List ℕ) → p ≡ chars → Stands (p ∷ ps) chars 0
stands_here p ps chars e = record { inside = omega arith; spells = e }

stands_later : {ps : List (List ℕ)} {chars : List ℕ} {k : ℕ} (p : List ℕ) → Stands ps chars k → Stands (p ∷ ps) chars (suc k)
stands_later p s = record { inside = let l = s.inside in omega arith; spells = s.spells }

found_step : (p : List ℕ) (ps : List (List ℕ)) (chars : List ℕ) (k : ℕ) → ((j : ℕ) → id_of ps chars ≡ some j → Stands ps chars j) → (o : Option ℕ) (b : Bool) → id_of ps chars ≡ o → same p chars ≡ b → later o b ≡ some k → Stands (p ∷ ps) chars k
found_step p ps chars k rest (some j) b h i e = let z : suc j ≡ k = cc in subst (λ (n : ℕ). Stands (p ∷ ps) chars n) z (stands_later p (rest j h))
found_step p ps chars k rest none true h i e = let z : 0 ≡ k = cc in subst (λ (n : ℕ). Stands (p ∷ ps) chars n) z (stands_here p ps chars (is_same p chars i))
found_step p ps chars k rest none false h i e = let z : ◌≡◌ {A = ℕ} 0 1 = cc in absurd (omega arith)

pub found : (ps : List (List ℕ)) (chars : List ℕ) (k : ℕ) → id_of ps chars ≡ some k → Stands ps chars k
found [] chars k e = let z : ◌≡◌ {A = ℕ} 0 1 = cc in absurd (omega arith)
found (p ∷ ps) chars k e = found_step p ps chars k (λ j. found ps chars j) (id_of ps chars) (same p chars) refl refl e

pub stands_in : (ps : List (List ℕ)) (chars : List ℕ) (k : ℕ) → Stands ps chars k → Memᴰ chars ps
stands_in [] chars k s = absurd (not-suc-le-zero s.inside)
stands_in (p ∷ ps) chars zero s = Memᴰ.head (sym s.spells)
stands_in (p ∷ ps) chars (suc k) s = Memᴰ.tail (stands_in ps chars k (record { inside = le_of_suc-le-suc s.inside; spells = s.spells }))

-- ---- what is there once is found
pub complete : {ps : List (List ℕ)} → Distinct ps → (chars : List ℕ) (k : ℕ) → Stands ps chars k → id_of ps chars ≡ some k
complete no_piece chars k s = absurd (not-suc-le-zero s.inside)
complete (one_more {p} {ps} n d) chars (suc k) s = ap (λ (o : Option ℕ). later o (same p chars)) (complete d chars k (record { inside = le_of_suc-le-suc s.inside; spells = s.spells }))
complete (one_more {p} {ps} n d) chars zero s = go (id_of ps chars) refl
  where
    here : p ≡ chars
    here = s.spells

    go : (o : Option ℕ) → id_of ps chars ≡ o → later (id_of ps chars) (same p chars) ≡ some 0
    go none e = ap (λ (o : Option ℕ). later o (same p chars)) e ∙ ap (λ (b : Bool). later none b) (same_as p chars here)
    go (some j) e = absurd (n (subst (λ (x : List ℕ). Memᴰ x ps) (sym here) (stands_in ps chars j (found ps chars j e))))
