-- A remap's entries, so many times each. Assumes nothing.
use Rattle.std.proofs.Common.{◌≡◌, ℕ, suc, ◌+◌, ◌-◌, ◌*◌, ◌/◌, ◌<◌, ◌≤◌, List, [], ◌∷◌, length, get_or, set, replicate, refl, sym, ap, ◌∙◌, subst, cond, eqb, true, false, Bool, inl, inr, add-one, eq-eqb, ne_eqb, arith}
use Rattle.std.proofs.Math.Nat.{div-eq-sub-div, div-eq_of_lt}
use Rattle.std.proofs.Math.ListN.{length-append, length-replicate, get_or-append, get_or-replicate}
use Rattle.std.proofs.lemmas.Bool.{cases_lt}
use lib.Seq.{get_or-append-add}
use Rattle.lattice.specs.Pruning.{gone}
use Rattle.prune.specs.Compact.{surviving, twice, spread}
use Rattle.prune.proofs.Closing.{Closing, closing_by}

pub spread_one : (remap : List ℕ) → spread 1 remap ≡ remap
spread_one [] = refl
spread_one (r ∷ rs) = ap (λ (l : List ℕ). r ∷ l) (spread_one rs)

pub spread_two : (remap : List ℕ) → spread 2 remap ≡ twice remap
spread_two [] = refl
spread_two (r ∷ rs) = ap (λ (l : List ℕ). r ∷ r ∷ l) (spread_two rs)

pub spread_long : (width : ℕ) (remap : List ℕ) → length (spread width remap) ≡ width * length remap
spread_long width [] = omega arith
spread_long width (r ∷ rs) =
    let a = length-append (replicate width r) (spread width rs) in
    let b = length-replicate width r in
    let c = spread_long width rs in
    omega arith

-- of the items of a piece, each has its entry
pub spread_at : (width : ℕ) (remap : List ℕ) (k : ℕ) → 0 < width → k < width * length remap → get_or (spread width remap) k 0 ≡ get_or remap (k / width) 0
spread_at width [] k p h = absurd (omega arith)
spread_at width (r ∷ rs) k p h = elim (cases_lt k width) [
  | inl l ↦
      let z : k / width ≡ 0 = div-eq_of_lt l in
      get_or-append (replicate width r) (spread width rs) 0 k (omega (arith, length-replicate {A = ℕ})) ∙ get_or-replicate width k r 0 l ∙ ap (λ (n : ℕ). get_or (r ∷ rs) n 0) (sym z)
  | inr g ↦
      let z : k / width ≡ suc ((k - width) / width) = div-eq-sub-div p g ∙ add-one _ in
      let e : k ≡ length (replicate width r) + (k - width) = omega (arith, length-replicate {A = ℕ}) in
      ap (λ (n : ℕ). get_or (spread width (r ∷ rs)) n 0) e ∙ get_or-append-add (replicate width r) (spread width rs) (k - width) 0 ∙ spread_at width rs (k - width) p (omega arith) ∙ ap (λ (n : ℕ). get_or (r ∷ rs) n 0) (sym z)
]

any : {A : Type 0} (l : List A) → 0 < length l → A
any [] h = absurd (omega arith)
any (x ∷ l) h = x

-- ---- one item more, of a piece that lives, and of one that is gone
module _ {A : Type 0} (width : ℕ) (remap : List ℕ) {l₀ l : List A} {write item : ℕ} (some : 0 < width) (c : Closing (spread width remap) l₀ l write item) (h : item < width * length remap) where
  inside : item < length (spread width remap)
  inside = omega (arith, spread_long width remap)

  pub spread_lives : (v : A) → v ≡ get_or l item v → (get_or remap (item / width) 0 ≡ gone → ⊥) → Closing (spread width remap) l₀ (set l write v) (write + 1) (item + 1)
  spread_lives v is lives =
      subst (λ (x : A). Closing (spread width remap) l₀ (set l write x) (write + 1) (item + 1)) (sym is)
      (closing_by c v inside false (ap (λ (r : ℕ). eqb r gone) (spread_at width remap item some h) ∙ ne_eqb (get_or remap (item / width) 0) gone lives))

  pub spread_gone : get_or remap (item / width) 0 ≡ gone → Closing (spread width remap) l₀ l write (item + 1)
  spread_gone is_gone =
      let v = any l (let e = inside in omega (arith, c.room, c.long)) in
      closing_by c v inside true (ap (λ (r : ℕ). eqb r gone) (spread_at width remap item some h) ∙ eq-eqb (get_or remap (item / width) 0) gone is_gone)

-- ---- of two items a piece, an even number survive
even : {A : Type 0} (b : Bool) (x y : A) (l : List A) → 2 * (length l / 2) ≡ length l → 2 * (length (cond b (cond b l (y ∷ l)) (x ∷ cond b l (y ∷ l))) / 2) ≡ length (cond b (cond b l (y ∷ l)) (x ∷ cond b l (y ∷ l)))
even true x y l e = e
even false x y l e = omega arith

pub pairs_survive : {A : Type 0} (remap : List ℕ) (l : List A) → 2 * length remap ≤ length l → 2 * (length (surviving (twice remap) l) / 2) ≡ length (surviving (twice remap) l)
pairs_survive [] l h = refl
pairs_survive (r ∷ rs) [] h = absurd (omega arith)
pairs_survive (r ∷ rs) (x ∷ []) h = absurd (omega arith)
pairs_survive (r ∷ rs) (x ∷ y ∷ l) h = even (eqb r gone) x y (surviving (twice rs) l) (pairs_survive rs l (omega arith))
