-- The ids that are chosen: in which order they are ranked, that each is one, and how many live. Assumes nothing.
use mathlib.Core.Path.{◌≡◌, refl, sym, ap, ◌∙◌}
use mathlib.Core.Bool.{Bool, true, false, ◌||◌, true≢false}
use mathlib.Core.List.{List, [], ◌∷◌, map}
use mathlib.Core.Logic.{◌⊎◌, inl, inr, ⊎_elim}
use Prim.Native.Nat.{ℕ, zero, suc, ◌+◌, ◌-◌, ◌≤◌, ◌<◌}
use native.Mathlib.Decide.{dec_lt}
use native.Mathlib.Omega.{arith}
use lib.Dec.{leb, eqb}
use lib.ListN.{length}
use borrow.Author.Tests.{leb-true, leb-false, le-leb, eqb-true, eqb-false, eq-eqb, ne_eqb}
use Rattle.order.specs.Sort.{sort, In, Sorted}
use Rattle.order.specs.Orders.{Each}
use Rattle.order.specs.Sort.{Total}
use Rattle.order.proofs.Laws.{sort_in, in_sort, Stable, sort_stable}
use Rattle.prune.specs.Prune.{loss, costlier, ids, ranking, among}
use Rattle.prune.specs.Survive.{Ahead, living}
use Rattle.prune.proofs.Sorted.{in_left, in_right, sorted_join, sorted_as}

-- ---- runs of ids
pub in_ids : (x from n : ℕ) → from ≤ x → x < from + n → In x (ids from n)
in_ids x from zero a b = absurd (nothing x from a b)
  where
    nothing : (x from : ℕ) → from ≤ x → x < from + 0 → ⊥
    nothing x from a b = omega arith
in_ids x from (suc n) a b = elim (dec_lt from x) [
  | yes l ↦ inr (in_ids x (suc from) n (omega arith) (omega arith))
  | no l ↦ inl (omega arith)
]

pub ids_in : (x from n : ℕ) → In x (ids from n) → (from ≤ x) × (x < from + n)
ids_in x from zero i = absurd i
ids_in x from (suc n) i =
    ⊎_elim (λ e. (omega arith, omega arith)) (λ j. let r = ids_in x (suc from) n j in (omega arith, omega arith)) i

rise : (from n : ℕ) → Sorted (λ x y. x < y) (ids from n)
rise from zero = tt
rise from (suc n) = (λ y i. let r = ids_in y (suc from) n i in omega arith, rise (suc from) n)

-- ---- the order of ranks
costlier_total : (losses : List ℕ) → Total (costlier losses)
unfolding costlier
costlier_total losses = record {
  trans = λ x y z p q.
      let a = leb-true (loss losses y) (loss losses x) p in
      let b = leb-true (loss losses z) (loss losses y) q in
      le-leb (loss losses z) (loss losses x) (omega arith);
  total = λ x y p. let a = leb-false (loss losses y) (loss losses x) p in le-leb (loss losses x) (loss losses y) (omega arith);
}

-- a required id goes before those after it; others go by their losses
abbrev pub Ranked : List ℕ → ℕ → ℕ → ℕ → Type 0
Ranked losses required i j = ((i < required) × (i < j)) ⊎ Stable (costlier losses) (λ x y. x < y) i j

prefix_sorted : (losses : List ℕ) (required from n : ℕ) → from + n ≤ required → Sorted (Ranked losses required) (ids from n)
prefix_sorted losses required from zero h = tt
prefix_sorted losses required from (suc n) h = (
  λ y i. let r = ids_in y (suc from) n i in inl (omega arith, omega arith),
  prefix_sorted losses required (suc from) n (omega arith),
)

pub ranking_sorted : (losses : List ℕ) (required : ℕ) → Sorted (Ranked losses required) (ranking losses required)
ranking_sorted losses required =
    sorted_join (Ranked losses required) (ids 0 required) (sort (costlier losses) others)
    (prefix_sorted losses required 0 required (omega arith))
    (sorted_as (Stable (costlier losses) (λ x y. x < y)) (Ranked losses required) (λ x y s. inr s)
    (sort (costlier losses) others)
    (sort_stable (costlier losses) (costlier_total losses) (λ x y. x < y) others (rise required (length losses - required))))
    before
  where
    others : List ℕ
    others = ids required (length losses - required)

    before : (x y : ℕ) → In x (ids 0 required) → In y (sort (costlier losses) others) → Ranked losses required x y
    before x y i j =
        let a = ids_in x 0 required i in
        let b = ids_in y required (length losses - required) (sort_in (costlier losses) y others j) in
        inl (omega arith, omega arith)

-- each id is ranked
pub ranking_in : (losses : List ℕ) (required id : ℕ) → id < length losses → In id (ranking losses required)
ranking_in losses required id h = elim (dec_lt id required) [
  | yes l ↦ in_left id (ids 0 required) (sort (costlier losses) others) (in_ids id 0 required (omega arith) (omega arith))
  | no l ↦ in_right id (ids 0 required) (sort (costlier losses) others)
      (in_sort (costlier losses) id others (in_ids id required (length losses - required) (omega arith) (omega arith)))
]
  where
    others : List ℕ
    others = ids required (length losses - required)

-- of those not required, the one ahead costs more, or as much and has the lower id
pub ahead : (losses : List ℕ) (required i j : ℕ) → required ≤ i → Ranked losses required i j → Ahead losses i j
unfolding costlier
ahead losses required i j h r = ⊎_elim (λ p. absurd (contrary p.0)) by_loss r
  where
    contrary : i < required → ⊥
    contrary l = omega arith

    level : (a b : ℕ) → b ≤ a → i < j → (b < a) ⊎ ((b ≡ a) × (i < j))
    level a b l k = elim (dec_lt b a) [ yes g ↦ inl g | no g ↦ inr (omega arith, k) ]

    by_loss : (leb (loss losses j) (loss losses i) ≡ true) × ((leb (loss losses i) (loss losses j) ≡ false) ⊎ (i < j))
        → Ahead losses i j
    by_loss s =
        ⊎_elim (λ e. inl (leb-false (loss losses i) (loss losses j) e))
        (λ l. level (loss losses i) (loss losses j) (leb-true (loss losses j) (loss losses i) s.0) l) s.1

-- none is ranked twice
pub not_itself : (losses : List ℕ) (required i : ℕ) → Ranked losses required i i → ⊥
not_itself losses required i r = ⊎_elim (λ p. self p.1)
    (λ s. ⊎_elim (λ e. contrary (costlier losses i i) s.0 e) (λ l. self l) s.1) r
  where
    self : i < i → ⊥
    self l = omega arith

    contrary : (v : Bool) → v ≡ true → v ≡ false → ⊥
    contrary true p q = true≢false q
    contrary false p q = true≢false (sym p)

-- ---- one of some
pub among_in : (l : List ℕ) (id : ℕ) → among l id ≡ true → In id l
among_in [] id e = absurd (true≢false (sym e))
among_in (i ∷ l) id e = go (eqb i id) refl (λ q. among_in l id q) e
  where
    go : (b : Bool) → eqb i id ≡ b → (among l id ≡ true → In id l) → b || among l id ≡ true → In id (i ∷ l)
    go true p f q = inl (sym (eqb-true i id p))
    go false p f q = inr (f q)

pub in_among : (l : List ℕ) (id : ℕ) → In id l → among l id ≡ true
in_among (i ∷ l) id e =
    ⊎_elim (λ p. ap (λ (b : Bool). b || among l id) (eq-eqb i id (sym p))) (λ j. later (eqb i id) (in_among l id j)) e
  where
    later : (b : Bool) → among l id ≡ true → b || among l id ≡ true
    later true q = refl
    later false q = q
in_among [] id e = elim e [ ]

not_among : (l : List ℕ) (id : ℕ) → (In id l → ⊥) → among l id ≡ false
not_among l id f = go (among l id) refl
  where
    go : (b : Bool) → among l id ≡ b → b ≡ false
    go true e = absurd (f (among_in l id e))
    go false e = refl

-- ---- how many live
living_step : (b : Bool) (l m : List Bool) → living l ≡ suc (living m) → living (b ∷ l) ≡ suc (living (b ∷ m))
living_step true l m e = ap suc e
living_step false l m e = e

living_same : (b : Bool) (l m : List Bool) → living l ≡ living m → living (b ∷ l) ≡ living (b ∷ m)
living_same true l m e = ap suc e
living_same false l m e = e

module _ (x : ℕ) (l : List ℕ) where
  -- ids after x
  past : (from n : ℕ) → x < from → living (map (among (x ∷ l)) (ids from n)) ≡ living (map (among l) (ids from n))
  past from zero h = refl
  past from (suc n) h =
      ap (λ (b : Bool). living ((b || among l from) ∷ map (among (x ∷ l)) (ids (suc from) n))) (ne_eqb x from (apart from h))
      ∙ living_same (among l from) (map (among (x ∷ l)) (ids (suc from) n)) (map (among l) (ids (suc from) n))
      (past (suc from) n (omega arith))
    where
      apart : (from : ℕ) → x < from → x ≡ from → ⊥
      apart from h e = omega arith

  -- x is one of the ids, and was none of the list
  one_more : (from n : ℕ) → from ≤ x → x < from + n → among l x ≡ false
      → living (map (among (x ∷ l)) (ids from n)) ≡ suc (living (map (among l) (ids from n)))
  one_more from zero a b e = absurd (nothing from a b)
    where
      nothing : (from : ℕ) → from ≤ x → x < from + 0 → ⊥
      nothing from a b = omega arith
  one_more from (suc n) a b e = go (eqb x from) refl (λ h. one_more (suc from) n h (omega arith) e)
    where
      go : (t : Bool) → eqb x from ≡ t
          → (suc from ≤ x → living (map (among (x ∷ l)) (ids (suc from) n)) ≡ suc (living (map (among l) (ids (suc from) n))))
          → living (map (among (x ∷ l)) (ids from (suc n))) ≡ suc (living (map (among l) (ids from (suc n))))
      go true t r =
          let s = eqb-true x from t in
          ap (λ (b : Bool). living ((b || among l from) ∷ map (among (x ∷ l)) (ids (suc from) n))) t
          ∙ ap suc (past (suc from) n (omega arith)
          ∙ ap (λ (b : Bool). living (b ∷ map (among l) (ids (suc from) n))) (sym (ap (among l) (sym s) ∙ e)))
      go false t r =
          ap (λ (b : Bool). living ((b || among l from) ∷ map (among (x ∷ l)) (ids (suc from) n))) t
          ∙ living_step (among l from) (map (among (x ∷ l)) (ids (suc from) n)) (map (among l) (ids (suc from) n))
          (r (later (eqb-false x from t)))
        where
          later : (x ≡ from → ⊥) → suc from ≤ x
          later f = elim (dec_lt from x) [ yes g ↦ g | no g ↦ absurd (f (omega arith)) ]

none_live : (from n : ℕ) → living (map (among []) (ids from n)) ≡ 0
none_live from zero = refl
none_live from (suc n) = none_live (suc from) n

-- as many as there are in a list that holds none twice
pub as_many : (R : ℕ → ℕ → Type 0) → ((x : ℕ) → R x x → ⊥) → (n : ℕ) (l : List ℕ) → Sorted R l → Each (λ i. i < n) l
    → living (map (among l) (ids 0 n)) ≡ length l
as_many R apart n [] s e = none_live 0 n
as_many R apart n (x ∷ l) s e =
    one_more x l 0 n (omega arith) (omega (arith, e.0)) (not_among l x (λ i. apart x (s.0 x i)))
    ∙ ap suc (as_many R apart n l s.1 e.1)
