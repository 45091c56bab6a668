-- A list of rows gives one refusal or none, not two and not both. What is checked in two steps gives what the two lists give, one
-- behind the other. Assumes nothing.
use mathlib.Core.Path.{◌≡◌, refl, sym, ap, ◌∙◌}
use mathlib.Core.Logic.{◌↔◌, ◌⊎◌, inl, inr}
use mathlib.Core.List.{List, [], ◌∷◌, ◌++◌}
use Prim.Native.Nat.{ℕ, ◌<◌}
use native.Mathlib.Decide.{dec_lt}
use native.Mathlib.Omega.{arith}
use Rattle.refusal.specs.declared.Refusal.{Refusal}
use Rattle.refusal.specs.Rows.{Row, needs, bars, single, refusal_at, Right, Wrong, Clear, Lowest, Gives, NoneOf, First}

-- ---- one row
pub apart : (row : Row) (k : ℕ) → Wrong row k → Right row k → ⊥
apart (needs f n P) k w r = w r
apart (bars f n P) k w r = r w

pub one_place : (row : Row) (j k : ℕ) → Lowest row j → Lowest row k → j ≡ k
one_place row j k p q = elim (dec_lt j k) [
  | yes l ↦ absurd (apart row j p.wrong (q.before j l))
  | no l ↦ elim (dec_lt k j) [
    | yes m ↦ absurd (apart row k q.wrong (p.before k m))
    | no m ↦ omega arith
  ]
]

pub one_refusal : (row : Row) {r s : Refusal} → Gives row r → Gives row s → r ≡ s
one_refusal row g h = g.is ∙ ap (refusal_at row) (one_place row g.place h.place g.lowest h.lowest) ∙ sym h.is

pub not_clear : (row : Row) {r : Refusal} → Gives row r → Clear row → ⊥
not_clear row g c = apart row g.place g.lowest.wrong (c g.place g.lowest.within)

-- ---- a list of rows
pub no_second : (rows : List Row) (r s : Refusal) → First rows r → First rows s → r ≡ s
no_second [] r s p q = absurd p
no_second (row ∷ rows) r s (inl g) (inl h) = one_refusal row g h
no_second (row ∷ rows) r s (inl g) (inr (c, q)) = absurd (not_clear row g c)
no_second (row ∷ rows) r s (inr (c, p)) (inl h) = absurd (not_clear row h c)
no_second (row ∷ rows) r s (inr (c, p)) (inr (d, q)) = no_second rows r s p q

pub not_both : (rows : List Row) (r : Refusal) → First rows r → NoneOf rows → ⊥
not_both [] r p n = p
not_both (row ∷ rows) r (inl g) (c, n) = not_clear row g c
not_both (row ∷ rows) r (inr (c, p)) (d, n) = not_both rows r p n

-- ---- two lists, one behind the other
pub none_append : (xs ys : List Row) → NoneOf (xs ++ ys) ↔ (NoneOf xs × NoneOf ys)
none_append [] ys = (λ n. (tt, n), λ (_, n). n)
none_append (row ∷ xs) ys =
    let (to, from) = none_append xs ys in
    (λ (c, n). let (a, b) = to n in ((c, a), b), λ ((c, a), b). (c, from (a, b)))

first_of : (xs ys : List Row) (r : Refusal) → First (xs ++ ys) r → First xs r ⊎ (NoneOf xs × First ys r)
first_of [] ys r p = inr (tt, p)
first_of (row ∷ xs) ys r (inl g) = inl (inl g)
first_of (row ∷ xs) ys r (inr (c, p)) = elim (first_of xs ys r p) [ inl q ↦ inl (inr (c, q)) | inr (n, q) ↦ inr ((c, n), q) ]

pub in_first : (xs ys : List Row) (r : Refusal) → First xs r → First (xs ++ ys) r
in_first [] ys r p = absurd p
in_first (row ∷ xs) ys r (inl g) = inl g
in_first (row ∷ xs) ys r (inr (c, p)) = inr (c, in_first xs ys r p)

pub in_second : (xs ys : List Row) (r : Refusal) → NoneOf xs → First ys r → First (xs ++ ys) r
in_second [] ys r n p = p
in_second (row ∷ xs) ys r (c, n) p = inr (c, in_second xs ys r n p)

pub first_append : (xs ys : List Row) (r : Refusal) → First (xs ++ ys) r ↔ (First xs r ⊎ (NoneOf xs × First ys r))
first_append xs ys r = (first_of xs ys r, λ h. elim h [ inl p ↦ in_first xs ys r p | inr (n, p) ↦ in_second xs ys r n p ])

-- ---- a row that asks one thing
pub given : {refusal : Refusal} {Needed : Type 0} → (Needed → ⊥) → Gives (single refusal Needed) refusal
given n = record { place = 0; lowest = record { within = omega arith; before = λ j l. absurd (omega (arith, l)); wrong = n }; is = refl }

-- the only place that it looks at
pub nought : 0 < 1
nought = omega arith
