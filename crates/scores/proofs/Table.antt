-- Laws of the table: one more edge, one more position, and what stands at a position. Assumes nothing.
use mathlib.Core.Path.{◌≡◌, refl, sym, ap, ◌∙◌, subst}
use mathlib.Core.Logic.{inl, inr}
use mathlib.Core.List.{List, [], ◌∷◌, ◌++◌}
use Prim.Native.Nat.{ℕ, zero, suc, ◌+◌, ◌-◌, ◌≤◌}
use native.Mathlib.Nat.{eq-or-lt_of_le, lt_irrefl}
use native.Mathlib.Numerals.{add-one}
use native.Mathlib.Omega.{arith}
use lib.ListN.{length, get_or, length-append, get_or-append}
use lib.Seq.{get_or_at}
use Rattle.scores.specs.Domain.{Domain}
use Rattle.scores.specs.Cuts.{Edges, Lattice}
use Rattle.scores.specs.Table.{step, best_of, upto, ending, table, best, edge, edges_to}

module _ {S : Type 0} (D : Domain S) (e : Edges S) where
  pub upto_none : (t : List S) (k : ℕ) → upto D e t k k ≡ record { top = D.bottom; via = 0 }
  upto_none t k = let z : k - k ≡ 0 = omega arith in ap (best_of D e t k) z

  pub upto_more : (t : List S) (k j : ℕ) → k ≤ j → upto D e t k (j + 1) ≡ step D e t (upto D e t k j) j
  upto_more t k j h =
      let one : j + 1 - k ≡ suc (j - k) = omega arith in
      let here : k + (j - k) ≡ j = omega arith in
      ap (best_of D e t k) one ∙ ap (step D e t (upto D e t k j)) here

module _ {S : Type 0} (D : Domain S) (l : Lattice S) where
  length_table : (p : ℕ) → length (table D l p) ≡ suc p
  length_table zero = refl
  length_table (suc p) = length-append (table D l p) _ ∙ ap (λ (n : ℕ). n + 1) (length_table p) ∙ add-one (suc p)

  length_edges : (p : ℕ) → length (edges_to D l p) ≡ suc p
  length_edges zero = refl
  length_edges (suc p) = length-append (edges_to D l p) _ ∙ ap (λ (n : ℕ). n + 1) (length_edges p) ∙ add-one (suc p)

  pub long_table : (p : ℕ) → length (table D l p) ≡ p + 1
  long_table p = length_table p ∙ sym (add-one p)

  pub long_edges : (p : ℕ) → length (edges_to D l p) ≡ p + 1
  long_edges p = length_edges p ∙ sym (add-one p)

  pub table_more : (p : ℕ) → table D l (p + 1) ≡ table D l p ++ ((ending D l (table D l p) (p + 1)).top ∷ [])
  table_more p = rw add-one

  pub edges_more : (p : ℕ) → edges_to D l (p + 1) ≡ edges_to D l p ++ ((ending D l (table D l p) (p + 1)).via ∷ [])
  edges_more p = rw add-one

  pub best_suc : (p : ℕ) → best D l (suc p) ≡ (ending D l (table D l p) (suc p)).top
  best_suc p = get_or_at (table D l p) _ [] D.past (suc p) (length_table p)

  pub table_at : (p q : ℕ) → q ≤ p → get_or (table D l p) q D.past ≡ best D l q
  table_at zero zero h = refl
  table_at zero (suc q) h = absurd (lt_irrefl 0 (omega arith))
  table_at (suc p) q h = elim (eq-or-lt_of_le h) [
    | inl e ↦ subst (λ (x : ℕ). get_or (table D l (suc p)) x D.past ≡ best D l x) (sym e) refl
    | inr m ↦ get_or-append (table D l p) _ D.past q (rw length_table m) ∙ table_at p q (omega arith)
  ]

  pub edges_at : (p q : ℕ) → q ≤ p → get_or (edges_to D l p) q 0 ≡ edge D l q
  edges_at zero zero h = refl
  edges_at zero (suc q) h = absurd (lt_irrefl 0 (omega arith))
  edges_at (suc p) q h = elim (eq-or-lt_of_le h) [
    | inl e ↦ subst (λ (x : ℕ). get_or (edges_to D l (suc p)) x 0 ≡ edge D l x) (sym e) (get_or_at (edges_to D l p) (edge D l (suc p)) [] 0 (suc p) (length_edges p))
    | inr m ↦ get_or-append (edges_to D l p) _ 0 q (rw length_edges m) ∙ edges_at p q (omega arith)
  ]
