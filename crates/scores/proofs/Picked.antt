-- The pick among the edges of one position is the best of them, and the first of those that are as good. Assumes nothing.
use mathlib.Core.Path.{◌≡◌, refl, sym, ◌∙◌, subst}
use mathlib.Core.Bool.{Bool, true, false, true≢false}
use mathlib.Core.Logic.{◌⊎◌, inl, inr}
use mathlib.Core.List.{List}
use Prim.Native.Nat.{ℕ, zero, suc, ◌+◌, ◌≤◌, ◌<◌}
use native.Mathlib.Nat.{eq-or-lt_of_le, lt_irrefl}
use native.Mathlib.Omega.{arith}
use Rattle.scores.specs.Domain.{Domain, Laws}
use Rattle.scores.specs.Cuts.{Edges}
use Rattle.scores.specs.Table.{Pick, offered, taken, step, best_of}

-- a test does not answer both ways
pub clash {ℓ} : {A : Type ℓ} (b : Bool) → b ≡ true → b ≡ false → A
clash b p q = absurd (true≢false (sym p ∙ q))

pub not_no : (b : Bool) → (b ≡ false → ⊥) → b ≡ true
not_no true f = refl
not_no false f = absurd (f refl)

-- x ≤ y < z
pub le_less : {S : Type 0} (D : Domain S) {Score : S → Type 0} (L : Laws D Score) {x y z : S} → Score x → Score y → Score z → D.less y x ≡ false → D.less y z ≡ true → D.less x z ≡ true
le_less D L {x} {y} {z} p q r a b = not_no (D.less x z) (λ (n : D.less x z ≡ false). clash (D.less y z) b (L.transitive r p q n a))

-- of the m edges from k on
pub record Picked {S : Type 0} (D : Domain S) (Score : S → Type 0) (e : Edges S) (t : List S) (k m : ℕ) (pick : Pick S) : Type 0 where
  pub top_in : Score pick.top
  pub greatest : (j : ℕ) → k ≤ j → j < k + m → D.less pick.top (offered D e t j) ≡ false
  pub source : D.less D.bottom pick.top ≡ true → (k ≤ pick.via) × (pick.via < k + m) × (pick.top ≡ offered D e t pick.via)
  pub first : D.less D.bottom pick.top ≡ true → (j : ℕ) → k ≤ j → j < pick.via → D.less (offered D e t j) pick.top ≡ true

last_or_before : (j m : ℕ) → j < suc m → (j < m) ⊎ (j ≡ m)
last_or_before j m h = elim (eq-or-lt_of_le h) [ inl q ↦ inr (omega arith) | inr l ↦ inl (omega arith) ]

module _ {S : Type 0} (D : Domain S) {Score : S → Type 0} (L : Laws D Score) (e : Edges S) (t : List S) (k : ℕ) where
  picked_none : Picked D Score e t k 0 (record { top = D.bottom; via = 0 })
  picked_none =
      record {
        top_in = L.bottom_in;
        greatest = λ j a b. absurd (lt_irrefl j (omega arith));
        source = λ h. clash (D.less D.bottom D.bottom) h (L.irreflexive L.bottom_in);
        first = λ h j a b. absurd (lt_irrefl 0 (omega arith));
      }

  picked_more : (m : ℕ) (pick : Pick S) (in_all : (j : ℕ) → k ≤ j → j < k + suc m → Score (offered D e t j)) → Picked D Score e t k m pick → Picked D Score e t k (suc m) (step D e t pick (k + m))
  picked_more m pick in_all c = go (D.less pick.top (offered D e t (k + m))) refl
    where
      here : Score (offered D e t (k + m))
      here = in_all (k + m) (omega arith) (omega arith)

      go : (b : Bool) → D.less pick.top (offered D e t (k + m)) ≡ b → Picked D Score e t k (suc m) (taken D e b pick (offered D e t (k + m)) (k + m))
      go true w =
          record {
            top_in = here;
            greatest = λ j x y. elim (last_or_before j (k + m) (omega arith)) [
              | inl l ↦ L.transitive (in_all j x y) c.top_in here (c.greatest j x l) (L.asymmetric c.top_in here w)
              | inr q ↦ subst (λ (z : ℕ). D.less (offered D e t (k + m)) (offered D e t z) ≡ false) (sym q) (L.irreflexive here)
            ];
            source = λ h. (omega arith, omega arith, refl);
            first = λ h j x y. le_less D L (in_all j x (omega arith)) c.top_in here (c.greatest j x y) w;
          }
      go false w =
          record {
            top_in = c.top_in;
            greatest = λ j x y. elim (last_or_before j (k + m) (omega arith)) [
              | inl l ↦ c.greatest j x l
              | inr q ↦ subst (λ (z : ℕ). D.less pick.top (offered D e t z) ≡ false) (sym q) w
            ];
            source = λ h. let s = c.source h in (s.0, omega arith, s.2);
            first = c.first;
          }

  pub picked : (m : ℕ) → ((j : ℕ) → k ≤ j → j < k + m → Score (offered D e t j)) → Picked D Score e t k m (best_of D e t k m)
  picked zero in_all = picked_none
  picked (suc m) in_all = picked_more m (best_of D e t k m) in_all (picked m (λ j a b. in_all j a (omega arith)))
