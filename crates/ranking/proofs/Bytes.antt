-- The order of spellings by code points is the order of their bytes. Assumes nothing.
use mathlib.Core.Path.{◌≡◌, refl, sym, ◌∙◌, subst}
use mathlib.Core.Bool.{true}
use mathlib.Core.List.{List, [], ◌∷◌}
use mathlib.Core.Logic.{◌↔◌}
use Prim.Native.Nat.{ℕ}
use Rattle.order.specs.Spelling.{le}
use Rattle.order.proofs.Spelling.{no, Case, cases, less, same, more, le_less, le_more, le_same}
use Rattle.utf8.specs.Encode.{spelling}
use Rattle.utf8.specs.Order.{Before, shorter, here, later}
use Rattle.utf8.proofs.Ordered.{not_itself}
use Rattle.utf8.proofs.Theorems.{order_of_lists}

abbrev Ahead : List ℕ → List ℕ → Type 0
Ahead s t = (le s t ≡ true) × (s ≡ t → ⊥)

to_before : (s t : List ℕ) → Ahead s t → Before s t
to_before [] [] a = absurd (a.1 refl)
to_before [] (y ∷ t) a = shorter
to_before (x ∷ s) [] a = no (sym a.0)
to_before (x ∷ s) (y ∷ t) a = heads x y s t a (cases x y) (to_before s t)
  where
    heads : (x y : ℕ) (s t : List ℕ) → Ahead (x ∷ s) (y ∷ t) → Case x y → (Ahead s t → Before s t) → Before (x ∷ s) (y ∷ t)
    heads x y s t a (less h) ih = here h
    heads x y s t a (more h) ih = no (sym a.0 ∙ le_more x y s t h)
    heads x y s t a (same h) ih =
        let u : le (x ∷ s) (x ∷ t) ≡ true = rw h (rw h at a.0) in
        subst (λ (z : ℕ). Before (x ∷ s) (z ∷ t)) h (later (ih (sym (le_same x s t) ∙ u, λ e. a.1 (let d = h in cc))))

before_le : {s t : List ℕ} → Before s t → le s t ≡ true
before_le shorter = refl
before_le (here {x} {y} {xs} {ys} h) = le_less x y xs ys h
before_le (later {x} {xs} {ys} b) = le_same x xs ys ∙ before_le b

-- one spelling goes before another, and is not the same, where its bytes go before the other's
pub bytes_order : (s t : List ℕ) → ((le s t ≡ true) × (s ≡ t → ⊥)) ↔ Before (spelling s) (spelling t)
bytes_order s t = (
  λ a. (order_of_lists s t).0 (to_before s t a),
  λ b. let c = (order_of_lists s t).1 b in (before_le c, λ e. not_itself c e),
)
