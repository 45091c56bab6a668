-- Lists in order, taken apart and put together. Assumes nothing.
use mathlib.Core.Path.{refl, sym, subst}
use mathlib.Core.List.{List, [], ◌∷◌, ◌++◌}
use mathlib.Core.Logic.{◌⊎◌, inl, inr, ⊎_elim}
use Prim.Native.Nat.{ℕ, zero, suc}
use lib.ListN.{take, drop, take-append-drop}
use Rattle.order.specs.Sort.{In, Sorted}

-- ---- what is in a list of two parts
pub in_left : (x : ℕ) (a b : List ℕ) → In x a → In x (a ++ b)
in_left x (y ∷ a) b i = ⊎_elim (λ e. inl e) (λ j. inr (in_left x a b j)) i
in_left x [] b i = elim i [ ]

pub in_right : (x : ℕ) (a b : List ℕ) → In x b → In x (a ++ b)
in_right x [] b i = i
in_right x (y ∷ a) b i = inr (in_right x a b i)

pub in_either : (x : ℕ) (a b : List ℕ) → In x (a ++ b) → In x a ⊎ In x b
in_either x [] b i = inr i
in_either x (y ∷ a) b i = ⊎_elim (λ e. inl (inl e)) (λ j. ⊎_elim (λ k. inl (inr k)) (λ k. inr k) (in_either x a b j)) i

pub in_take : (x n : ℕ) (l : List ℕ) → In x (take n l) → In x l
in_take x n l i = subst (In x) (take-append-drop n l) (in_left x (take n l) (drop n l) i)

-- what is in a list is in its front or behind it
pub in_parts : (x n : ℕ) (l : List ℕ) → In x l → In x (take n l) ⊎ In x (drop n l)
in_parts x n l i = in_either x (take n l) (drop n l) (subst (In x) (sym (take-append-drop n l)) i)

-- ---- orders
module _ (R : ℕ → ℕ → Type 0) where
  pub sorted_join : (a b : List ℕ) → Sorted R a → Sorted R b → ((x y : ℕ) → In x a → In y b → R x y) → Sorted R (a ++ b)
  sorted_join [] b s t f = t
  sorted_join (x ∷ a) b s t f = (
    λ y i. ⊎_elim (λ j. s.0 y j) (λ j. f x y (inl refl) j) (in_either y a b i),
    sorted_join a b s.1 t (λ z y i j. f z y (inr i) j),
  )

  pub sorted_take : (n : ℕ) (l : List ℕ) → Sorted R l → Sorted R (take n l)
  sorted_take zero l s = tt
  sorted_take (suc n) [] s = tt
  sorted_take (suc n) (x ∷ l) s = (λ y i. s.0 y (in_take y n l i), sorted_take n l s.1)

  across : (x y : ℕ) (a b : List ℕ) → Sorted R (a ++ b) → In x a → In y b → R x y
  across x y (z ∷ a) b s i j = ⊎_elim (λ e. subst (λ (w : ℕ). R w y) (sym e) (s.0 y (in_right y a b j)))
      (λ k. across x y a b s.1 k j) i
  across x y [] b s i j = elim i [ ]

  -- one in the front, and one behind it
  pub sorted_across : (n x y : ℕ) (l : List ℕ) → Sorted R l → In x (take n l) → In y (drop n l) → R x y
  sorted_across n x y l s i j = across x y (take n l) (drop n l) (subst (Sorted R) (sym (take-append-drop n l)) s) i j

pub sorted_as : (R S : ℕ → ℕ → Type 0) → ((x y : ℕ) → R x y → S x y) → (l : List ℕ) → Sorted R l → Sorted S l
sorted_as R S f [] s = tt
sorted_as R S f (x ∷ l) s = (λ y i. f x y (s.0 y i), sorted_as R S f l s.1)
