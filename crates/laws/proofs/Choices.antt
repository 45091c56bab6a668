-- Tests and choices by them. Assumes nothing.
use mathlib.Core.Path.{◌≡◌, refl, sym, subst}
use mathlib.Core.Bool.{Bool, true, false, cond}
use lib.Dec.{T}

pub yes : {b : Bool} → b ≡ true → T b
yes e = subst T (sym e) tt

pub no : {b : Bool} → b ≡ false → T b → ⊥
no e t = subst T e t

pub never : (b : Bool) → (T b → ⊥) → b ≡ false
never true h = absurd (h tt)
never false h = refl

-- what holds of both choices, each where its test says so, holds of the choice
pub cond_cases {ℓ κ} : {A : Type ℓ} (P : A → Type κ) (b : Bool) (x y : A) → (b ≡ true → P x) → (b ≡ false → P y) → P (cond b x y)
cond_cases P true x y f g = f refl
cond_cases P false x y f g = g refl
