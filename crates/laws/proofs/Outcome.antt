-- A contract that is an equation fits no second outcome. Assumes nothing.
use mathlib.Core.Path.{◌≡◌, ◌∙◌, sym}

-- r and s are two results, or what a lent slice holds at exit after two calls; d is the definition's value at the inputs
pub one_outcome {ℓ} : {A : Type ℓ} {d r s : A} → r ≡ d → s ≡ d → r ≡ s
one_outcome p q = p ∙ sym q
