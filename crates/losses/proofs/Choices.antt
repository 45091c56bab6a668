-- What the choices of a loss come to. Assumes nothing.
use mathlib.Core.Path.{◌≡◌, refl, sym, ap, ◌∙◌}
use mathlib.Core.Bool.{Bool, true, false, cond}
use lib.Ieee.{Float, inf, binary64, of_bits, lt, eq}
use lib.Ieee.Scale.{finite}
use Rattle.math.specs.Steps.{◌⊖◌, ◌⊗◌, zero as nought}
use Rattle.losses.specs.Losses.{larger, penalty, loss}

-- plus infinity as the code has it
pub infinite : of_bits binary64 9218868437227405312 ≡ inf false
unfolding of_bits
infinite = refl

-- ---- the penalty
module _ (score other : Float) where
  penalty_by : (b : Bool) → finite other ≡ b → penalty score other ≡ cond b (larger (score ⊖ other)) (inf false)
  unfolding penalty
  penalty_by b e = ap (λ (c : Bool). cond c (larger (score ⊖ other)) (inf false)) e

  pub penalty_none : (b : Bool) → b ≡ finite other → b ≡ false → {r : Float} → r ≡ inf false → r ≡ penalty score other
  penalty_none b e f h = h ∙ sym (penalty_by false (sym e ∙ f))

  pub penalty_more : (b : Bool) → b ≡ finite other → b ≡ true → lt nought (score ⊖ other) ≡ true → score ⊖ other ≡ penalty score other
  penalty_more b e f t = sym (ap (λ (c : Bool). cond c (score ⊖ other) nought) t) ∙ sym (penalty_by true (sym e ∙ f))

  pub penalty_nought : (b : Bool) → b ≡ finite other → b ≡ true → lt nought (score ⊖ other) ≡ false → nought ≡ penalty score other
  penalty_nought b e f t = sym (ap (λ (c : Bool). cond c (score ⊖ other) nought) t) ∙ sym (penalty_by true (sym e ∙ f))

-- ---- the loss
module _ (used score other : Float) where
  loss_by : (b : Bool) → eq used nought ≡ b → loss used score other ≡ cond b nought (used ⊗ penalty score other)
  unfolding loss
  loss_by b e = ap (λ (c : Bool). cond c nought (used ⊗ penalty score other)) e

  pub loss_unused : eq used nought ≡ true → nought ≡ loss used score other
  loss_unused e = sym (loss_by true e)

  pub loss_used : eq used nought ≡ false → (other' penalty' : Float) → other' ≡ other → penalty' ≡ penalty score other' → used ⊗ penalty' ≡ loss used score other
  loss_used e other' penalty' o p = ap (λ (x : Float). used ⊗ x) (p ∙ ap (penalty score) o) ∙ sym (loss_by false e)
