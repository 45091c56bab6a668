use lib.ListN.{replicate}
use Prim.Native.Nat.{ℕ}
use mathlib.Core.Path.{ap, ◌∙◌}
use Rattle.cache.proofs.build.Goals as goal

pub returns : goal.returns
returns c = record { answers = c.check_and_build-answer.ensures; zeros = record { keys_zero = c.fill.ensures.after (λ _ e. e) ∙ ap (λ (n : ℕ). replicate n 0) c.check_and_build-answer.auto.keys; ends_zero = c.fill-2.ensures.after (λ _ e. e) ∙ ap (λ (n : ℕ). replicate n 0) c.check_and_build-answer.auto.ends; table_zero = c.fill-3.ensures.after (λ _ e. e) ∙ ap (λ (n : ℕ). replicate n 0) c.check_and_build-answer.auto.table } }
