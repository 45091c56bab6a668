use Rattle.one_word.specs.Steps.{no_slots}
use Rattle.one_word.proofs.Cutting.{cuts}
use mathlib.Core.Path.{refl}
use native.Mathlib.Omega.{arith}
use native.Mathlib.Nat.{lt_irrefl}
use Rattle.one_word.proofs.best_of.Goals as goal

pub returns-then-path-n : goal.returns-then-path-n
returns-then-path-n c = (no_slots (λ h. lt_irrefl c.args.front.now.n (omega arith)), refl)

pub returns : goal.returns
returns c = cuts c.args.path.now c.requires (omega arith) _ _ c.cut_core.new.path (omega arith) (omega arith) c.cut_core.result c.cut_core.ensures
