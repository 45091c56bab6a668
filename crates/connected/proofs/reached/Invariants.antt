-- `connected::reached` meets its contract. Until it returns, no edge so far starts at a marked position.
-- Assumes nothing.
use mathlib.Core.Path.{◌≡◌}
use lib.ListN.{get_or}
use Rattle.laws.proofs.Ranges.{Between}
use Rattle.connected.proofs.reached.Given as goal

abbrev pub invariant-loop-k : goal.invariant-loop-k
invariant-loop-k l = Between (λ j. get_or l.reach (get_or l.starts j 0) 0 ≡ 1 → ⊥) l.low l.k
