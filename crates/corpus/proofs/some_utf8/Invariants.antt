-- `corpus::some_utf8` meets its contract: no word before k is UTF-8.
-- Assumes nothing.
use Prim.Native.Nat.{ℕ, ◌<◌}
use Rattle.corpus.specs.Corpus.{Utf8}
use Rattle.corpus.proofs.some_utf8.Given as goal

abbrev pub invariant-loop-k : goal.invariant-loop-k
invariant-loop-k l = ((j : ℕ) → j < l.k → Utf8 l.text l.words j → ⊥)
