-- `corpus::heavy` meets its contract: the sum so far, up to one above 2^48.
-- Assumes nothing.
use Rattle.corpus.specs.Corpus.{weight_at, total}
use Prim.Native.Nat.{min}
use mathlib.Core.Path.{◌≡◌}
use Rattle.corpus.proofs.heavy.Given as goal

abbrev pub invariant-loop-k : goal.invariant-loop-k
invariant-loop-k l = l.weight ≡ min (total (weight_at l.text l.words l.frequencies) l.k) 281474976710657
