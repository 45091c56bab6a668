-- `repeats::hash` meets its contract: what is left of the bytes decides.
-- Assumes nothing.
use Prim.Native.Nat.{◌<◌}
use mathlib.Core.Path.{◌≡◌}
use lib.ListN.{drop}
use Rattle.repeats.specs.Chains.{mixed_all, hash_of}
use Rattle.repeats.proofs.hash.Given as goal

abbrev pub invariant-loop-byte : goal.invariant-loop-byte
invariant-loop-byte l = record { same : mixed_all l.h (drop l.byte-index l.word) ≡ hash_of l.word; small : l.h < 4294967296 }
