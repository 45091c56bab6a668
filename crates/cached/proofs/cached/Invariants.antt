use Prim.Native.Nat.{◌≤◌}
use Rattle.cached.specs.Cached.{CacheFormed}
use Rattle.cached.proofs.cached.Given as goal

abbrev pub invariant-loop-word : goal.invariant-loop-word
invariant-loop-word l = (l.word ≤ l.words) × CacheFormed l.starts l.ids l.ends l.spans l.pieces l.word
