-- `trie::spell` meets its contract: the bytes before `at` are read, and their characters are spelt.
-- The measure is what is left of the bytes.
-- Assumes nothing.
use Prim.Native.Nat.{◌-◌}
use lib.ListN.{length}
use Rattle.trie.proofs.Spelling.{Far}
use Rattle.trie.proofs.spell.Given as goal

abbrev pub invariant-loop-at : goal.invariant-loop-at
invariant-loop-at l = Far l.initial.keys l.piece l.count l.keys l.at l.spelt.count l.spelt.node

abbrev pub decreases-loop-at : goal.decreases-loop-at
decreases-loop-at l = length l.piece - l.at
