-- `trie::fill` meets its contract: the slices hold the trie of the pieces before k.
-- Assumes nothing.
use Rattle.trie.proofs.Indexing.{Filled}
use Rattle.trie.proofs.fill.Given as goal

abbrev pub invariant-loop-k : goal.invariant-loop-k
invariant-loop-k l = Filled l.initial.keys l.text l.pieces l.keys l.ends l.k l.count
