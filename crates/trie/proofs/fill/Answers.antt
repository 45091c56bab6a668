use native.Mathlib.Omega.{arith}
use Rattle.trie.proofs.Indexing.{filled_full}
use Rattle.trie.proofs.fill.Goals as goal

pub returns-in_err-count : goal.returns-in_err-count
returns-in_err-count c = rw c.from_residual.ensures (filled_full c.loop-k.invariant (omega (arith, c.loop-k-test.true, c.count-many.ensures)) c.put.new.keys c.put.new.ends c.in_err-count.ensures)
