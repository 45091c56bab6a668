-- `corpus::utf8_words` meets its contract.
-- Assumes nothing.
use native.Mathlib.Omega.{arith}
use Rattle.corpus.proofs.Keeps.{choosing_none, choosing_turn, choosing_more, choosing_all}
use Rattle.corpus.proofs.utf8_words.Goals as goal

pub loop-k-init : goal.loop-k-init
loop-k-init c = choosing_none _ _ _ _ _

pub turn-r-requires : goal.turn-r-requires
turn-r-requires c = choosing_turn c.requires c.loop-k.invariant (omega arith)

pub loop-k-preserved : goal.loop-k-preserved
loop-k-preserved c = choosing_more c.requires c.loop-k.invariant (omega arith) c.turn-r.ensures

pub returns : goal.returns
returns c = choosing_all c.requires c.loop-k.invariant (omega arith)
