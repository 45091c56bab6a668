-- `tokens::put_all` meets its contract. The invariant is `Placed`.
-- Assumes nothing.
use Rattle.tokens.proofs.Turns.{Placed}
use Rattle.tokens.proofs.put_all.Given as goal

abbrev pub invariant-loop-k : goal.invariant-loop-k
invariant-loop-k l = Placed l.text l.list l.initial.bytes l.initial.tokens l.slot l.at l.bytes l.tokens l.next l.k
