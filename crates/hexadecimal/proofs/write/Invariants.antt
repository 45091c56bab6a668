-- `hexadecimal::write` meets its contract. The invariant says how far the loop has come.
-- Assumes nothing.
use Rattle.hexadecimal.proofs.Writing.{Writing}
use Rattle.hexadecimal.proofs.write.Given as goal

abbrev pub invariant-loop-k : goal.invariant-loop-k
invariant-loop-k l = Writing l.initial.out l.out l.at l.digits l.x l.left l.k
