-- `hexadecimal::read` meets its contract. The invariant says how far the loop has come.
-- Assumes nothing.
use Rattle.hexadecimal.proofs.Reading.{Reading}
use Rattle.hexadecimal.proofs.read.Given as goal

abbrev pub invariant-loop-byte : goal.invariant-loop-byte
invariant-loop-byte l = Reading l.number l.byte-index l.sum
