use Rattle.rows.proofs.Chars.{Written}
use lib.ListN.{length}
use Prim.Native.Nat.{◌-◌}
use Rattle.rows.proofs.characters.Given as goal

abbrev pub invariant-loop-found : goal.invariant-loop-found
invariant-loop-found l = Written l.word l.initial.chars l.chars l.at l.n

abbrev pub decreases-loop-found : goal.decreases-loop-found
decreases-loop-found l = length l.word - l.at
