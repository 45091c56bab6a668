-- `utf8::follow` meets its contract: one law of `Position` for each way out and for a turn.
-- Assumes nothing.
use Rattle.utf8.proofs.Position.{Following}
use Rattle.utf8.proofs.follow.Given as goal

abbrev pub invariant-loop-next : goal.invariant-loop-next
invariant-loop-next l = Following l.text l.at l.lead l.low l.high l.tails l.code l.next
