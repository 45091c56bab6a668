-- There are no more lines than bytes, since each line takes one at least; and no more that differ than lines.
-- Assumes nothing.
use Rattle.std.proofs.Common.{◌+◌, ◌≤◌, length}
use Rattle.std.specs.Slice.Iter.{split_inclusive_rest}
use Rattle.utf8_vectors.proofs.tally_of.Given as goal

abbrev pub invariant-loop-ended : goal.invariant-loop-ended
invariant-loop-ended l =
    goal.iterator-loop-ended.can_next l.ended-iterator
    × goal.iterator-loop-ended.is_finite l.ended-iterator
    × (l.lines + length (split_inclusive_rest l.ended-iterator) ≤ length l.text)
    × (l.differ ≤ l.lines)
