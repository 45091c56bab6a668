-- The word of one span: its last edge is where its offsets say. Assumes nothing.
use Prim.Native.Nat.{ℕ, ◌+◌, ◌≤◌}
use native.Mathlib.Omega.{arith}
use mathlib.Core.List.{List}
use lib.ListN.{get_or}
use Rattle.retain.specs.Moves.{kept_to, Moved, Span, edges_from, edges_to, ends_from, chars}
use Rattle.retain.proofs.Moving.{moved_count}

module _ {offsets starts ids spans remap : List ℕ} {write at : ℕ} (S : Span offsets starts ids spans remap write at) {starts' ids' : List ℕ} {next : ℕ} where
  pub span_moved : Moved starts ids remap write (kept_to remap ids (edges_from spans at) (edges_from spans at + get_or offsets (ends_from spans at + (chars spans at + 1)) 0)) starts' ids' next
      → Moved starts ids remap write (kept_to remap ids (edges_from spans at) (edges_to spans at)) starts' ids' next
  span_moved m = rw S.whole m

  -- so where its edges end after the move fits where they ended before
  pub span_fits : Moved starts ids remap write (kept_to remap ids (edges_from spans at) (edges_to spans at)) starts' ids' next → next ≤ edges_to spans at
  span_fits m =
      let h = moved_count (edges_from spans at) (edges_to spans at) m in
      let b = S.word.behind in
      let w = S.whole in
      omega arith
