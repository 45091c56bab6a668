-- `retain::keep_span` meets its contract: where the word's edges end now fits, since edges only move down.
-- Assumes nothing.
use native.Mathlib.Omega.{arith}
use Rattle.retain.proofs.Spans.{span_moved, span_fits}
use Rattle.retain.proofs.keep_span.Goals as goal

pub overflow_cast-spans-2 : goal.overflow_cast-spans-2
overflow_cast-spans-2 c = let f = span_fits c.requires (span_moved c.requires c.keep_part-next.ensures.moved) in grind arith
