use Rattle.std.proofs.Common.{◌≡◌, ◌+◌}
use native.Mathlib.Omega.{arith}
use Rattle.retain.proofs.Offsets.{at_most, end_of, going_more, going_all}
use Rattle.retain.proofs.keep_word.Goals as goal

pub keep_end-write-requires : goal.keep_end-write-requires
keep_end-write-requires c = end_of c.requires (omega arith) c.loop-position.invariant

pub loop-position-preserved : goal.loop-position-preserved
loop-position-preserved c = going_more c.requires (omega arith) c.loop-position.invariant c.keep_end-write.ensures.moved c.keep_end-write.ensures.offsets_after

pub overflow_cast-offsets : goal.overflow_cast-offsets
overflow_cast-offsets c = let h = at_most c.loop-position.invariant in grind arith

pub returns-clause-offsets_after : goal.returns-clause-offsets_after
returns-clause-offsets_after c =
    let e : c.loop-position.position ≡ c.args.n + 1 = omega arith in
    going_all c.requires (rw e at c.loop-position.invariant)
