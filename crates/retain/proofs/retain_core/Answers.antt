use native.Mathlib.Omega.{arith}
use Rattle.retain.proofs.Caches.{room, ready_at, written_more, written_all}
use Rattle.retain.proofs.retain_core.Goals as goal

pub overflow_mul-word : goal.overflow_mul-word
overflow_mul-word c = let r = room c.requires.1 in omega arith

pub keep_span-write-requires : goal.keep_span-write-requires
keep_span-write-requires c = ready_at c.requires.1 c.loop-word.word (omega arith) (c.loop-word.invariant c.requires.0 c.requires.1)

pub loop-word-preserved : goal.loop-word-preserved
loop-word-preserved c = λ lattices laid. written_more laid c.loop-word.word (omega arith) (c.loop-word.invariant lattices laid) c.keep_span-write.ensures

pub returns : goal.returns
returns c = λ lattices laid. written_all laid c.loop-word.word (omega arith) (c.loop-word.invariant lattices laid)
