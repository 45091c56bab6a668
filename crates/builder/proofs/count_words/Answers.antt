use Rattle.builder.proofs.Words.{counted_none, few_more, counted_more, counted_all}
use native.Mathlib.Omega.{arith}
use Prim.Native.Nat.{ℕ, ◌+◌}
use mathlib.Core.Path.{ap, refl}
use Rattle.builder.proofs.count_words.Goals as goal

pub loop-k-init : goal.loop-k-init
loop-k-init c = counted_none c.args.keys.now c.args.ends.now c.args.text.now c.args.words.now c.args.setting _ _

pub overflow_add-so : goal.overflow_add-so
overflow_add-so c = omega (arith, c.loop-k.invariant.few_edges, c.loop-k.invariant.near, c.requires.1.few, c.count_word.ensures, few_more c.args.keys.now c.args.ends.now c.args.text.now c.args.words.now c.args.setting c.requires.0 c.requires.1 c.loop-k.invariant (omega (arith, c.loop-k-test.true, c.count-many.ensures)) c.walk_word-n.ensures)

pub overflow_add-so-in-loop-k-2 : goal.overflow_add-so-in-loop-k-2
overflow_add-so-in-loop-k-2 c = omega (arith, c.loop-k.invariant.few_ends, c.loop-k.invariant.near, c.requires.1.few, c.walk_word-n.ensures.short)

pub loop-k-preserved : goal.loop-k-preserved
loop-k-preserved c = counted_more c.args.keys.now c.args.ends.now c.args.text.now c.args.words.now c.args.setting c.requires.0 c.requires.1 c.loop-k.invariant (omega (arith, c.loop-k-test.true, c.count-many.ensures)) c.walk_word-n.ensures c.walk_word-n.auto.chars (ap (λ (m : ℕ). c.loop-k.so.edges + m) c.count_word.ensures) refl

pub returns : goal.returns
returns c = counted_all c.args.keys.now c.args.ends.now c.args.text.now c.args.words.now c.args.setting c.loop-k.invariant (omega (arith, c.loop-k-test.false, c.count-many.ensures))
