use Rattle.std.proofs.Common.{sym}
use native.Mathlib.Omega.{arith}
use Rattle.trie.proofs.Spelling.{far_in, far_small, far_more, far_full, far_bad, far_all}
use Rattle.trie.proofs.spell.Goals as goal

pub returns-in_err-found : goal.returns-in_err-found
returns-in_err-found c = absurd (far_bad c.requires c.loop-at.invariant c.loop-at-test.true (sym c.in_err-found.ensures))

pub grow-requires : goal.grow-requires
grow-requires c = (omega (arith, c.requires.few, c.loop-at.invariant.spelt.long), far_small c.requires c.loop-at.invariant (sym c.in_ok-found.ensures))

pub returns-in_err-spelt : goal.returns-in_err-spelt
returns-in_err-spelt c = rw c.from_residual-in_err-spelt.ensures (far_full c.requires c.loop-at.invariant (sym c.in_ok-found.ensures) c.grow.new.keys c.in_err-spelt.ensures)

pub overflow_add-at : goal.overflow_add-at
overflow_add-at c = omega (arith, far_in c.requires c.loop-at.invariant (sym c.in_ok-found.ensures))

pub loop-at-smaller : goal.loop-at-smaller
loop-at-smaller c = omega (arith, far_in c.requires c.loop-at.invariant (sym c.in_ok-found.ensures), c.loop-at-test.true)

pub loop-at-preserved : goal.loop-at-preserved
loop-at-preserved c = far_more c.requires c.loop-at.invariant (sym c.in_ok-found.ensures) c.grow.new.keys c.in_ok-spelt.spelt.node c.in_ok-spelt.spelt.count c.in_ok-spelt.ensures

pub returns : goal.returns
returns c = far_all c.requires c.loop-at.invariant c.loop-at-test.false
