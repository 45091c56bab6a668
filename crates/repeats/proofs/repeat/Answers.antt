use borrow.Author.Count.{below_more}
use native.Mathlib.Omega.{arith}
use Rattle.laws.proofs.Tests.{said_no}
use Rattle.repeats.specs.Repeats.{Again}
use Rattle.repeats.proofs.repeat.Goals as goal

pub loop-k-preserved : goal.loop-k-preserved
loop-k-preserved c = record {
  chained = c.turn.ensures.chained c.if-turn.false;
  none = below_more (λ j. Again c.args.text.now c.args.spans.now j → ⊥) c.loop-k.k c.loop-k.invariant.none (said_no c.turn.result c.if-turn.false c.turn.ensures.says);
}

pub returns : goal.returns
returns c = λ j h. c.loop-k.invariant.none j (omega (arith, c.loop-k-test.false, c.count-many.ensures))
