use native.Mathlib.Omega.{arith}
use Rattle.laws.proofs.Tests.{said_no}
use Rattle.repeats.proofs.Walks.{walking_none, walking_link}
use Rattle.repeats.proofs.seen.Goals as goal

pub loop-e-init : goal.loop-e-init
loop-e-init c = walking_none c.requires.turning c.args.bucket c.count.result c.requires.bucket_value.0 c.requires.bucket_value.1 c.count.ensures

pub loop-e-preserved : goal.loop-e-preserved
loop-e-preserved c = walking_link c.loop-e.invariant c.requires.turning.chained (omega arith) (said_no c.equal_spans.result c.if-equal_spans.false c.equal_spans.ensures)
