use Rattle.spans.proofs.Judged.{judged}
use native.Mathlib.Omega.{arith}
use mathlib.Core.Path.{ap, ◌∙◌}
use Rattle.utf8.specs.Chars.{measured}
use Rattle.spans.proofs.good.Goals as goal

pub returns : goal.returns
returns c = rw c.is_ok.ensures.value (judged c.args.text.now c.args.spans.now c.args.most c.args.k (omega arith) (omega arith) c.measure.result (c.measure.ensures ∙ ap measured c.octets.ensures))
