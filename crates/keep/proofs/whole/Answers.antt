-- `keep::whole` meets its contract, by its two tests.
-- Assumes nothing.
use Rattle.std.proofs.Common.{◌∙◌}
use Rattle.keep.proofs.Cut.{asked, whole_is, most_whole, none_whole}
use Rattle.keep.proofs.whole.Goals as goal

pub truncating_f64_to_u64-requires-clause-lower_bound : goal.truncating_f64_to_u64-requires-clause-lower_bound
truncating_f64_to_u64-requires-clause-lower_bound c = (asked c.args.x c.if-x.true c.if-x-2.true).0

pub truncating_f64_to_u64-requires-clause-upper_bound : goal.truncating_f64_to_u64-requires-clause-upper_bound
truncating_f64_to_u64-requires-clause-upper_bound c = (asked c.args.x c.if-x.true c.if-x-2.true).1

pub returns-then-x-2 : goal.returns-then-x-2
returns-then-x-2 c = c.truncating_f64_to_u64.ensures ∙ whole_is c.args.x

pub returns-then-x : goal.returns-then-x
returns-then-x c = most_whole c.args.x c.if-x.true c.if-x-2.false

pub returns : goal.returns
returns c = none_whole c.args.x c.if-x.false
