-- `keep::keep` meets its contract.
-- Assumes nothing.
use Rattle.std.proofs.Common.{◌∙◌}
use Rattle.keep.proofs.Cut.{kept_is}
use Rattle.keep.proofs.keep.Goals as goal

pub returns : goal.returns
returns c = c.max.ensures ∙ kept_is c.args.pieces c.args.shrink_factor c.args.target c.nearest_usize_to_f64.ensures c.whole.ensures
