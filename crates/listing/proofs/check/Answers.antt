-- `listing::check` meets its contract: the checks of its parts, in their order.
-- Assumes nothing.
use Rattle.std.proofs.lemmas.Result.{err_from_is_err_and}
use Rattle.listing.specs.Start.{bad_settings, no_room}
use Rattle.listing.proofs.Checking.{by_words}
use Rattle.listing.proofs.check.Goals as goal

pub returns-in_err-check : goal.returns-in_err-check
returns-in_err-check c = let p = err_from_is_err_and c.from_residual.result c.from_residual.ensures.1 in rw (p.1, p.2) (bad_settings c.in_err-check.ensures)

pub returns-then-not-bounded : goal.returns-then-not-bounded
returns-then-not-bounded c = no_room c.in_ok-check.ensures c.if-not-bounded.ensures

pub returns : goal.returns
returns c = by_words _ _ c.in_ok-check.ensures c.if-not-bounded.ensures c.check-2.result c.check-2.ensures
