-- `start::check_and_list` meets its contract: the room that was counted is the room there is.
-- Assumes nothing.
use Rattle.std.proofs.lemmas.Result.{err_from_is_err_and}
use Rattle.listing.specs.Start.{bad}
use Rattle.listing.proofs.Checking.{listed}
use Rattle.start.proofs.check_and_list.Goals as goal

pub returns-in_err-check : goal.returns-in_err-check
returns-in_err-check c =
    let p = err_from_is_err_and c.from_residual.result c.from_residual.ensures.1 in
    rw (p.1, p.2) (bad (rw c.positions-room.ensures at c.in_err-check.ensures))

pub list-requires : goal.list-requires
list-requires c =
    let f = rw c.positions-room.ensures at c.in_ok-check.ensures in
    record { short = f.settings_fit.length_within; paired = c.requires; table = c.args.table.now; bounded = f.room; words_fit = f.words_fit }

pub returns : goal.returns
returns c = listed _ _ _ (rw c.positions-room.ensures at c.in_ok-check.ensures) c.list.result (rw c.count-specials.ensures at c.list.ensures)
