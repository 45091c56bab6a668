-- `start::start` meets its contract: words and frequencies are cut to equally many.
-- Assumes nothing.
use native.Mathlib.Omega.{arith}
use Prim.Native.Nat.{◌*◌}
use lib.Seq.{length-take-le}
use Rattle.start.proofs.start.Goals as goal

pub check_and_list-requires : goal.check_and_list-requires
check_and_list-requires c =
    let x = c.args.lent.now in
    let e = c.count-many.ensures in
    omega (arith, length-take-le (2 * c.count-many.result) x.words.now (omega arith), length-take-le c.count-many.result x.frequencies.now (omega arith))

pub returns : goal.returns
returns c = rw c.count-many.ensures at c.check_and_list.ensures
