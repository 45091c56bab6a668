-- `frames::all_digits` meets its contract.
-- Assumes nothing.
use Rattle.std.proofs.Common.{◌≡◌, true, false, rules}
use Rattle.std.proofs.lemmas.Iterator.{cases_from_all, YieldsList-from_slice}
use Rattle.frames.specs.Bytes.{is_digit}
use Rattle.frames.proofs.Decoding.{digits_decided}
use Rattle.frames.proofs.line.all_digits.Goals as goal

pub returns : goal.returns
returns c = digits_decided c.args.line.now _ (cases_from_all _ _ _ (λ b. is_digit b ≡ true) (λ b. is_digit b ≡ false) c.all.ensures.ran (YieldsList-from_slice c.args.line.now cc) (λ x q k. search rules) (λ x q k. search rules))
