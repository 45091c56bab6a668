-- `inputs::check` meets its contract: each refusal is given where those before it do not apply.
-- Assumes nothing.
use Rattle.inputs.specs.Inputs.{bad_setting, no_room, bad_word, bad_piece, repeated}
use native.Mathlib.Omega.{arith}
use Rattle.inputs.proofs.check.Goals as goal

pub returns-then-setting-gt-PIECE_LENGTH : goal.returns-then-setting-gt-PIECE_LENGTH
returns-then-setting-gt-PIECE_LENGTH c = bad_setting (λ h. omega arith)

pub returns-then-not-bounded : goal.returns-then-not-bounded
returns-then-not-bounded c = no_room c.if-setting-gt-PIECE_LENGTH.false c.if-not-bounded.ensures

pub returns-in-Err : goal.returns-in-Err
returns-in-Err c = bad_word c.if-setting-gt-PIECE_LENGTH.false c.if-not-bounded.ensures c.in-Err.ensures

pub returns-in-Err-check : goal.returns-in-Err-check
returns-in-Err-check c = bad_piece c.if-setting-gt-PIECE_LENGTH.false c.if-not-bounded.ensures c.in_default.ensures c.in-Err-check.ensures

pub returns-in-Some : goal.returns-in-Some
returns-in-Some c = repeated c.if-setting-gt-PIECE_LENGTH.false c.if-not-bounded.ensures c.in_default.ensures c.in_default-check.ensures c.in-Some.ensures
