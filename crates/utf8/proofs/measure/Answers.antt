use mathlib.Core.Path.{◌≡◌, ◌∙◌, sym, ap}
use native.Mathlib.Omega.{arith}
use lib.ListN.{drop}
use Rattle.std.specs.Prelude.{ℕ, Option, Result, Err}
use Rattle.std.specs.Option.{ok_or}
use Rattle.std.proofs.lemmas.Result.{err_from_is_err_and}
use Rattle.utf8.specs.Decode.{character, decoded}
use Rattle.utf8.specs.declared.Char.{Char}
use Rattle.utf8.proofs.Whole.{along_none, along_inside, along_more, along_end, along_bad}
use Rattle.utf8.proofs.measure.Goals as goal
use Rattle.utf8.proofs.measure.Goals.{In_ok-at}

-- the character at the position
char : (c : In_ok-at) → decoded (drop c.loop-at.at c.args.text.now) ≡ character c.in_ok-at.field-0.code c.in_ok-at.field-0.width
char c = sym c.decode.ensures ∙ c.in_ok-at.ensures.ok_part

pub loop-at-init : goal.loop-at-init
loop-at-init c = along_none _

pub returns-in_err-at : goal.returns-in_err-at
returns-in_err-at c =
    let p = err_from_is_err_and c.from_residual.result c.from_residual.ensures.1 in
    let q : ◌≡◌ {A = Result Char ℕ} (Err c.in_err-at.field-0.0) (Err c.loop-at.at) = c.in_err-at.ensures.value ∙ ap (λ (o : Option Char). ok_or o c.loop-at.at) c.in_err-at.ensures.ok_part in
    let e : c.in_err-at.field-0.0 ≡ c.loop-at.at = cc in
    rw (p.1, p.2, e) (along_bad c.loop-at.invariant c.loop-at-test.true (sym c.decode.ensures ∙ c.in_err-at.ensures.ok_part))

pub overflow_add-at : goal.overflow_add-at
overflow_add-at c = omega (arith, along_inside c.loop-at.invariant (char c))

pub overflow_add-count : goal.overflow_add-count
overflow_add-count c = omega (arith, c.loop-at.invariant.few, c.loop-at-test.true)

pub loop-at-smaller : goal.loop-at-smaller
loop-at-smaller c = omega (arith, along_inside c.loop-at.invariant (char c), c.loop-at-test.true)

pub loop-at-preserved : goal.loop-at-preserved
loop-at-preserved c = along_more c.loop-at.invariant (char c)

pub returns : goal.returns
returns c = along_end c.loop-at.invariant c.loop-at-test.false
