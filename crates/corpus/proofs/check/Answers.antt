-- `corpus::check` meets its contract: each refusal is given where those before it do not apply.
-- Assumes nothing.
use native.Mathlib.Omega.{arith}
use Rattle.corpus.specs.Check.{bad_word, repeated, too_heavy, empty}
use Rattle.corpus.proofs.check.Goals as goal

pub returns-in-Err : goal.returns-in-Err
returns-in-Err c = bad_word c.in-Err.ensures

pub returns-in-Some : goal.returns-in-Some
returns-in-Some c = repeated c.in_default.ensures c.in-Some.ensures

pub returns-then-heavy : goal.returns-then-heavy
returns-then-heavy c = too_heavy c.in_default.ensures c.in_default-repeat.ensures (λ l. let h = c.if-heavy.ensures in omega arith)

pub returns-then-not-some_utf8 : goal.returns-then-not-some_utf8
returns-then-not-some_utf8 c = empty c.in_default.ensures c.in_default-repeat.ensures (let h = c.if-heavy.ensures in omega arith) c.if-not-some_utf8.ensures
