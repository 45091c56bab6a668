-- `places::home` meets its contract: the wrapping add of the two products is `mixed`.
-- Assumes nothing.
use Rattle.std.proofs.Common.{rules, ℕ, ◌*◌, ◌%◌, ◌<◌, ◌≤◌, mul-le-mul_right, mod-lt, arith, lit<}
use Rattle.places.specs.Walk.{mixed, home_of}
use Rattle.places.proofs.home.Goals as goal

product : (a b : ℕ) → a < 4294967296 → b ≤ 4294967295 → a * b < 18446744073709551616
product a b h k = let l : a * b ≤ 4294967296 * b = mul-le-mul_right b (omega arith) in omega arith

pub overflow_mul-result : goal.overflow_mul-result
unfolding mixed
overflow_mul-result c = omega (arith, product (mixed c.args.key % 4294967296) c.args.places (mod-lt (mixed c.args.key) (lit< tt)) c.requires)

pub returns : goal.returns
unfolding mixed home_of
returns c = search rules
