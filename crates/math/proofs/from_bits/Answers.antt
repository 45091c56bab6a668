-- `math::from_bits` meets its contract: a NaN's pattern lies above infinity's, its sign left off. Assumes nothing.
use mathlib.Core.Path.{◌≡◌, sym, ◌∙◌, subst}
use Prim.Native.Nat.{ℕ, ◌%◌, ◌<◌, ◌≤◌}
use native.Mathlib.Nat.{not-le_of_lt}
use mathlib.Core.Bool.{Bool, not}
use borrow.Author.Rules.{rules}
use lib.Dec.{T, ltb, ltb→lt, lt→ltb, not_T}
use lib.Ieee.{nan, binary64, nan_bits, of_bits}
use lib.Ieee.Bits.{nan_bits_is, nan_bits_above}
use Rattle.math.proofs.Tests.{nan_is, no_number}
use Rattle.math.proofs.from_bits.Goals as goal

above : (b : ℕ) → 0x7ff0_0000_0000_0000 < b % 0x8000_0000_0000_0000 → nan ≡ of_bits binary64 b
above b h = sym (nan_is (of_bits binary64 b) (subst T (nan_bits_is binary64 b) (subst T (sym (nan_bits_above binary64 b)) (lt→ltb 0x7ff0_0000_0000_0000 (b % 0x8000_0000_0000_0000) h))))

under : (b : ℕ) → b % 0x8000_0000_0000_0000 ≤ 0x7ff0_0000_0000_0000 → T (not (nan_bits binary64 b))
under b h = subst (λ (t : Bool). T (not t)) (sym (nan_bits_above binary64 b)) (not_T (ltb 0x7ff0_0000_0000_0000 (b % 0x8000_0000_0000_0000)) (λ (t : T (ltb 0x7ff0_0000_0000_0000 (b % 0x8000_0000_0000_0000))). not-le_of_lt (ltb→lt 0x7ff0_0000_0000_0000 (b % 0x8000_0000_0000_0000) t) h))

pub float_from_bits-result : goal.float_from_bits-result
float_from_bits-result c = under c.args.b (search rules)

pub returns-then-b-gt9218868437227405312 : goal.returns-then-b-gt9218868437227405312
returns-then-b-gt9218868437227405312 c = no_number ∙ above c.args.b (search rules)
