-- `math::bits` meets its contract: a NaN is the one NaN. Assumes nothing.
use mathlib.Core.Path.{◌≡◌, refl, sym, ap, ◌∙◌}
use lib.Ieee.{Float, nan, binary64, to_bits}
use Rattle.laws.proofs.Choices.{yes}
use Rattle.math.proofs.Tests.{nan_is}
use Rattle.math.proofs.bits.Goals as goal

nan_bits : to_bits binary64 nan ≡ 0x7ff8_0000_0000_0000
unfolding to_bits
nan_bits = refl

pub returns-then-is_nan : goal.returns-then-is_nan
returns-then-is_nan c = sym (ap (λ (x : Float). to_bits binary64 x) (nan_is c.args.x (yes (sym c.is_nan.ensures.value ∙ c.if-is_nan.true))) ∙ nan_bits)
