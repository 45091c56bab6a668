-- What exp, ln and ln_1p promise where document 01 gives the bound by x or y. `size` is a float's size as a fraction, and p ≲ q says p ≤ q to within 2 ^ -40, over whole
-- numbers. `sign` says that the result is finite, and on which side of zero it lies. Definitions only.
use Rattle.std.specs.Prelude.{T, Float}
use Rattle.std.specs.Float.Ieee.{neg, le}
use Rattle.rounding.specs.Units.{plain}
use Rattle.math.specs.Steps.{zero, lit}
use Rattle.bounds.specs.Fraction.{size, whole, half, inverse, ◌⊞◌, ◌⊠◌, ◌≲◌}

-- r = exp x for an x from -1 to 0. With t = -x: 1 - t ≤ r, and r ≤ 1 - t + t² / 2
pub record ExpNear (x r : Float) : Type 0 where
  pub sign : T (plain r)
  pub low : whole 1 ≲ size r ⊞ size x
  pub high : size r ⊞ size x ≲ whole 1 ⊞ half (size x ⊠ size x)

-- -745
abbrev pub floor : Float
floor = neg (lit 0x4087_4800_0000_0000)

-- r = ln x for an x from 1/2 to 1. With z = -r: 1 - x ≤ z, and z ≤ 1 / x - 1
pub record LnNear (x r : Float) : Type 0 where
  pub sign : T (le floor r) × T (le r zero)
  pub low : whole 1 ≲ size r ⊞ size x
  pub high : size r ⊞ whole 1 ≲ inverse (size x)

-- r = ln_1p y for a y from 0 to 1: r ≤ y, and y - y² / 2 ≤ r
pub record Ln1pNear (y r : Float) : Type 0 where
  pub sign : T (plain r)
  pub high : size r ≲ size y
  pub low : size y ≲ size r ⊞ half (size y ⊠ size y)
