-- A value of binary64 that is finite and not negative is v units, of 2 ^ -1074 each; and what it is to be near a number of units. Definitions only.
use Rattle.std.specs.Prelude.{◌≡◌, ℕ, ◌+◌, ◌*◌, ◌^◌, ◌-◌, ◌≤◌, ◌<◌, Bool, true, false, T, pos, Float}
use Rattle.std.specs.Float.{nan, inf, fin}
use Rattle.std.specs.Float.Ieee.{le}
use Rattle.std.specs.Float.Ieee.Exact.{HasValue}
use Rattle.std.specs.Float.Ieee.Positive.{num, den}

-- x is v units
abbrev pub Is : Float → ℕ → Type 0
Is x v = HasValue x false v (2 ^ 1074)

-- v is n / u to within a half
abbrev pub Half : ℕ → ℕ → ℕ → Type 0
Half v n u = (v * u * 2 ≤ n * 2 + u) × (n * 2 ≤ v * u * 2 + u)

-- z is at most 2 ^ B units
pub record Sized (z : Float) (B : ℕ) : Type 0 where
  pub v : ℕ
  pub is : Is z v
  pub top : v ≤ 2 ^ B

-- z is n / c units rounded, for a fraction of at most 2 ^ B units: off by at most 2 ^ (B - 53)
pub record Rounded (z : Float) (n c B : ℕ) : Type 0 where
  pub v : ℕ
  pub is : Is z v
  pub top : v ≤ 2 ^ B
  pub above : v * c * 2 ≤ n * 2 + c * 2 ^ (B - 52)
  pub under : n * 2 ≤ v * c * 2 + c * 2 ^ (B - 52)

-- z is the product of a and b units rounded, for a product of at most 2 ^ B units
pub record Times (z : Float) (a b B : ℕ) : Type 0 where
  pub v : ℕ
  pub is : Is z v
  pub top : v ≤ 2 ^ B
  pub above : v * 2 ^ 1074 * 2 ≤ a * b * 2 + 2 ^ 1074 * 2 ^ (B - 52)
  pub under : a * b * 2 ≤ v * 2 ^ 1074 * 2 + 2 ^ 1074 * 2 ^ (B - 52)

-- z is d units rounded, for a d of at most 2 ^ B
pub record Whole (z : Float) (d B : ℕ) : Type 0 where
  pub v : ℕ
  pub is : Is z v
  pub top : v ≤ 2 ^ B
  pub above : v * 2 ≤ d * 2 + 2 ^ (B - 52)
  pub under : d * 2 ≤ v * 2 + 2 ^ (B - 52)

-- x is m * 2 ^ s units, with an m of 53 binary digits
pub record Digits (x : Float) : Type 0 where
  pub m : ℕ
  pub s : ℕ
  pub is : Is x (m * 2 ^ s)
  pub few : m < 2 ^ 53

-- finite, and its sign is not set
abbrev pub plain : Float → Bool
plain nan = false
plain (inf s) = false
plain (fin true m e) = false
plain (fin false m e) = true

-- r is -v units: its size is v's, and it lies from there to zero
pub record Minus (r : Float) (v : ℕ) : Type 0 where
  pub size : num r * 2 ^ 1074 ≡ v * den r
  pub below : T (le r (fin false 0 (pos 0)))
  pub above : v ≤ 745 * 2 ^ 1074 → T (le (fin true 745 (pos 0)) r)
