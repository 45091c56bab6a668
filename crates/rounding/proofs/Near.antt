-- Sums, differences, products and quotients with their errors, in units. Assumes nothing.
use mathlib.Core.Path.{◌≡◌, refl, sym, subst}
use Prim.Native.Nat.{ℕ, ◌+◌, ◌-◌, ◌*◌, ◌^◌, ◌≤◌, ◌<◌}
use native.Mathlib.Nat.{le_trans, le_of_eq, mul_comm, mul_assoc, mul-le-mul_left, mul-le-mul_right, le_of_mul-le-mul_right, mul-pos}
use native.Mathlib.Omega.{arith}
use mathlib.Core.Bool.{false}
use lib.Pow.{pow_pos}
use lib.Ieee.{Float, binary64, round, add, mul, div, sub}
use lib.Ieee.Exact.{round_exact}
use lib.Ieee.Order.{round_mono}
use Rattle.rounding.specs.Units.{Is, Digits, Rounded, Times, Whole}
use Rattle.rounding.proofs.Nearest.{round_near}
use Rattle.rounding.proofs.Operations.{mul_units, div_units, add_units, sub_units}
use Rattle.rounding.proofs.Values.{le_units}

-- a sum by its parts
pub sum_top : (x y : ℕ) {X Y Z : ℕ} → x ≤ X → y ≤ Y → X + Y ≤ Z → x + y ≤ Z
sum_top x y h k l = omega arith

-- a common factor taken off
off : (U x y : ℕ) → 0 < U → x * U ≤ y * U → x ≤ y
off U x y h k = le_of_mul-le-mul_right k h

square_above : (U v p e : ℕ) → v * (U * U) * 2 ≤ p * U * 2 + U * U * e → v * U * 2 * U ≤ (p * 2 + U * e) * U
square_above U v p e k = omega arith

square_under : (U v p e : ℕ) → p * U * 2 ≤ v * (U * U) * 2 + U * U * e → p * 2 * U ≤ (v * U * 2 + U * e) * U
square_under U v p e k = omega arith

single : (U v p e : ℕ) → v * U * 2 ≤ p * U * 2 + U * e → v * 2 * U ≤ (p * 2 + e) * U
single U v p e k = omega arith

fill : (U p q : ℕ) → p ≤ U * q → p * U ≤ U * U * q
fill U p q h = omega (arith, mul-le-mul_right U h)

pub mul_near : (x y : Float) (a b B : ℕ) → Is x a → Is y b → B < 2098 → a * b ≤ 2 ^ 1074 * 2 ^ B → Times (mul binary64 x y) a b B
mul_near x y a b B p q l h =
    let U = 2 ^ 1074 in
    let r = round_near (a * b) (U * U) B (mul-pos (pow_pos 1074) (pow_pos 1074)) l (fill U (a * b) (2 ^ B) h) in
    record {
      v = r.v;
      is = subst (λ (z : Float). Is z r.v) (sym (mul_units x y a b p q)) r.is;
      top = r.top;
      above = off U (r.v * U * 2) (a * b * 2 + U * 2 ^ (B - 52)) (pow_pos 1074) (square_above U r.v (a * b) (2 ^ (B - 52)) r.above);
      under = off U (a * b * 2) (r.v * U * 2 + U * 2 ^ (B - 52)) (pow_pos 1074) (square_under U r.v (a * b) (2 ^ (B - 52)) r.under);
    }

of_round : (z : Float) (d B : ℕ) → z ≡ round binary64 false d (2 ^ 1074) → B < 2098 → d ≤ 2 ^ B → Whole z d B
of_round z d B e l h =
    let U = 2 ^ 1074 in
    let r = round_near d U B (pow_pos 1074) l (le_trans (mul-le-mul_right U h) (le_of_eq (mul_comm (2 ^ B) U))) in
    record {
      v = r.v;
      is = subst (λ (z : Float). Is z r.v) (sym e) r.is;
      top = r.top;
      above = off U (r.v * 2) (d * 2 + 2 ^ (B - 52)) (pow_pos 1074) (single U r.v d (2 ^ (B - 52)) r.above);
      under = off U (d * 2) (r.v * 2 + 2 ^ (B - 52)) (pow_pos 1074) (single U d r.v (2 ^ (B - 52)) r.under);
    }

pub add_near : (x y : Float) (a b B : ℕ) → Is x a → Is y b → B < 2098 → a + b ≤ 2 ^ B → Whole (add binary64 x y) (a + b) B
add_near x y a b B p q l h = of_round (add binary64 x y) (a + b) B (add_units x y a b p q) l h

pub sub_near : (x y : Float) (a b B : ℕ) → Is x a → Is y b → b ≤ a → B < 2098 → a - b ≤ 2 ^ B → Whole (sub binary64 x y) (a - b) B
sub_near x y a b B p q o l h = of_round (sub binary64 x y) (a - b) B (sub_units x y a b p q o) l h

-- a / b, of at most 2 ^ B units
pub div_near : (x y : Float) (a b B : ℕ) → Is x a → Is y b → 0 < b → B < 2098 → a * 2 ^ 1074 ≤ b * 2 ^ B → Rounded (div binary64 x y) (a * 2 ^ 1074) b B
div_near x y a b B p q z l h = subst (λ (r : Float). Rounded r (a * 2 ^ 1074) b B) (sym (div_units x y a b p q z)) (round_near a b B z l h)

-- ---- times at most 1: no larger than what there was, however small that is
pub mul_no_more : (x y : Float) (g : Digits x) (b v : ℕ) → g.m * 2 ^ g.s < 2 ^ 2098 → Is y b → b ≤ 2 ^ 1074 → Is (mul binary64 x y) v → v ≤ g.m * 2 ^ g.s
mul_no_more x y g b v u q l i =
    let U = 2 ^ 1074 in
    let a = g.m * 2 ^ g.s in
    le_units (round binary64 false (a * b) (U * U)) (round binary64 false a U) v a
    (subst (λ (z : Float). Is z v) (mul_units x y a b g.is q) i)
    (round_exact binary64 false a U g.m g.s (pow_pos 1074) g.few u refl)
    (round_mono binary64 (a * b) (U * U) a U (mul-pos (pow_pos 1074) (pow_pos 1074)) (pow_pos 1074) (over a b U l))
  where
    over : (a b U : ℕ) → b ≤ U → a * b * U ≤ a * (U * U)
    over a b U h = le_trans (mul-le-mul_right U (mul-le-mul_left a h)) (le_of_eq (mul_assoc a U U))

-- ---- at least w, which is m * 2 ^ s units with an m of 53 digits, where the exact product is
pub mul_no_less : (x y : Float) (a b v m s : ℕ) → Is x a → Is y b → Is (mul binary64 x y) v → m < 2 ^ 53 → m * 2 ^ s < 2 ^ 2098 → m * 2 ^ s * 2 ^ 1074 ≤ a * b → m * 2 ^ s ≤ v
mul_no_less x y a b v m s p q i f u l =
    let U = 2 ^ 1074 in
    let w = m * 2 ^ s in
    le_units (round binary64 false w U) (round binary64 false (a * b) (U * U)) w v
    (round_exact binary64 false w U m s (pow_pos 1074) f u refl)
    (subst (λ (z : Float). Is z v) (mul_units x y a b p q) i)
    (round_mono binary64 w U (a * b) (U * U) (pow_pos 1074) (mul-pos (pow_pos 1074) (pow_pos 1074)) (le_trans (le_of_eq (sym (mul_assoc w U U))) (mul-le-mul_right U l)))
