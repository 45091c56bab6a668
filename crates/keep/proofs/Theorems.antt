-- What `keep` promises beyond its equation: it is never below the target; a factor below 1 loses at least one piece; document 01's
-- examples; one answer. Assumes nothing.
use Rattle.std.proofs.Common.{◌≡◌, ℕ, ◌*◌, ◌^◌, ◌<◌, ◌≤◌, true, false, T, pos, refl, arith}
use lib.Ieee.{Float, nan, inf, binary64, fits, le, of_int, of_bits, mul}
use Rattle.laws.proofs.Outcome.{one_outcome}
use Rattle.rounding.specs.Units.{Is}
use Rattle.rounding.proofs.Casts.{int_is}
use Rattle.keep.specs.Keep.{whole_of, product_of, keep_of}
use Rattle.keep.proofs.Below.{one, below}

-- ---- "rounded once": below 2 ^ 53 the count as an f64 is the count, in units of 2 ^ -1074
pub count_exact : (pieces : ℕ) → pieces < 9007199254740992 → Is (of_int binary64 (pos pieces)) (pieces * 2 ^ 1074)
count_exact pieces h = int_is pieces h

-- ---- "then not below target"
pub target_kept : (pieces : ℕ) (factor : Float) (target : ℕ) → target ≤ keep_of pieces factor target
target_kept pieces factor target = omega arith

-- ---- "Below 1, each round loses at least one piece": also at NaN, minus infinity and below zero, which are not 1 or more
module _ (pieces : ℕ) (factor : Float) (some : 0 < pieces) (few : pieces < 9007199254740992) (f64 : T (fits binary64 factor)) (not-one : T (le one factor) → ⊥) where
  pub strictly_smaller : whole_of (product_of pieces factor) < pieces
  strictly_smaller = below (of_int binary64 (pos pieces)) factor pieces some few (int_is pieces few) f64 not-one

  pub fewer_kept : (target : ℕ) → target < pieces → keep_of pieces factor target < pieces
  fewer_kept target h = let l = strictly_smaller in omega arith

-- ---- document 01's examples: "keep of 10 at 0.75: 7; with target 8: 8; NaN, target 8: 8"; 3fe8000000000000 is 0.75
pub ten : keep_of 10 (of_bits binary64 4604930618986332160) 0 ≡ 7
unfolding of_bits of_int mul
ten = refl

pub ten_to_eight : keep_of 10 (of_bits binary64 4604930618986332160) 8 ≡ 8
unfolding of_bits of_int mul
ten_to_eight = refl

pub ten_nan : keep_of 10 nan 8 ≡ 8
unfolding of_int mul
ten_nan = refl

-- too large, and negative
pub ten_infinite : keep_of 10 (inf false) 8 ≡ 18446744073709551615
unfolding of_int mul
ten_infinite = refl

pub ten_below_zero : keep_of 10 (inf true) 8 ≡ 8
unfolding of_int mul
ten_below_zero = refl

-- ---- one answer
pub one_answer : (pieces : ℕ) (factor : Float) (target r s : ℕ) → r ≡ keep_of pieces factor target → s ≡ keep_of pieces factor target → r ≡ s
one_answer pieces factor target r s p q = one_outcome p q
