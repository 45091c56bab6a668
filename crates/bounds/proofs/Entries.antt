-- The tables, each by one computed test: what every entry is in units, beside its grid point. Assumes nothing.
use mathlib.Core.Path.{refl}
use Prim.Native.Nat.{ℕ, ◌+◌, ◌-◌, ◌*◌, ◌/◌, ◌^◌, ◌≤◌, ◌<◌}
use mathlib.Core.Bool.{Bool, true, false, ◌&&◌}
use mathlib.Core.List.{List}
use lib.Dec.{T, leb, eqb, leb→le, eqb→eq}
use lib.ListN.{length}
use lib.Ieee.{Float, nan, inf, fin, binary64, up, down, of_bits}
use lib.Ieee.Fits.{and_l, and_r}
use Rattle.rounding.specs.Units.{Is}
use Rattle.laws.proofs.Tables.{every, at}
use Rattle.tables.specs.Tables.{entry, los, his, logs, mlogs}

-- ---- an entry's units, with a test of them
abbrev units : ℕ → ℕ → ℕ
units n d = n * 2 ^ 1074 / d

abbrev good : (ℕ → Bool) → Float → Bool
good test nan = false
good test (inf s) = false
good test (fin true m e) = false
good test (fin false m e) = eqb (m * up e * 2 ^ 1074) (units (m * up e) (down e) * down e) && test (units (m * up e) (down e))

record Good (test : ℕ → Bool) (z : Float) : Type 0 where
  v : ℕ
  is : Is z v
  passed : T (test v)

good_is : (test : ℕ → Bool) (z : Float) → T (good test z) → Good test z
good_is test nan h = absurd h
good_is test (inf s) h = absurd h
good_is test (fin true m e) h = absurd h
good_is test (fin false m e) h =
    let v = units (m * up e) (down e) in
    let p = eqb (m * up e * 2 ^ 1074) (v * down e) in
    record { v = v; is = (refl, eqb→eq (m * up e * 2 ^ 1074) (v * down e) (and_l p (test v) h)); passed = and_r p (test v) h }

all : (ℕ → ℕ → Bool) → List ℕ → Bool
all test table = every (λ (j b : ℕ). good (test j) (of_bits binary64 b)) 0 table

found : (test : ℕ → ℕ → Bool) (table : List ℕ) → T (all test table) → (j : ℕ) → j < length table → Good (test j) (entry table j)
unfolding all
found test table t j h = good_is (test j) (entry table j) (at (λ (k b : ℕ). good (test k) (of_bits binary64 b)) table t j h)

-- ---- e ^ -a, at a = j / 64: from 1 - a to 1 - a + a² / 2, and at most 1
pub record Low (z : Float) (a : ℕ) : Type 0 where
  pub v : ℕ
  pub is : Is z v
  pub top : v ≤ 2 ^ 1074
  pub low : 2 ^ 1074 ≤ v + a
  pub high : v * 2 ^ 1074 * 2 + a * 2 ^ 1074 * 2 ≤ 2 ^ 1074 * 2 ^ 1074 * 2 + a * a

abbrev test_low : ℕ → ℕ → Bool
test_low j v =
    leb v (2 ^ 1074)
    && (leb (2 ^ 1074) (v + j * 2 ^ 1068)
    && leb (v * 2 ^ 1074 * 2 + j * 2 ^ 1068 * 2 ^ 1074 * 2) (2 ^ 1074 * 2 ^ 1074 * 2 + j * 2 ^ 1068 * (j * 2 ^ 1068)))

all_low : T (all test_low los)
unfolding all of_bits
all_low = tt

pub low_entry : (j : ℕ) → j < 256 → Low (entry los j) (j * 2 ^ 1068)
low_entry j h =
    let U = 2 ^ 1074 in
    let a = j * 2 ^ 1068 in
    let g = found test_low los all_low j h in
    let v = g.v in
    let p = leb v U in
    let q = leb U (v + a) in
    let r = leb (v * U * 2 + a * U * 2) (U * U * 2 + a * a) in
    let k = and_r p (q && r) g.passed in
    record { v = v; is = g.is; top = leb→le v U (and_l p (q && r) g.passed); low = leb→le U (v + a) (and_l q r k); high = leb→le (v * U * 2 + a * U * 2) (U * U * 2 + a * a) (and_r q r k) }

-- ---- e ^ -4j: at most 1, and 1 at 0
pub record High (z : Float) : Type 0 where
  pub v : ℕ
  pub is : Is z v
  pub top : v ≤ 2 ^ 1074

abbrev test_high : ℕ → ℕ → Bool
test_high j v = leb v (2 ^ 1074)

all_high : T (all test_high his)
unfolding all of_bits
all_high = tt

pub high_entry : (j : ℕ) → j < 187 → High (entry his j)
high_entry j h = let g = found test_high his all_high j h in record { v = g.v; is = g.is; top = leb→le g.v (2 ^ 1074) g.passed }

pub high_one : Is (entry his 0) (2 ^ 1074)
unfolding of_bits
high_one = (refl, refl)

-- ---- ln (1 + a), at a = j / 64: from a - a² / 2 to a
pub record Log (z : Float) (a : ℕ) : Type 0 where
  pub v : ℕ
  pub is : Is z v
  pub top : v ≤ a
  pub low : a * 2 ^ 1074 * 2 ≤ v * 2 ^ 1074 * 2 + a * a

abbrev test_log : ℕ → ℕ → Bool
test_log j v = leb v (j * 2 ^ 1068) && leb (j * 2 ^ 1068 * 2 ^ 1074 * 2) (v * 2 ^ 1074 * 2 + j * 2 ^ 1068 * (j * 2 ^ 1068))

all_log : T (all test_log logs)
unfolding all of_bits
all_log = tt

pub log_entry : (j : ℕ) → j < 65 → Log (entry logs j) (j * 2 ^ 1068)
log_entry j h =
    let U = 2 ^ 1074 in
    let a = j * 2 ^ 1068 in
    let g = found test_log logs all_log j h in
    let v = g.v in
    let p = leb v a in
    let q = leb (a * U * 2) (v * U * 2 + a * a) in
    record { v = v; is = g.is; top = leb→le v a (and_l p q g.passed); low = leb→le (a * U * 2) (v * U * 2 + a * a) (and_r p q g.passed) }

-- ---- -ln (1 - a), at a = j / 128: from a to 1 / (1 - a) - 1, and at most 1
pub record MinusLog (z : Float) (a : ℕ) : Type 0 where
  pub v : ℕ
  pub is : Is z v
  pub low : a ≤ v
  pub top : v ≤ 2 ^ 1074
  pub high : (v + 2 ^ 1074) * (2 ^ 1074 - a) ≤ 2 ^ 1074 * 2 ^ 1074

abbrev test_minus_log : ℕ → ℕ → Bool
test_minus_log j v = leb (j * 2 ^ 1067) v && (leb v (2 ^ 1074) && leb ((v + 2 ^ 1074) * (2 ^ 1074 - j * 2 ^ 1067)) (2 ^ 1074 * 2 ^ 1074))

all_minus_log : T (all test_minus_log mlogs)
unfolding all of_bits
all_minus_log = tt

pub minus_log_entry : (j : ℕ) → j < 65 → MinusLog (entry mlogs j) (j * 2 ^ 1067)
minus_log_entry j h =
    let U = 2 ^ 1074 in
    let a = j * 2 ^ 1067 in
    let g = found test_minus_log mlogs all_minus_log j h in
    let v = g.v in
    let p = leb a v in
    let q = leb v U in
    let r = leb ((v + U) * (U - a)) (U * U) in
    let k = and_r p (q && r) g.passed in
    record { v = v; is = g.is; low = leb→le a v (and_l p (q && r) g.passed); top = leb→le v U (and_l q r k); high = leb→le ((v + U) * (U - a)) (U * U) (and_r q r k) }
