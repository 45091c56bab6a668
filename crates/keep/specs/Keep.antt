-- "The count kept is pieces times `shrink_factor`, rounded once, then cut toward zero, NaN and negatives to 0, too large to the
-- largest; then not below target." Definitions only.
use Rattle.std.specs.Prelude.{ℕ, ◌*◌, ◌/◌, min, max, true, false, pos, Float}
use Rattle.std.specs.Float.{nan, inf, fin, binary64}
use Rattle.std.specs.Float.Ieee.{up, down, of_int, mul}

-- "cut toward zero, NaN and negatives to 0, too large to the largest": a finite number is m * up e / down e with its sign, and
-- the largest usize is 2 ^ 64 - 1
abbrev pub whole_of : Float → ℕ
whole_of nan = 0
whole_of (inf true) = 0
whole_of (inf false) = 18446744073709551615
whole_of (fin true m e) = 0
whole_of (fin false m e) = min (m * up e / down e) 18446744073709551615

-- "pieces times `shrink_factor`, rounded once"; the count as an f64 is exact below 2 ^ 53
abbrev pub product_of : ℕ → Float → Float
product_of pieces factor = mul binary64 (of_int binary64 (pos pieces)) factor

-- "then not below target"
abbrev pub keep_of : ℕ → Float → ℕ → ℕ
keep_of pieces factor target = max target (whole_of (product_of pieces factor))
