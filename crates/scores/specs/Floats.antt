-- f64 scores at zero or below, minus infinity among them. Document 01 refuses a score that "is NaN, above zero". Definitions only.
use Rattle.std.specs.Prelude.{Bool, true, false, T, eqb, pos, Float}
use Rattle.std.specs.Float.{nan, inf, fin, binary64}
use Rattle.std.specs.Float.Ieee.{add, lt}
use Rattle.scores.specs.Domain.{Domain}

-- +0 and -0 are zero. The test of a program is `x <= 0.0`: proofs/Floats.antt, `le_zero`
abbrev pub zero_or_below : Float → Bool
zero_or_below nan = false
zero_or_below (inf s) = s
zero_or_below (fin true m e) = true
zero_or_below (fin false m e) = eqb m 0

abbrev pub ZeroOrBelow : Float → Type 0
ZeroOrBelow x = T (zero_or_below x)

-- rounded sums from +0, with minus infinity for no cut
abbrev pub f64s : Domain Float
f64s = record { add = add binary64; less = lt; zero = fin false 0 (pos 0); bottom = inf true; past = nan }
