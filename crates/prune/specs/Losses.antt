-- Which floats are losses: "uses times the larger of 0 and score less alternative, +0 for either zero; plus infinity if there
-- is no finite alternative; 0 unused." Definitions only.
use Rattle.std.specs.Prelude.{Bool, false, not, List, map, ℕ, ◌<◌, T, Float, length, get_or}
use Rattle.std.specs.Float.{nan, inf, fin, binary64}
use Rattle.std.specs.Float.Ieee.{fits, to_bits}

-- +0 or greater, plus infinity too
abbrev pub loss_like : Float → Bool
loss_like nan = false
loss_like (inf s) = not s
loss_like (fin s m e) = not s

abbrev pub AllLosses : List Float → Type 0
AllLosses losses = (id : ℕ) → id < length losses → T (loss_like (get_or losses id nan)) × T (fits binary64 (get_or losses id nan))

-- as pruning takes them
abbrev pub bits_of : List Float → List ℕ
bits_of losses = map (to_bits binary64) losses
