-- "Cache slots past the last used hold zeros". Definitions only.
use Rattle.std.specs.Prelude.{List, ◌++◌, ℕ, ◌-◌, length, take, replicate}

-- zeros from a slot on
abbrev pub cleared : ℕ → List ℕ → List ℕ
cleared from l = take from l ++ replicate (length l - from) 0
