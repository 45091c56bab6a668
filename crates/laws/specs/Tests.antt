-- What a test's answer says. Definitions only.
use Rattle.std.specs.Prelude.{Bool, true, false}

-- the answer is whether P holds
abbrev pub Says : Bool → Type 0 → Type 0
Says true P = P
Says false P = P → ⊥
