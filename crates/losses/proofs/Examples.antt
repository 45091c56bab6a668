-- Small examples, by their bits, over the pieces a, b and ab. Assumes nothing.
use mathlib.Core.Path.{◌≡◌, refl}
use mathlib.Core.List.{List, [], ◌∷◌}
use Prim.Native.Nat.{ℕ}
use lib.Ieee.{Float, add, sub, mul, lt, eq, of_bits, to_bits}
use Rattle.math.specs.Steps.{lit, zero as nought}
use Rattle.losses.specs.Losses.{alternative, penalty, loss, losses_of, bits_of}

abbrev three : List (List ℕ)
three = (97 ∷ []) ∷ (98 ∷ []) ∷ (97 ∷ 98 ∷ []) ∷ []

abbrev one_below : Float
one_below = lit 0xbff0_0000_0000_0000

abbrev two_below : Float
two_below = lit 0xc000_0000_0000_0000

-- -1.5, and 3
abbrev between : Float
between = lit 0xbff8_0000_0000_0000

abbrev thrice : Float
thrice = lit 0x4008_0000_0000_0000

-- ab, used three times, is worth -1.5 where a and b are worth -2: 3 times 0.5. b is unused; nothing else spells a
pub example_losses : bits_of (losses_of 16 three (one_below ∷ one_below ∷ between ∷ []) (thrice ∷ nought ∷ thrice ∷ [])) ≡ 0x7ff0_0000_0000_0000 ∷ 0 ∷ 0x3ff8_0000_0000_0000 ∷ []
unfolding alternative penalty loss add sub mul lt eq of_bits to_bits
example_losses = refl

-- where a and b are as good as ab, it costs +0
pub example_level : bits_of (losses_of 16 three (one_below ∷ one_below ∷ two_below ∷ []) (nought ∷ nought ∷ thrice ∷ [])) ≡ 0 ∷ 0 ∷ 0 ∷ []
unfolding alternative penalty loss add sub mul lt eq of_bits to_bits
example_level = refl
