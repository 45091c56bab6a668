-- Document 01's example of a cut, "scores -1 -1 -2 -2: aba gives 0, 3", for a word of frequency 2: a and ba are used twice each. Assumes nothing.
use Rattle.std.proofs.Common.{◌≡◌, ℕ, List, [], ◌∷◌, refl}
use lib.Ieee.{Float, add, lt, of_bits, of_int}
use Rattle.math.specs.Steps.{lit, zero as nought}
use Rattle.lattice.specs.Lattice.{cache}
use Rattle.viterbi.specs.Path.{path}
use Rattle.uses.specs.Uses.{uses_of}

abbrev four : List (List ℕ)
four = (97 ∷ []) ∷ (98 ∷ []) ∷ (97 ∷ 98 ∷ []) ∷ (98 ∷ 97 ∷ []) ∷ []

abbrev one_below : Float
one_below = lit 0xbff0_0000_0000_0000

abbrev two_below : Float
two_below = lit 0xc000_0000_0000_0000

abbrev twice : Float
twice = lit 0x4000_0000_0000_0000

pub example_uses : uses_of (cache 16 four ((97 ∷ 98 ∷ 97 ∷ []) ∷ [])) (2 ∷ []) (one_below ∷ one_below ∷ two_below ∷ two_below ∷ []) ≡ twice ∷ nought ∷ nought ∷ twice ∷ []
unfolding path add lt of_bits of_int
example_uses = refl
