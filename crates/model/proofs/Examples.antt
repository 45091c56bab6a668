-- Small cases, all by computing. Assumes nothing.
use mathlib.Core.Path.{◌≡◌, refl}
use mathlib.Core.Bool.{true, false}
use mathlib.Core.List.{[], ◌∷◌}
use lib.Ieee.{Float, nan, add, sub, mul, div, neg, lt, le, eq, of_int, of_bits, to_bits, to_unsigned}
use Rattle.math.specs.Steps.{lit, exp_steps, ln_steps, ln1p_steps, zero as nought}
use Rattle.expectations.specs.LogAdd.{log_add}
use Rattle.expectations.specs.Sums.{expected_shares}
use Rattle.em.specs.Reach.{connects}
use Rattle.em.specs.Em.{add_edges, add_word, floor, rescored, em}
use Rattle.viterbi.specs.Path.{path}
use Rattle.losses.specs.Losses.{alternative, penalty, loss}
use Rattle.prune.specs.Prune.{costlier}
use Rattle.lattice.specs.Pruning.{gone, survivors}
use Rattle.model.specs.Model.{Model, Task, improved, improved_once, pruned_to, keep_next, stops, rounds, trained, stalled}
use Rattle.model.specs.Nodes.{nodes}

-- ---- when the rounds end: ten pieces, of which eight are asked for
abbrev asked : Float → Task
asked factor = record { setting = 16; iterations = 2; factor = factor; target = 8; required = 3; words = []; frequencies = [] }

-- at 0.75 there is a pruning to eight, and then no more
pub three_quarters : keep_next (asked (lit 0x3fe8_0000_0000_0000)) 10 ≡ 8
unfolding of_bits of_int mul
three_quarters = refl

pub ten_go_on : stops (asked (lit 0x3fe8_0000_0000_0000)) 10 ≡ false
unfolding of_bits of_int mul
ten_go_on = refl

pub eight_stop : stops (asked (lit 0x3fe8_0000_0000_0000)) 8 ≡ true
unfolding of_bits of_int mul
eight_stop = refl

-- at 1 the rounds stall
pub one_stalls : stops (asked (lit 0x3ff0_0000_0000_0000)) 10 ≡ true
unfolding of_bits of_int mul
one_stalls = refl

-- NaN keeps the target
pub nan_goes : keep_next (asked nan) 10 ≡ 8
unfolding of_int mul
nan_goes = refl

-- ---- nodes: of a, ab, abc and b; and where ab and abc are gone
pub four_nodes : nodes ((97 ∷ []) ∷ (97 ∷ 98 ∷ []) ∷ (97 ∷ 98 ∷ 99 ∷ []) ∷ (98 ∷ []) ∷ []) ≡ 4
four_nodes = refl

pub two_nodes : nodes (survivors (0 ∷ gone ∷ gone ∷ 1 ∷ []) ((97 ∷ []) ∷ (97 ∷ 98 ∷ []) ∷ (97 ∷ 98 ∷ 99 ∷ []) ∷ (98 ∷ []) ∷ [])) ≡ 2
two_nodes = refl

-- ---- document 01's aba twice, with the pieces a, b, ab, ba, of which a and b are required: three are asked for
abbrev aba : Task
aba = record { setting = 16; iterations = 1; factor = lit 0x3fe8_0000_0000_0000; target = 3; required = 2; words = (97 ∷ 98 ∷ 97 ∷ []) ∷ []; frequencies = 2 ∷ [] }

abbrev four : Model
four = record { pieces = (97 ∷ []) ∷ (98 ∷ []) ∷ (97 ∷ 98 ∷ []) ∷ (98 ∷ 97 ∷ []) ∷ []; scores = lit 0xbff0_0000_0000_0000 ∷ lit 0xbff0_0000_0000_0000 ∷ lit 0xc000_0000_0000_0000 ∷ lit 0xc000_0000_0000_0000 ∷ [] }

-- a and ba cut it best, and nothing uses ab
pub aba_pruned : (trained aba four).pieces ≡ (97 ∷ []) ∷ (98 ∷ []) ∷ (98 ∷ 97 ∷ []) ∷ []
unfolding improved improved_once pruned_to rounds em rescored add_word add_edges connects expected_shares path alternative penalty loss costlier log_add exp_steps ln_steps ln1p_steps add sub mul div neg lt le eq of_int of_bits to_bits to_unsigned
aba_pruned = refl

-- ---- the word a three times, with the pieces a and b, of which one is asked for: b goes, and a is all there is
abbrev lone : Float → Task
lone factor = record { setting = 16; iterations = 0; factor = factor; target = 1; required = 1; words = (97 ∷ []) ∷ []; frequencies = 3 ∷ [] }

abbrev two : Model
two = record { pieces = (97 ∷ []) ∷ (98 ∷ []) ∷ []; scores = lit 0xbff0_0000_0000_0000 ∷ lit 0xbff0_0000_0000_0000 ∷ [] }

pub lone_left : trained (lone (lit 0x3fe8_0000_0000_0000)) two ≡ record { pieces = (97 ∷ []) ∷ []; scores = nought ∷ [] }
unfolding improved improved_once pruned_to rounds em rescored add_word add_edges connects expected_shares path alternative penalty loss costlier log_add exp_steps ln_steps ln1p_steps add sub mul div neg lt le eq of_int of_bits to_bits to_unsigned
lone_left = refl

pub lone_ends : stalled (lone (lit 0x3fe8_0000_0000_0000)) (trained (lone (lit 0x3fe8_0000_0000_0000)) two) ≡ false
unfolding improved improved_once pruned_to rounds em rescored add_word add_edges connects expected_shares path alternative penalty loss costlier log_add exp_steps ln_steps ln1p_steps add sub mul div neg lt le eq of_int of_bits to_bits to_unsigned
lone_ends = refl

-- at 1 both stay, over target
pub lone_stalls : trained (lone (lit 0x3ff0_0000_0000_0000)) two ≡ record { pieces = (97 ∷ []) ∷ (98 ∷ []) ∷ []; scores = nought ∷ floor ∷ [] }
unfolding improved improved_once pruned_to rounds em rescored add_word add_edges connects expected_shares path alternative penalty loss costlier log_add exp_steps ln_steps ln1p_steps add sub mul div neg lt le eq of_int of_bits to_bits to_unsigned
lone_stalls = refl

pub lone_over : stalled (lone (lit 0x3ff0_0000_0000_0000)) (trained (lone (lit 0x3ff0_0000_0000_0000)) two) ≡ true
unfolding improved improved_once pruned_to rounds em rescored add_word add_edges connects expected_shares path alternative penalty loss costlier log_add exp_steps ln_steps ln1p_steps add sub mul div neg lt le eq of_int of_bits to_bits to_unsigned
lone_over = refl
