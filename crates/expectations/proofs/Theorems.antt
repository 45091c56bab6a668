-- What a reader expects of log_add and of the sums, and small examples. Assumes nothing.
use mathlib.Core.Path.{◌≡◌, refl}
use mathlib.Core.Bool.{true, false}
use mathlib.Core.List.{List, [], ◌∷◌}
use Prim.Native.Nat.{ℕ}
use lib.Ieee.{Float, nan, inf, fin, add, sub, mul, div, neg, lt, le, eq, of_bits, to_unsigned}
use Rattle.math.specs.Steps.{lit, exp_steps, ln1p_steps, zero}
use Rattle.expectations.specs.LogAdd.{log_add}
use Rattle.expectations.specs.Sums.{expected_sum, expected_shares}

-- ---- "Minus infinity on one side returns the other"
pub absent_left : (b : Float) → log_add (inf true) b ≡ b
unfolding log_add eq
absent_left b = refl

pub absent_right : (a : Float) → log_add a (inf true) ≡ a
unfolding log_add eq
absent_right nan = refl
absent_right (inf true) = refl
absent_right (inf false) = refl
absent_right (fin s m e) = refl

-- "equal sides are added too": twice 1 is 2, by logarithms
pub equal_sides : log_add zero zero ≡ lit 0x3fe6_2e42_fefa_39ef
unfolding log_add exp_steps ln1p_steps add sub mul div neg lt le eq of_bits to_unsigned
equal_sides = refl

-- ---- the empty word: 0, and no shares
pub empty_sum : (scores : List Float) → expected_sum (0 ∷ 0 ∷ []) [] [] scores 0 ≡ zero
unfolding expected_sum of_bits
empty_sum scores = refl

pub empty_shares : (scores : List Float) → expected_shares (0 ∷ 0 ∷ []) [] [] scores 0 ≡ []
unfolding expected_shares of_bits
empty_shares scores = refl

-- ---- aba with the pieces a, b, ab, ba of scores -1 -1 -2 -2: three cuts, all of about e ^ -3, so shares of about 2/3 and 1/3
abbrev scores : List Float
scores = lit 0xbff0_0000_0000_0000 ∷ lit 0xbff0_0000_0000_0000 ∷ lit 0xc000_0000_0000_0000 ∷ lit 0xc000_0000_0000_0000 ∷ []

abbrev offsets : List ℕ
offsets = 0 ∷ 0 ∷ 1 ∷ 3 ∷ 5 ∷ []

abbrev starts : List ℕ
starts = 0 ∷ 0 ∷ 1 ∷ 1 ∷ 2 ∷ []

abbrev ids : List ℕ
ids = 0 ∷ 2 ∷ 1 ∷ 3 ∷ 0 ∷ []

pub aba_sum : expected_sum offsets starts ids scores 3 ≡ lit 0xbffe_6c15_8552_fcfe
unfolding expected_sum log_add exp_steps ln1p_steps add sub mul div neg lt le eq of_bits to_unsigned
aba_sum = refl

pub aba_shares : expected_shares offsets starts ids scores 3 ≡ lit 0x3fe5_5555_5555_5507 ∷ lit 0x3fd5_5555_5555_5561 ∷ lit 0x3fd5_5555_5555_5561 ∷ lit 0x3fd5_5555_5555_5561 ∷ lit 0x3fe5_5555_5555_5507 ∷ []
unfolding expected_shares log_add exp_steps ln1p_steps add sub mul div neg lt le eq of_bits to_unsigned
aba_shares = refl

-- ---- no cut: minus infinity, "and emits nothing". ab, where only a is a piece
pub uncovered_sum : expected_sum (0 ∷ 0 ∷ 1 ∷ 1 ∷ []) (0 ∷ []) (0 ∷ []) scores 2 ≡ inf true
unfolding expected_sum log_add add eq of_bits
uncovered_sum = refl

pub uncovered_shares : expected_shares (0 ∷ 0 ∷ 1 ∷ 1 ∷ []) (0 ∷ []) (0 ∷ []) scores 2 ≡ zero ∷ []
unfolding expected_shares log_add add eq of_bits
uncovered_shares = refl
