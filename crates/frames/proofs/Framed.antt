-- The frame of some bytes, by the first of them.
-- Assumes nothing.
use Prim.Native.Nat.{ℕ}
use mathlib.Core.Path.{◌≡◌, refl}
use mathlib.Core.Bool.{cond}
use mathlib.Core.List.{List, [], ◌∷◌}
use native.Mathlib.Omega.{arith}
use lib.Dec.{eqb}
use lib.ListN.{length}
use Rattle.std.specs.Prelude.{None}
use Rattle.frames.specs.Frames.{byte, settings_frame, special_frame, word_frame, count_frame, frame_of}

pub no_byte : (l : List ℕ) → length l ≡ 0 → None ≡ frame_of l
unfolding frame_of
no_byte [] h = refl
no_byte (b ∷ l) h = absurd (omega arith)

pub kinds : (l : List ℕ) → (length l ≡ 0 → ⊥)
    → frame_of l ≡ cond (eqb (byte l 0) 1) (settings_frame l) (cond (eqb (byte l 0) 2) (special_frame l) (cond (eqb (byte l 0) 3) (word_frame l) (cond (eqb (byte l 0) 4) (count_frame l) None)))
unfolding frame_of
kinds [] h = absurd (h refl)
kinds (b ∷ l) h = refl
