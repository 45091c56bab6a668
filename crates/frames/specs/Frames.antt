-- The frames in: document 01, "Frames". A frame is a list of bytes, the first of which says which it is. Definitions only.
use Rattle.std.specs.Prelude.{ℕ, zero, suc, ◌+◌, ◌*◌, Bool, cond, List, [], ◌∷◌, eqb, length, get_or, Option, None, Some}
use Rattle.std.specs.Float.{binary64}
use Rattle.std.specs.Float.Ieee.{of_bits}
use Rattle.settings.specs.declared.Settings.{Settings}
use Rattle.frames.specs.declared.input.Frame.{Frame}
use Rattle.frames.specs.declared.input.Frame.TheVariants.{Settings as First, Special, Word, Count}

-- a byte of a frame
abbrev pub byte : List ℕ → ℕ → ℕ
byte bytes at = get_or bytes at 0

-- the number in n bytes from `at` on, "most significant byte first": each byte is worth 256 of the next
abbrev pub number_at : List ℕ → ℕ → ℕ → ℕ
number_at bytes at zero = 0
number_at bytes at (suc n) = number_at bytes at n * 256 + get_or bytes (at + n) 0

-- "seed flag u8 (0 or 1)": 0 is unset
abbrev pub seed_of : ℕ → ℕ → Option ℕ
seed_of flag seed = cond (eqb flag 0) None (Some seed)

-- "`01` vocab u32, seed flag u8, seed u32, length u8, min u64, shrink bits, EM u16", from the bytes 1, 5, 6, 10, 11, 19 and 27 on
unfoldable pub settings_of : List ℕ → Settings
settings_of bytes = record {
  vocab_size = number_at bytes 1 4;
  seed_size = seed_of (byte bytes 5) (number_at bytes 6 4);
  max_piece_chars = byte bytes 10;
  min_frequency = number_at bytes 11 8;
  shrink_factor = of_bits binary64 (number_at bytes 19 8);
  em_iterations = number_at bytes 27 2;
}

-- "seed flag u8 (0 or 1), seed u32 (0 if unset)"
abbrev pub seed_fits : ℕ → ℕ → Bool
seed_fits flag seed = cond (eqb flag 0) (eqb seed 0) (eqb flag 1)

-- a 01 has 31 bytes, the last two the number of specials
unfoldable pub settings_frame : List ℕ → Option Frame
settings_frame bytes =
    cond (eqb (length bytes) 31) (cond (seed_fits (byte bytes 5) (number_at bytes 6 4)) (Some (First (settings_of bytes) (number_at bytes 29 2))) None) None

-- "`02` special: length u8, bytes"
unfoldable pub special_frame : List ℕ → Option Frame
special_frame bytes = cond (eqb (length bytes) (2 + byte bytes 1)) (Some (Special 2 (byte bytes 1))) None

-- "`03` word: frequency u64, length u8, bytes"
unfoldable pub word_frame : List ℕ → Option Frame
word_frame bytes = cond (eqb (length bytes) (10 + byte bytes 9)) (Some (Word (number_at bytes 1 8) 10 (byte bytes 9))) None

-- "`04` word count u32"
unfoldable pub count_frame : List ℕ → Option Frame
count_frame bytes = cond (eqb (length bytes) 5) (Some (Count (number_at bytes 1 4))) None

-- the frame that some bytes are, by the first of them; there is no other kind, and none without a byte
unfoldable pub frame_of : List ℕ → Option Frame
frame_of [] = None
frame_of (kind ∷ rest) =
    cond (eqb kind 1) (settings_frame (kind ∷ rest))
    (cond (eqb kind 2) (special_frame (kind ∷ rest))
    (cond (eqb kind 3) (word_frame (kind ∷ rest)) (cond (eqb kind 4) (count_frame (kind ∷ rest)) None)))
