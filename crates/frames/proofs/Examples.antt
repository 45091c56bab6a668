-- Document 01's sample, line by line: "Given on standard input .. it prints ..".
-- Assumes nothing.
use Prim.Native.Nat.{ℕ}
use mathlib.Core.Path.{◌≡◌, refl}
use mathlib.Core.Bool.{false}
use mathlib.Core.List.{List, [], ◌∷◌}
use lib.Ieee.{binary64, of_bits, to_bits}
use Rattle.std.specs.Prelude.{None, Some, Ok}
use Rattle.hexadecimal.specs.Digits.{value_of, digits_of}
use Rattle.settings.specs.declared.Settings.{Settings}
use Rattle.frames.specs.Bytes.{digits_only, bytes_upto, bytes_of, decoded_of}
use Rattle.frames.specs.Frames.{settings_of, settings_frame, word_frame, count_frame, frame_of}
use Rattle.frames.specs.Sequence.{step_of, end_of, read_all, input_of}
use Rattle.frames.specs.Answers.{trained_of, fields_line, answer_line, spelt_upto, token_line, count_line}
use Rattle.frames.specs.declared.input.Frame.TheVariants.{Settings as First, Word, Count}

-- 010000000100000000001000000000000000023fe800000000000000020000
abbrev pub first : List ℕ
first =
    48 ∷ 49 ∷ 48 ∷ 48 ∷ 48 ∷ 48 ∷ 48 ∷ 48 ∷ 48 ∷ 49 ∷ 48 ∷ 48 ∷ 48 ∷ 48 ∷ 48 ∷ 48 ∷ 48 ∷ 48 ∷ 48 ∷ 48 ∷ 49 ∷ 48 ∷ 48 ∷ 48 ∷
    48 ∷ 48 ∷ 48 ∷ 48 ∷ 48 ∷ 48 ∷ 48 ∷ 48 ∷ 48 ∷ 48 ∷ 48 ∷ 48 ∷ 48 ∷ 50 ∷ 51 ∷ 102 ∷ 101 ∷ 56 ∷ 48 ∷ 48 ∷ 48 ∷ 48 ∷ 48 ∷ 48 ∷
    48 ∷ 48 ∷ 48 ∷ 48 ∷ 48 ∷ 48 ∷ 48 ∷ 48 ∷ 48 ∷ 50 ∷ 48 ∷ 48 ∷ 48 ∷ 48 ∷ []

-- 0300000000000000010161
abbrev pub second : List ℕ
second =
    48 ∷ 51 ∷ 48 ∷ 48 ∷ 48 ∷ 48 ∷ 48 ∷ 48 ∷ 48 ∷ 48 ∷ 48 ∷ 48 ∷ 48 ∷ 48 ∷ 48 ∷ 48 ∷ 48 ∷ 49 ∷ 48 ∷ 49 ∷ 54 ∷ 49 ∷ []

-- 0400000001
abbrev pub third : List ℕ
third =
    48 ∷ 52 ∷ 48 ∷ 48 ∷ 48 ∷ 48 ∷ 48 ∷ 48 ∷ 48 ∷ 49 ∷ []

-- 1100000000000000000100000000000100, and 0a
abbrev pub answer : List ℕ
answer =
    49 ∷ 49 ∷ 48 ∷ 48 ∷ 48 ∷ 48 ∷ 48 ∷ 48 ∷ 48 ∷ 48 ∷ 48 ∷ 48 ∷ 48 ∷ 48 ∷ 48 ∷ 48 ∷ 48 ∷ 48 ∷ 48 ∷ 49 ∷ 48 ∷ 48 ∷ 48 ∷ 48 ∷
    48 ∷ 48 ∷ 48 ∷ 48 ∷ 48 ∷ 48 ∷ 48 ∷ 49 ∷ 48 ∷ 48 ∷ 10 ∷ []

-- 120000000000000000000000000161, and 0a
abbrev pub token : List ℕ
token =
    49 ∷ 50 ∷ 48 ∷ 48 ∷ 48 ∷ 48 ∷ 48 ∷ 48 ∷ 48 ∷ 48 ∷ 48 ∷ 48 ∷ 48 ∷ 48 ∷ 48 ∷ 48 ∷ 48 ∷ 48 ∷ 48 ∷ 48 ∷ 48 ∷ 48 ∷ 48 ∷ 48 ∷
    48 ∷ 48 ∷ 48 ∷ 49 ∷ 54 ∷ 49 ∷ 10 ∷ []

-- 1300000001, and 0a
abbrev pub tokens : List ℕ
tokens =
    49 ∷ 51 ∷ 48 ∷ 48 ∷ 48 ∷ 48 ∷ 48 ∷ 48 ∷ 48 ∷ 49 ∷ 10 ∷ []

-- vocab 1, seed unset, length 16, minimum 2, shrink 0.75, EM 2
abbrev pub asked : Settings
asked = record {
  vocab_size = 1;
  seed_size = None;
  max_piece_chars = 16;
  min_frequency = 2;
  shrink_factor = of_bits binary64 4604930618986332160;
  em_iterations = 2;
}

pub first_decoded : decoded_of first 265 ≡ Some 31
unfolding decoded_of digits_only value_of
first_decoded = refl

pub first_read : frame_of (bytes_of first) ≡ Some (First asked 0)
unfolding frame_of settings_frame settings_of bytes_upto value_of
first_read = refl

pub second_read : frame_of (bytes_of second) ≡ Some (Word 1 10 1)
unfolding frame_of word_frame bytes_upto value_of
second_read = refl

pub third_read : frame_of (bytes_of third) ≡ Some (Count 1)
unfolding frame_of count_frame bytes_upto value_of
third_read = refl

pub all_read : input_of (Some (First asked 0) ∷ Some (Word 1 10 1) ∷ Some (Count 1) ∷ []) ≡ Ok tt
unfolding input_of end_of read_all step_of
all_read = refl

pub answer_told : answer_line (Ok (trained_of 1 0 1 false)) ≡ answer
unfolding fields_line digits_of
answer_told = refl

-- the score of the one token is +0
pub token_told : token_line 0 (of_bits binary64 0) (97 ∷ []) ≡ token
unfolding token_line spelt_upto digits_of of_bits to_bits
token_told = refl

pub tokens_told : count_line 1 ≡ tokens
unfolding count_line digits_of
tokens_told = refl
