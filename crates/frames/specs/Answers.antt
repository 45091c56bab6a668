-- The frames out: document 01, "Frames". A line is the digits of a frame's numbers and bytes, and its 0a. Definitions only.
use Rattle.std.specs.Prelude.{ℕ, zero, suc, ◌+◌, min, ◌≡◌, Bool, true, false, cond, List, [], ◌∷◌, ◌++◌, leb, Float, length, get_or, Option, Some, None, Result, Ok, Err}
use Rattle.std.specs.Float.{binary64}
use Rattle.std.specs.Float.Ieee.{to_bits}
use Rattle.std.proofs.lemmas.List.Edits.{sets}
use Rattle.hexadecimal.specs.Digits.{digits_of}
use Rattle.refusal.specs.Numbers.{number_of, place_of}
use Rattle.refusal.specs.declared.Refusal.{Refusal}
use Rattle.frames.specs.declared.output.Summary.{Summary}
use Rattle.frames.specs.declared.output.Fields.{Fields}

-- a number, or the widest that fits
abbrev pub clamped : ℕ → ℕ → ℕ
clamped most x = min x most

-- what is said of a training
abbrev pub trained_of : ℕ → ℕ → ℕ → Bool → Summary
trained_of tokens specials required stalled = record {
  tokens = clamped 4294967295 tokens;
  specials = clamped 65535 specials;
  required = clamped 4294967295 required;
  stalled = stalled;
}

-- "stop u8 (0 target, 1 stalled)"
abbrev pub stop_of : Bool → ℕ
stop_of true = 1
stop_of false = 0

-- "A refusal writes 11 with zeros after the place"
abbrev pub refused_of : Refusal → Fields
refused_of r = record {
  refusal = number_of r;
  place = clamped 4294967295 (place_of r);
  tokens = 0;
  specials = 0;
  required = 0;
  stop = 0;
}

-- the fields of an 11
abbrev pub fields_of : Result Summary Refusal → Fields
fields_of (Ok summary) = record {
  refusal = 0;
  place = 0;
  tokens = summary.tokens;
  specials = summary.specials;
  required = summary.required;
  stop = stop_of summary.stalled;
}
fields_of (Err r) = refused_of r

-- "`11` refusal u8, place u32, tokens u32, specials u16, required u32, stop u8"
unfoldable pub fields_line : Fields → List ℕ
fields_line a =
    digits_of 2 17 ++ digits_of 2 a.refusal ++ digits_of 8 a.place ++ digits_of 8 a.tokens ++ digits_of 4 a.specials
    ++ digits_of 8 a.required ++ digits_of 2 a.stop ++ 10 ∷ []

abbrev pub answer_line : Result Summary Refusal → List ℕ
answer_line answer = fields_line (fields_of answer)

-- the digits of the first n bytes of a text
unfoldable pub spelt_upto : List ℕ → ℕ → List ℕ
spelt_upto text zero = []
spelt_upto text (suc n) = spelt_upto text n ++ digits_of 2 (get_or text n 0)

abbrev pub spelt_of : List ℕ → List ℕ
spelt_of text = spelt_upto text (length text)

-- "`12` id u32, score bits, length u8, bytes"
unfoldable pub token_line : ℕ → Float → List ℕ → List ℕ
token_line id score text =
    digits_of 2 18 ++ digits_of 8 id ++ digits_of 16 (to_bits binary64 score) ++ digits_of 2 (length text) ++ spelt_of text ++ 10 ∷ []

-- "`13` tokens u32"
unfoldable pub count_line : ℕ → List ℕ
count_line tokens = digits_of 2 19 ++ digits_of 8 tokens ++ 10 ∷ []

-- where the next byte goes after a line, if there is room for it
unfoldable pub line_written : List ℕ → ℕ → List ℕ → Option ℕ
line_written out at line = cond (leb (at + length line) (length out)) (Some (at + length line)) None

-- and what is lent then: the line in place, or all as it was
unfoldable pub line_in : List ℕ → ℕ → List ℕ → List ℕ
line_in out at line = cond (leb (at + length line) (length out)) (sets out at line) out

-- the same for a 12, whose length is a u8
unfoldable pub token_written : List ℕ → ℕ → ℕ → Float → List ℕ → Option ℕ
token_written out at id score text = cond (leb (length text) 255) (line_written out at (token_line id score text)) None

unfoldable pub token_in : List ℕ → ℕ → ℕ → Float → List ℕ → List ℕ
token_in out at id score text = cond (leb (length text) 255) (line_in out at (token_line id score text)) out

-- some bytes were written at a position: what is lent then, and the position behind them
pub record Put (before : List ℕ) (at : ℕ) (bytes out : List ℕ) (next : ℕ) : Type 0 where
  pub same : out ≡ sets before at bytes
  pub behind : next ≡ at + length bytes
