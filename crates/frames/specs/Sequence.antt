-- The order of frames: document 01, "One 01, then as many 02 as it says, the 03s, one 04 that counts them; nothing after. At an
-- early end the place is the next line." Definitions only.
use Rattle.std.specs.Prelude.{ℕ, ◌+◌, ◌-◌, cond, List, [], ◌∷◌, ltb, eqb, Option, None, Some, Result, Ok, Err}
use Rattle.frames.specs.declared.input.Frame.{Frame}
use Rattle.frames.specs.declared.input.Frame.TheVariants.{Settings, Special, Word, Count}
use Rattle.frames.specs.declared.sequence.Awaited.{Awaited}
use Rattle.frames.specs.declared.sequence.Awaited.TheVariants.{First, Specials, Words, Nothing, Broken}
use Rattle.frames.specs.declared.sequence.Reading.{Reading}

-- one more, up to a bound
abbrev pub next : ℕ → ℕ → ℕ
next n most = cond (ltb n most) (n + 1) n

-- so many 02 are to come, and then the 03s
abbrev pub specials_awaited : ℕ → Awaited
specials_awaited n = cond (eqb n 0) Words (Specials n)

-- "One 01"
abbrev pub after_first : Option Frame → ℕ → Awaited
after_first (Some (Settings settings specials)) line = specials_awaited specials
after_first (Some (Special from length)) line = Broken line
after_first (Some (Word frequency from length)) line = Broken line
after_first (Some (Count count)) line = Broken line
after_first None line = Broken line

-- "then as many 02 as it says"
abbrev pub after_special : Option Frame → ℕ → ℕ → Awaited
after_special (Some (Settings settings specials)) n line = Broken line
after_special (Some (Special from length)) n line = specials_awaited (n - 1)
after_special (Some (Word frequency from length)) n line = Broken line
after_special (Some (Count count)) n line = Broken line
after_special None n line = Broken line

-- "the 03s, one 04 that counts them"
abbrev pub after_word : Option Frame → ℕ → ℕ → Awaited
after_word (Some (Settings settings specials)) words line = Broken line
after_word (Some (Special from length)) words line = Broken line
after_word (Some (Word frequency from length)) words line = Words
after_word (Some (Count count)) words line = cond (eqb count words) Nothing (Broken line)
after_word None words line = Broken line

-- "nothing after"; and the first line that breaks the rules is the place
abbrev pub after : Awaited → Option Frame → ℕ → ℕ → Awaited
after First frame words line = after_first frame line
after (Specials n) frame words line = after_special frame n line
after Words frame words line = after_word frame words line
after Nothing frame words line = Broken line
after (Broken before) frame words line = Broken before

-- the words so far
abbrev pub counted_of : ℕ → Option Frame → ℕ
counted_of words (Some (Settings settings specials)) = words
counted_of words (Some (Special from length)) = words
counted_of words (Some (Word frequency from length)) = next words 4294967296
counted_of words (Some (Count count)) = words
counted_of words None = words

-- before the first line
abbrev pub begun_of : Reading
begun_of = record { awaited = First; lines = 0; words = 0 }

-- one line more
unfoldable pub step_of : Reading → Option Frame → Reading
step_of reading frame = record {
  awaited = after reading.awaited frame reading.words (next reading.lines 4294967295);
  lines = next reading.lines 4294967295;
  words = counted_of reading.words frame;
}

-- "At an early end the place is the next line."
abbrev pub ended : Awaited → ℕ → Result (Unit {0}) ℕ
ended First line = Err line
ended (Specials n) line = Err line
ended Words line = Err line
ended Nothing line = Ok tt
ended (Broken before) line = Err before

unfoldable pub end_of : Reading → Result (Unit {0}) ℕ
end_of reading = ended reading.awaited (next reading.lines 4294967295)

-- line after line
unfoldable pub read_all : Reading → List (Option Frame) → Reading
read_all reading [] = reading
read_all reading (frame ∷ frames) = read_all (step_of reading frame) frames

-- what an input is that has these frames, None for each line that is none
unfoldable pub input_of : List (Option Frame) → Result (Unit {0}) ℕ
input_of frames = end_of (read_all begun_of frames)
