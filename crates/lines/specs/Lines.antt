-- The input, byte by byte: document 01, "one frame a line, .. each line ended by 0a". Definitions only.
use Rattle.std.specs.Prelude.{ℕ, ◌≤◌, ◌≡◌, cond, List, [], ◌∷◌, ◌++◌, eqb, ltb, length, take, Option, None}
use Rattle.frames.specs.Bytes.{bytes_of, decodes}
use Rattle.frames.specs.Frames.{frame_of}
use Rattle.frames.specs.Sequence.{begun_of, step_of}
use Rattle.frames.specs.declared.input.Frame.{Frame}
use Rattle.frames.specs.declared.sequence.Reading.{Reading}
use Rattle.stored.specs.Stored.{Tables, tables, nothing, store_of}
use Rattle.lines.specs.declared.Input.{Input}

-- the bytes of a line, without its 0a; what is no digits in pairs has none, and no frame has more than 265
unfoldable pub line_bytes : List ℕ → List ℕ
line_bytes line = cond (decodes line 265) (bytes_of line) []

-- the frame that a line is, if it is one
abbrev pub line_frame : List ℕ → Option Frame
line_frame line = frame_of (line_bytes line)

-- the lines that have ended, as far as they are in order; what they say; and what has come of the next one
pub record Stream : Type 0 where
  pub reading : Reading
  pub tables : Tables
  pub line : List ℕ

-- a byte more of a line, of which 531 tell that it is too long
abbrev pub more : List ℕ → ℕ → List ℕ
more line b = cond (ltb (length line) 531) (line ++ b ∷ []) line

-- a line ends
abbrev pub end_line : Stream → Stream
end_line s = record {
  reading = step_of s.reading (line_frame s.line);
  tables = store_of s.tables (line_frame s.line) (line_bytes s.line);
  line = [];
}

-- a byte of the input
unfoldable pub feed : Stream → ℕ → Stream
feed s b = cond (eqb b 10) (end_line s) (record { reading = s.reading; tables = s.tables; line = more s.line b })

-- byte after byte
unfoldable pub feed_all : Stream → List ℕ → Stream
feed_all s [] = s
feed_all s (b ∷ bytes) = feed_all (feed s b) bytes

-- what has been read, where a line's first bytes stand in a buffer, and what the frames say in five slices
abbrev pub stream_of : Input → List ℕ → List ℕ → List ℕ → List ℕ → List ℕ → List ℕ → Stream
stream_of input buffer texts specials text words frequencies = record {
  reading = input.reading;
  tables = tables input.stored texts specials text words frequencies;
  line = take input.used buffer;
}

-- before the first byte, with what the slices hold then
abbrev pub begun_with : List ℕ → List ℕ → List ℕ → List ℕ → List ℕ → Stream
begun_with texts specials text words frequencies = record { reading = begun_of; tables = tables nothing texts specials text words frequencies; line = [] }

abbrev pub begun_at : Input
begun_at = record { reading = begun_of; stored = nothing; used = 0 }

-- at the end, a line that has begun has no 0a
unfoldable pub last_of : Input → Input
last_of input = cond (eqb input.used 0) input (record { reading = step_of input.reading None; stored = input.stored; used = 0 })

-- the buffer holds as much of a line as is told of it
pub record Held (input : Input) (buffer : List ℕ) : Type 0 where
  pub size : length buffer ≡ 531
  pub within : input.used ≤ 531

-- all of some input was fed to a stream, and that was its end
pub record ReadFrom (before : Stream) (input : Input) (texts specials text words frequencies : List ℕ) : Type 0 where
  pub bytes : List ℕ
  pub fed : Input
  pub buffer : List ℕ
  pub is : stream_of fed buffer texts specials text words frequencies ≡ feed_all before bytes
  pub ended : input ≡ last_of fed
