-- What lines say: the words of their 03s, with their frequencies, and the specials of their 02s. Definitions only.
use Rattle.std.specs.Prelude.{◌≡◌, List, [], ◌∷◌, ◌++◌, ℕ, ◌/◌, ◌≤◌, length, Option, None, Some}
use Rattle.std.proofs.lemmas.List.Edits.{sets}
use Rattle.lattice.specs.Layout.{joined}
use Rattle.copied.specs.Put.{PutsAll}
use Rattle.frames.specs.declared.input.Frame.{Frame}
use Rattle.frames.specs.declared.input.Frame.TheVariants.{Settings as First, Special, Word, Count}
use Rattle.stored.specs.Stored.{Texts, part}
use Rattle.lines.specs.Lines.{line_bytes, line_frame}

-- ---- of one line's frame, if it is one
abbrev pub word_of : Option Frame → List ℕ → List (List ℕ)
word_of (Some (First settings specials)) bytes = []
word_of (Some (Special from long)) bytes = []
word_of (Some (Word frequency from long)) bytes = part bytes from long ∷ []
word_of (Some (Count count)) bytes = []
word_of None bytes = []

abbrev pub frequency_of : Option Frame → List ℕ
frequency_of (Some (First settings specials)) = []
frequency_of (Some (Special from long)) = []
frequency_of (Some (Word frequency from long)) = frequency ∷ []
frequency_of (Some (Count count)) = []
frequency_of None = []

abbrev pub special_of : Option Frame → List ℕ → List (List ℕ)
special_of (Some (First settings specials)) bytes = []
special_of (Some (Special from long)) bytes = part bytes from long ∷ []
special_of (Some (Word frequency from long)) bytes = []
special_of (Some (Count count)) bytes = []
special_of None bytes = []

-- ---- of lines, in order
abbrev pub words_in : List (List ℕ) → List (List ℕ)
words_in [] = []
words_in (line ∷ lines) = word_of (line_frame line) (line_bytes line) ++ words_in lines

abbrev pub frequencies_in : List (List ℕ) → List ℕ
frequencies_in [] = []
frequencies_in (line ∷ lines) = frequency_of (line_frame line) ++ frequencies_in lines

abbrev pub specials_in : List (List ℕ) → List (List ℕ)
specials_in [] = []
specials_in (line ∷ lines) = special_of (line_frame line) (line_bytes line) ++ specials_in lines

-- ---- texts have room in slices: for their bytes, whose places are numbers of 32 bits, and for a span each
pub record Room (list : List (List ℕ)) (bytes spans : List ℕ) : Type 0 where
  pub bytes_fit : length (joined list) ≤ length bytes
  pub narrow : length (joined list) ≤ 4294967295
  pub spans_fit : length list ≤ length spans / 2

-- texts stand in slices, one after the other from slot 0 on; what stands behind them is as it was
pub record Stand (list : List (List ℕ)) (bytes spans : List ℕ) (t : Texts) : Type 0 where
  pub put : PutsAll list bytes spans 0 0 t.bytes t.spans t.run.bytes
  pub count : t.run.count ≡ length list

-- words have room, each with a frequency
pub record WordRoom (words : List (List ℕ)) (text spans frequencies : List ℕ) : Type 0 where
  pub room : Room words text spans
  pub frequencies_fit : length words ≤ length frequencies

-- and so they stand
pub record Words (words : List (List ℕ)) (counts text spans frequencies : List ℕ) (held : Texts) (frequencies' : List ℕ) : Type 0 where
  pub room : WordRoom words text spans frequencies
  pub each : length counts ≡ length words
  pub stand : Stand words text spans held
  pub frequencies_are : frequencies' ≡ sets frequencies 0 counts
