-- What the frames say, frame after frame: document 01, "Frames", and NoRoom 5, "the program's word room". Definitions only.
use Rattle.std.specs.Prelude.{ℕ, ◌+◌, ◌*◌, ◌/◌, Bool, true, false, cond, not, ◌&&◌, List, [], ◌∷◌, leb, ltb, length, take, drop, set, Option, None, Some}
use Rattle.std.proofs.lemmas.List.Edits.{sets}
use Rattle.settings.specs.declared.Settings.{Settings}
use Rattle.settings.specs.Settings.{defaults}
use Rattle.frames.specs.declared.input.Frame.{Frame}
use Rattle.frames.specs.declared.input.Frame.TheVariants.{Settings as First, Special, Word, Count}
use Rattle.stored.specs.declared.Run.{Run}
use Rattle.stored.specs.declared.Stored.{Stored}

-- ---- texts, one after the other: how many there are, their bytes, and where each begins and how many bytes it has
pub record Texts : Type 0 where
  pub run : Run
  pub bytes : List ℕ
  pub spans : List ℕ

abbrev pub texts : Run → List ℕ → List ℕ → Texts
texts run bytes spans = record { run = run; bytes = bytes; spans = spans }

-- so many bytes of a frame, from an index on
abbrev pub part : List ℕ → ℕ → ℕ → List ℕ
part bytes from long = take long (drop from bytes)

-- the frame has them, and there is room: for the bytes, for their end in 32 bits, and for the span
abbrev pub fits : Texts → List ℕ → ℕ → ℕ → Bool
fits t bytes from long =
    leb (from + long) (length bytes)
    && (leb (t.run.bytes + long) (length t.bytes) && (leb (t.run.bytes + long) 4294967295 && ltb t.run.count (length t.spans / 2)))

-- a text behind the others
abbrev pub behind : Texts → List ℕ → Texts
behind t text = record {
  run = record { bytes = t.run.bytes + length text; count = t.run.count + 1 };
  bytes = sets t.bytes t.run.bytes text;
  spans = sets t.spans (2 * t.run.count) (t.run.bytes ∷ length text ∷ []);
}

-- ---- all that is stored
pub record Tables : Type 0 where
  pub settings : Settings
  pub specials : Texts
  pub words : Texts
  pub frequencies : List ℕ
  pub short : Bool

abbrev pub tables : Stored → List ℕ → List ℕ → List ℕ → List ℕ → List ℕ → Tables
tables stored bytes specials text words frequencies = record {
  settings = stored.settings;
  specials = texts stored.specials bytes specials;
  words = texts stored.words text words;
  frequencies = frequencies;
  short = stored.short;
}

-- before the first frame
abbrev pub nothing : Stored
nothing = record {
  settings = defaults;
  specials = record { bytes = 0; count = 0 };
  words = record { bytes = 0; count = 0 };
  short = false;
}

-- ---- a frame more
abbrev pub with_settings : Tables → Settings → Tables
with_settings t settings = record { settings = settings; specials = t.specials; words = t.words; frequencies = t.frequencies; short = t.short }

-- a special, if it has room
abbrev pub with_special : Tables → List ℕ → ℕ → ℕ → Tables
with_special t bytes from long =
    cond (fits t.specials bytes from long)
    (record { settings = t.settings; specials = behind t.specials (part bytes from long); words = t.words; frequencies = t.frequencies; short = t.short })
    t

-- a word has room, and all before it had
abbrev pub has_room : Texts → List ℕ → Bool → List ℕ → ℕ → ℕ → Bool
has_room words frequencies short bytes from long = not short && (ltb words.run.count (length frequencies) && fits words bytes from long)

-- a word and its frequency; or from here on none
abbrev pub with_word : Tables → ℕ → List ℕ → ℕ → ℕ → Tables
with_word t frequency bytes from long =
    cond (has_room t.words t.frequencies t.short bytes from long)
    (record {
      settings = t.settings;
      specials = t.specials;
      words = behind t.words (part bytes from long);
      frequencies = set t.frequencies t.words.run.count frequency;
      short = false;
    })
    (record { settings = t.settings; specials = t.specials; words = t.words; frequencies = t.frequencies; short = true })

unfoldable pub store_of : Tables → Option Frame → List ℕ → Tables
store_of t (Some (First settings specials)) bytes = with_settings t settings
store_of t (Some (Special from long)) bytes = with_special t bytes from long
store_of t (Some (Word frequency from long)) bytes = with_word t frequency bytes from long
store_of t (Some (Count count)) bytes = t
store_of t None bytes = t
