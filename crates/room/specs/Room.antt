-- The program's room: document 01, "room for 256 words, 8,192 word bytes, 1,024 pieces, 4,096 nodes, 8,192 edges, 8,704 offsets".
-- Definitions only.
use Rattle.std.specs.Prelude.{◌≡◌, Bool, true, false, List, ℕ, ◌*◌, take, replicate, Result, Ok, Err}
use Rattle.std.specs.Float.{binary64}
use Rattle.std.specs.Float.Ieee.{of_bits}
use Rattle.settings.specs.declared.Settings.{Settings}
use Rattle.listing.specs.Start.{Lent, paired_of}
use Rattle.stored.specs.Stored.{Tables}
use Rattle.refusal.specs.declared.Refusal.TheVariants.{BadFrame, NoRoom}
use Rattle.refusal.specs.declared.Refusal.{Refusal}
use Rattle.make.specs.Make.{Results}
use Rattle.make.specs.declared.Trained.{Trained}
use Rattle.training.specs.Train.{Work, Answers}

-- the slices of training, all zeros: two numbers for the span of a word and of a piece, four for a word's place in the cache, three
-- for a position in the text, and two places of the trie for a node
abbrev pub rooms : Work
rooms = record {
  kept = replicate 512 0;
  counts = replicate 256 0;
  table = replicate 512 0;
  chars = replicate 8192 0;
  places = replicate 24576 0;
  order = replicate 8192 0;
  work = replicate 8192 0;
  ranks = replicate 8192 0;
  pieces = replicate 2048 0;
  tallies = replicate 1024 0;
  scores = replicate 1024 (of_bits binary64 0);
  expected = replicate 1024 (of_bits binary64 0);
  keys = replicate 8192 0;
  ends = replicate 8192 0;
  offsets = replicate 8704 0;
  starts = replicate 8192 0;
  ids = replicate 8192 0;
  spans = replicate 1024 0;
}

-- what training is asked: a word has a span and a frequency
abbrev pub asked : Settings → List ℕ → List ℕ → List ℕ → List ℕ → List ℕ → Lent
asked settings texts specials text words frequencies =
    paired_of (record { settings = settings; texts = texts; specials = specials; text = text; words = words; frequencies = frequencies })

-- what was stored, and no more: the part of each slice that was filled
abbrev pub lent_by : Tables → Lent
lent_by t =
    asked t.settings
    (take t.specials.run.bytes t.specials.bytes) (take (2 * t.specials.run.count) t.specials.spans)
    (take t.words.run.bytes t.words.bytes) (take (2 * t.words.run.count) t.words.spans)
    (take t.words.run.count t.frequencies)

-- ---- what is answered, of an input that is whole: NoRoom 5 where a word had no room, else training's answer
abbrev pub Whether : Bool → Tables → Results → Results → Result Trained Refusal → Type 0
Whether true t y y' r = (r ≡ Err (NoRoom 5)) × (y' ≡ y)
Whether false t y y' r = Answers (lent_by t) rooms y y' r

-- and BadFrame at a broken line, before all else. "A refusal changes no result slice"
abbrev pub Replies : Result (Unit {0}) ℕ → Tables → Results → Results → Result Trained Refusal → Type 0
Replies (Err line) t y y' r = (r ≡ Err (BadFrame line)) × (y' ≡ y)
Replies (Ok _) t y y' r = Whether t.short t y y' r
