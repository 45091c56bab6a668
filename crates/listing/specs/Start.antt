-- What training is lent, when it is refused before 8, and its seed list: document 01's table, rows 2 to 7, and port order 8.
-- Definitions only.
use Rattle.std.specs.Prelude.{List, ℕ, ◌*◌, ◌/◌, ◌≤◌, min, length, take, Float, Result, Ok, Err}
use Rattle.refusal.specs.declared.Refusal.{Refusal}
use Rattle.refusal.specs.declared.Refusal.TheVariants.{NoRoom}
use Rattle.spans.specs.Spans.{many}
use Rattle.positions.specs.Gathered.{bytes_before}
use Rattle.settings.specs.declared.Settings.{Settings}
use Rattle.settings.specs.Settings.{target_of, pool_of}
use Rattle.settings.specs.Check.{InBounds, Why as BadSettings}
use Rattle.corpus.specs.Check.{InOrder, Why as BadWords}
use Rattle.corpus.specs.Kept.{corpus_of, Kept}
use Rattle.ranking.specs.Corpus.{Corpus}
use Rattle.seed.specs.Seed.{slots_of, Lists as SeedLists, Exceeds}
use Rattle.listing.specs.declared.Lent.{Lent as Slices}
use Rattle.listing.specs.declared.Seeded.{Seeded}

-- a word has two numbers and a frequency; the shorter list counts
abbrev pub count_of : List ℕ → List ℕ → ℕ
count_of words frequencies = min (many words) (length frequencies)

-- what is lent to read, with as many frequencies as words
pub record Lent : Type 0 where
  pub settings : Settings
  pub texts : List ℕ
  pub specials : List ℕ
  pub text : List ℕ
  pub words : List ℕ
  pub frequencies : List ℕ

-- the lists that its slices are
abbrev pub lists_of : Slices → Lent
lists_of x = record { settings = x.settings; texts = x.texts.now; specials = x.specials.now; text = x.text.now; words = x.words.now; frequencies = x.frequencies.now }

-- the same with as many words as frequencies
abbrev pub paired_of : Lent → Lent
paired_of x =
    record {
      settings = x.settings;
      texts = x.texts;
      specials = x.specials;
      text = x.text;
      words = take (2 * (count_of x.words x.frequencies)) x.words;
      frequencies = take (count_of x.words x.frequencies) x.frequencies;
    }

-- what is lent to write in, and what is read of it later
pub record Work : Type 0 where
  pub kept : List ℕ
  pub counts : List ℕ
  pub chars : List ℕ
  pub places : List ℕ
  pub order : List ℕ
  pub work : List ℕ
  pub ranks : List ℕ
  pub pieces : List ℕ
  pub tallies : List ℕ
  pub scores : List Float
  pub table : List ℕ

pub record Left : Type 0 where
  pub kept : List ℕ
  pub counts : List ℕ
  pub pieces : List ℕ
  pub tallies : List ℕ
  pub scores : List Float

-- ---- room: "word count .. or text over the bounds". Slots for each word, and for each position
abbrev pub positions_of : List ℕ → List ℕ → List ℕ → List ℕ → List ℕ → ℕ
positions_of chars places order work ranks = min (length chars) (min (length places / 3) (min (length order) (min (length work) (length ranks))))

pub record Bounded (text words kept counts table : List ℕ) (room : ℕ) : Type 0 where
  pub few_words : many words ≤ 16384
  pub kept_room : 2 * many words ≤ length kept
  pub counts_room : many words ≤ length counts
  pub table_room : 2 * many words ≤ length table
  pub short_text : length text ≤ 1048576
  pub text_room : length text ≤ room
  pub words_room : bytes_before words (many words) ≤ room

abbrev pub Room : Lent → Work → Type 0
Room x w = Bounded x.text x.words w.kept w.counts w.table (positions_of w.chars w.places w.order w.work w.ranks)

-- ---- the list is of the words that are UTF-8
abbrev pub corpus : Lent → Corpus
corpus x = corpus_of x.text x.words x.frequencies

-- "Pool is the larger of target and `seed_size` (or 16 times target)"
abbrev pub pool : Lent → ℕ
pool x = pool_of x.settings (target_of x.settings (many x.specials))

-- "the piece slots (the shortest per-piece slice)"
abbrev pub slots : Work → ℕ
slots w = slots_of w.pieces w.tallies w.scores w.order w.work w.ranks

-- ---- 2, then 7 at 0, then 3, 4, 5 and 6
pub data Bad (x : Lent) (Room : Type 0) : Refusal → Type 0 where
  bad_settings : {refusal : Refusal} → BadSettings x.settings x.texts x.specials refusal → Bad x Room refusal
  no_room : InBounds x.settings x.texts x.specials → (Room → ⊥) → Bad x Room (NoRoom 0)
  bad_words : {refusal : Refusal} → InBounds x.settings x.texts x.specials → Room → BadWords x.text x.words x.frequencies refusal → Bad x Room refusal

pub record Fit (x : Lent) (Room : Type 0) : Type 0 where
  pub settings_fit : InBounds x.settings x.texts x.specials
  pub room : Room
  pub words_fit : InOrder x.text x.words x.frequencies

abbrev pub Checks : Lent → Type 0 → Result (Unit {0}) Refusal → Type 0
Checks x Room (Ok _) = Fit x Room
Checks x Room (Err refusal) = Bad x Room refusal

-- ---- then 7 at 1
pub data Why (x : Lent) (w : Work) : Refusal → Type 0 where
  bad : {refusal : Refusal} → Bad x (Room x w) refusal → Why x w refusal
  no_slots : Fit x (Room x w) → Exceeds (corpus x) x.settings.max_piece_chars x.settings.min_frequency (slots w) → Why x w (NoRoom 1)

-- ---- or the words that are UTF-8, and their list
pub record Given (x : Lent) (w : Work) (y : Left) (words pieces required : ℕ) : Type 0 where
  pub fit : Fit x (Room x w)
  pub words_are : Kept x.text x.words x.frequencies (many x.words) w.kept w.counts y.kept y.counts words
  pub list : SeedLists x.text (corpus x) x.settings.max_piece_chars x.settings.min_frequency (pool x) (slots w) y.pieces y.tallies y.scores required pieces

abbrev pub Answers : Lent → Work → Left → Result Seeded Refusal → Type 0
Answers x w y (Ok seeded) = Given x w y seeded.words seeded.pieces seeded.required
Answers x w y (Err refusal) = Why x w refusal
