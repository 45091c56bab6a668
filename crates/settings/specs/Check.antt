-- Which settings are refused: document 01's table, row 2, "a setting beyond its bound", with "1 vocab, 2 seed, 3 piece length,
-- 4 EM, 5 specials", the lowest place first. The bounds are those of "Numbers that bound the work". Definitions only.
use Rattle.std.specs.Prelude.{List, ℕ, ◌≤◌, Option, Some, None, Result, Ok, Err}
use Rattle.refusal.specs.declared.Refusal.{Refusal}
use Rattle.refusal.specs.declared.Refusal.TheVariants.{BadSetting}
use Rattle.spans.specs.Spans.{many}
use Rattle.spans.specs.Check.{AllGood}
use Rattle.settings.specs.declared.Settings.{Settings}

-- "`vocab_size` ≤ 65,536"
abbrev pub VocabWithin : Settings → Type 0
VocabWithin settings = settings.vocab_size ≤ 65536

-- "`seed_size`, if set, ≤ 1,048,576"
abbrev pub SeedWithin : Option ℕ → Type 0
SeedWithin (Some size) = size ≤ 1048576
SeedWithin None = Unit {0}

-- "Piece length setting at most 32 characters."
abbrev pub LengthWithin : Settings → Type 0
LengthWithin settings = settings.max_piece_chars ≤ 32

-- "`em_iterations` ≤ 100"
abbrev pub EmWithin : Settings → Type 0
EmWithin settings = settings.em_iterations ≤ 100

-- "at most 256 specials, each UTF-8 of at most 255 bytes, repeats allowed"; and each lies inside its text
pub record SpecialsWithin (texts specials : List ℕ) : Type 0 where
  pub few : many specials ≤ 256
  pub good : AllGood texts specials 255 (many specials)

-- all are within their bounds; "`shrink_factor` is any f64, `min_frequency` any u64"
pub record InBounds (settings : Settings) (texts specials : List ℕ) : Type 0 where
  pub vocab_within : VocabWithin settings
  pub seed_within : SeedWithin settings.seed_size
  pub length_within : LengthWithin settings
  pub em_within : EmWithin settings
  pub specials_within : SpecialsWithin texts specials

-- or one is not: the first is given
pub data Why (settings : Settings) (texts specials : List ℕ) : Refusal → Type 0 where
  bad_vocab : (VocabWithin settings → ⊥) → Why settings texts specials (BadSetting 1)
  bad_seed : VocabWithin settings → (SeedWithin settings.seed_size → ⊥) → Why settings texts specials (BadSetting 2)
  bad_length : VocabWithin settings → SeedWithin settings.seed_size → (LengthWithin settings → ⊥)
      → Why settings texts specials (BadSetting 3)
  bad_em : VocabWithin settings → SeedWithin settings.seed_size → LengthWithin settings → (EmWithin settings → ⊥)
      → Why settings texts specials (BadSetting 4)
  bad_specials : VocabWithin settings → SeedWithin settings.seed_size → LengthWithin settings → EmWithin settings
      → (SpecialsWithin texts specials → ⊥) → Why settings texts specials (BadSetting 5)

abbrev pub Answers : Settings → List ℕ → List ℕ → Result (Unit {0}) Refusal → Type 0
Answers settings texts specials (Ok _) = InBounds settings texts specials
Answers settings texts specials (Err refusal) = Why settings texts specials refusal
