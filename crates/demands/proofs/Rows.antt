-- Every refusal of training is a row of the table, at a place that the row has. Assumes nothing.
use mathlib.Core.List.{List}
use Prim.Native.Nat.{ℕ, ◌+◌, ◌-◌, ◌≤◌, ◌<◌}
use native.Mathlib.Omega.{arith}
use Rattle.refusal.specs.declared.Refusal.{Refusal}
use Rattle.refusal.specs.declared.Refusal.TheVariants.{BadFrame, BadSetting, BadWord, RepeatedWord, TooHeavy, EmptyCorpus, NoRoom, VocabTooSmall, BadLattice, BadScore, NoPath, PathBroken, BadRemap, BadPiece, RepeatedPiece}
use Rattle.refusal.specs.Numbers.{number_of}
use Rattle.settings.specs.Check as settings
use Rattle.settings.specs.Check.{bad_vocab, bad_seed, bad_length, bad_em, bad_specials}
use Rattle.corpus.specs.Check as words
use Rattle.corpus.specs.Check.{bad_word, repeated, too_heavy, empty}
use Rattle.listing.specs.Start as start
use Rattle.listing.specs.Start.{bad_settings, no_room, bad_words, bad, no_slots}
use Rattle.fresh.specs.Build as fresh
use Rattle.model.specs.Model.{Model, Task}
use Rattle.begun.specs.First.{Unlaid, no_trie, no_cache}
use Rattle.make.specs.Make.{Results, Late, too_small, unlaid, no_results}
use Rattle.training.specs.Train.{Work, seeding_work, Why, early, later}
use Rattle.demands.specs.Demands.{InTable}

module _ (x : start.Lent) where
  settings_row : {r : Refusal} → settings.Why x.settings x.texts x.specials r → InTable x r
  settings_row (bad_vocab n) = (omega arith, omega arith)
  settings_row (bad_seed a n) = (omega arith, omega arith)
  settings_row (bad_length a b n) = (omega arith, omega arith)
  settings_row (bad_em a b c n) = (omega arith, omega arith)
  settings_row (bad_specials a b c d n) = (omega arith, omega arith)

  words_row : {r : Refusal} → words.Why x.text x.words x.frequencies r → InTable x r
  words_row (bad_word f) = f.within
  words_row (repeated g l) = l.within
  words_row (too_heavy g o n) = tt
  words_row (empty g o l n) = tt

  bad_row : {R : Type 0} {r : Refusal} → start.Bad x R r → InTable x r
  bad_row (bad_settings a) = settings_row a
  bad_row (no_room a n) = omega arith
  bad_row (bad_words a n w) = words_row w

  start_row : {w : start.Work} {r : Refusal} → start.Why x w r → InTable x r
  start_row (bad b) = bad_row b
  start_row (no_slots f n) = omega arith

  unlaid_row : {t : Task} {m : Model} {keys ends : List ℕ} {z : fresh.Results} {r : Refusal} → Unlaid t m keys ends z r → InTable x r
  unlaid_row (no_trie n) = omega arith
  unlaid_row (no_cache h n) = omega arith

  -- target is `vocab_size` less specials
  needed : (vocab specials required : ℕ) → vocab - specials < required → vocab < required + specials
  needed vocab specials required l = omega arith

  late_row : {keys ends : List ℕ} {z : fresh.Results} {y : Results} {pieces : List (List ℕ)} {required : ℕ} {r : Refusal} → Late x keys ends z y pieces required r → InTable x r
  late_row {required = required} (too_small l) = needed x.settings.vocab_size _ required l
  late_row (unlaid h u) = unlaid_row u
  late_row (no_results h t c n) = omega arith

  pub row : {w : Work} {y : Results} {r : Refusal} → Why x w y r → InTable x r
  row {w} (early a) = start_row {w = seeding_work w} a
  row (later a) = late_row a.late

-- the numbers of these rows
pub row_number : (x : start.Lent) (r : Refusal) → InTable x r → (2 ≤ number_of r) × (number_of r ≤ 8)
row_number x (BadSetting place) h = (omega arith, omega arith)
row_number x (BadWord word) h = (omega arith, omega arith)
row_number x (RepeatedWord word) h = (omega arith, omega arith)
row_number x TooHeavy h = (omega arith, omega arith)
row_number x EmptyCorpus h = (omega arith, omega arith)
row_number x (NoRoom room) h = (omega arith, omega arith)
row_number x (VocabTooSmall needed) h = (omega arith, omega arith)
row_number x (BadFrame line) h = absurd h
row_number x (BadLattice word) h = absurd h
row_number x (BadScore id) h = absurd h
row_number x NoPath h = absurd h
row_number x (PathBroken position) h = absurd h
row_number x (BadRemap entry) h = absurd h
row_number x (BadPiece id) h = absurd h
row_number x (RepeatedPiece id) h = absurd h
