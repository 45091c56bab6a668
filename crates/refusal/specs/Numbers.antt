-- The number and the place of each refusal: document 01, "Numbers that say no". The promises of the other crates use these.
-- Assumes nothing.
use Rattle.std.specs.Prelude.{ℕ}
use Rattle.refusal.specs.declared.Refusal.{Refusal}
use Rattle.refusal.specs.declared.Refusal.TheVariants.{BadFrame, BadSetting, BadWord, RepeatedWord, TooHeavy, EmptyCorpus, NoRoom, VocabTooSmall, BadLattice, BadScore, NoPath, PathBroken, BadRemap, BadPiece, RepeatedPiece}

abbrev pub number_of : Refusal → ℕ
number_of (BadFrame line) = 1
number_of (BadSetting setting) = 2
number_of (BadWord word) = 3
number_of (RepeatedWord word) = 4
number_of TooHeavy = 5
number_of EmptyCorpus = 6
number_of (NoRoom room) = 7
number_of (VocabTooSmall needed) = 8
number_of (BadLattice word) = 9
number_of (BadScore id) = 10
number_of NoPath = 11
number_of (PathBroken position) = 12
number_of (BadRemap entry) = 13
number_of (BadPiece id) = 14
number_of (RepeatedPiece id) = 15

abbrev pub place_of : Refusal → ℕ
place_of (BadFrame line) = line
place_of (BadSetting setting) = setting
place_of (BadWord word) = word
place_of (RepeatedWord word) = word
place_of TooHeavy = 0
place_of EmptyCorpus = 0
place_of (NoRoom room) = room
place_of (VocabTooSmall needed) = needed
place_of (BadLattice word) = word
place_of (BadScore id) = id
place_of NoPath = 0
place_of (PathBroken position) = position
place_of (BadRemap entry) = entry
place_of (BadPiece id) = id
place_of (RepeatedPiece id) = id
