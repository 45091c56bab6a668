-- How plain numbers say the settings of a seed list, and what a call tells in C: how many words are UTF-8, how many pieces there
-- are, how many of them are required, else the refusal's place. Definitions only.
use Rattle.std.specs.Prelude.{List, ℕ, Result}
use Rattle.settings.specs.declared.Settings.{Settings}
use Rattle.settings.specs.Settings.{defaults}
use Rattle.refusal.specs.declared.Refusal.{Refusal}
use Rattle.listing.specs.declared.Seeded.{Seeded}
use Rattle.told.specs.Told as told

-- the settings that say something of the seed list, and EM, which has a bound; the shrink factor is the default
abbrev pub settings_of : ℕ → ℕ → ℕ → ℕ → ℕ → ℕ → Settings
settings_of vocab-size flag seed max-piece-chars min-frequency em-iterations =
    told.settings_of vocab-size flag seed max-piece-chars min-frequency defaults.shrink_factor em-iterations

abbrev pub started_told : Result Seeded Refusal → List ℕ → List ℕ
started_told = told.told_of (λ seeded. told.three (seeded.words, seeded.pieces, seeded.required))
