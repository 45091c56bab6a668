-- How plain numbers say the settings, and what a call answers and tells in C: 0 where it was accepted, else the refusal's number;
-- what an accepted call gives, else the refusal's place. Definitions only.
use Rattle.std.specs.Prelude.{List, ℕ, zero, suc, set, Float, Option, Some, None, Result, Ok, Err}
use Rattle.refusal.specs.Numbers.{number_of, place_of}
use Rattle.refusal.specs.declared.Refusal.{Refusal}
use Rattle.settings.specs.declared.Settings.{Settings}

-- "`seed_size`, if set": a flag of 0 says that it is not
abbrev pub seed_size_of : ℕ → ℕ → Option ℕ
seed_size_of zero seed = None
seed_size_of (suc flag) seed = Some seed

abbrev pub settings_of : ℕ → ℕ → ℕ → ℕ → ℕ → Float → ℕ → Settings
settings_of vocab-size flag seed max-piece-chars min-frequency shrink-factor em-iterations = record {
  vocab_size = vocab-size;
  seed_size = seed_size_of flag seed;
  max_piece_chars = max-piece-chars;
  min_frequency = min-frequency;
  shrink_factor = shrink-factor;
  em_iterations = em-iterations;
}

abbrev pub answer_number : {A : Type 0} → Result A Refusal → ℕ
answer_number (Ok given) = 0
answer_number (Err refusal) = number_of refusal

-- `accepted` says what an accepted call tells, of what it gives
abbrev pub told_of : {A : Type 0} → (A → List ℕ → List ℕ) → Result A Refusal → List ℕ → List ℕ
told_of accepted (Ok given) told = accepted given told
told_of accepted (Err refusal) told = set told 0 (place_of refusal)

-- three numbers, in the first slots
abbrev pub three : ℕ × ℕ × ℕ → List ℕ → List ℕ
three (first, second, third) told = set (set (set told 0 first) 1 second) 2 third
