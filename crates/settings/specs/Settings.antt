-- What the settings are by default, and how many pieces they ask for. Definitions only.
use Rattle.std.specs.Prelude.{ℕ, ◌*◌, ◌-◌, min, max, Option, Some, None}
use Rattle.std.specs.Float.{binary64}
use Rattle.std.specs.Float.Ieee.{of_bits}
use Rattle.settings.specs.declared.Settings.{Settings}

-- "8,000; unset; 16; 2; 0.75; 2"; the bits of 0.75 are 3fe8000000000000
abbrev pub defaults : Settings
defaults = record {
  vocab_size = 8000;
  seed_size = None;
  max_piece_chars = 16;
  min_frequency = 2;
  shrink_factor = of_bits binary64 4604930618986332160;
  em_iterations = 2;
}

-- "`vocab_size` less specials, not below 0": a difference of ℕ is not
abbrev pub target_of : Settings → ℕ → ℕ
target_of settings specials = settings.vocab_size - specials

-- "`seed_size` (or 16 times target)"; 001 stops at the largest usize, which no target of checked settings comes near
abbrev pub seed_of : Option ℕ → ℕ → ℕ
seed_of (Some size) target = size
seed_of None target = min (16 * target) 18446744073709551615

-- "the larger of target and `seed_size` (or 16 times target)"
abbrev pub pool_of : Settings → ℕ → ℕ
pool_of settings target = max target (seed_of settings.seed_size target)
