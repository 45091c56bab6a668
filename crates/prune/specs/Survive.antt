-- Who survives, in document 01's words: "Costliest survive, lower id on ties, the required prefix always." Definitions only.
-- proofs/Theorems.antt has it that the remap's survivors are these, and that no others are.
use Rattle.std.specs.Prelude.{◌≡◌, Bool, true, false, List, [], ◌∷◌, ◌⊎◌, ℕ, suc, ◌≤◌, ◌<◌, length, get_or}
use Rattle.prune.specs.Prune.{loss, kept}

-- a piece lives, or is gone
abbrev pub Lives : List Bool → ℕ → Type 0
Lives lives id = get_or lives id false ≡ true

abbrev pub Gone : List Bool → ℕ → Type 0
Gone lives id = (id < length lives) × (get_or lives id false ≡ false)

-- how many live
abbrev pub living : List Bool → ℕ
living [] = 0
living (true ∷ l) = suc (living l)
living (false ∷ l) = living l

-- i costs more than j, or as much and has the lower id
abbrev pub Ahead : List ℕ → ℕ → ℕ → Type 0
Ahead losses i j = (loss losses j < loss losses i) ⊎ ((loss losses j ≡ loss losses i) × (i < j))

pub record Survive (losses : List ℕ) (required keep : ℕ) (lives : List Bool) : Type 0 where
  -- an answer for each piece
  pub each : length lives ≡ length losses
  -- "the required prefix always"
  pub prefix : (id : ℕ) → id < required → Lives lives id
  -- `keep` of them; or those required, where they are more; or all, where there are fewer
  pub many : living lives ≡ kept required keep (length losses)
  -- "Costliest survive, lower id on ties", of those not required
  pub costliest : (i j : ℕ) → required ≤ i → Lives lives i → Gone lives j → Ahead losses i j
