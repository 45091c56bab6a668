-- What the steps ask and promise. Definitions only.
use Rattle.std.specs.Prelude.{◌≡◌, Result, Ok, Err, List, ℕ, ◌≤◌, ltb, Float}
use Rattle.refusal.specs.declared.Refusal.{Refusal}
use Rattle.refusal.specs.declared.Refusal.TheVariants.{NoRoom}
use Rattle.settings.specs.declared.Settings.{Settings}
use Rattle.listing.specs.Start as start
use Rattle.fresh.specs.Build as fresh
use Rattle.begun.specs.First.{seed_texts}
use Rattle.begun.specs.Here.{Here, lent_of}
use Rattle.tokens.specs.Tokens as tokens
use Rattle.make.specs.Make.{Results, Late, Made}
use Rattle.make.specs.declared.Trained.{Trained}

-- ---- the results of pieces in exact slices
abbrev pub Concludes : List (List ℕ) → List Float → ℕ → ℕ → ℕ → Results → Results → Result Trained Refusal → Type 0
Concludes list scores pieces target required y y' (Ok r) =
    tokens.Filled list scores y.bytes y.tokens y.scores y'.bytes y'.tokens y'.scores r.tokens × (r.required ≡ required) × (r.stalled ≡ ltb target pieces)
Concludes list scores pieces target required y y' (Err refusal) = (refusal ≡ NoRoom 4) × (tokens.Room list y.bytes y.tokens y.scores → ⊥) × (y' ≡ y)

-- ---- from the seed list to the tokens
pub record Making (settings : Settings) (texts specials text kept counts : List ℕ) (words count required order work ranks : ℕ) (pieces : List ℕ) (scores : List Float) (expected : ℕ) : Type 0 where
  pub here : Here settings texts specials text kept counts words count required pieces scores
  pub in_order : count ≤ order
  pub in_work : count ≤ work
  pub in_ranks : count ≤ ranks
  pub in_expected : count ≤ expected

abbrev pub MakesTo : start.Lent → List (List ℕ) → ℕ → List ℕ → List ℕ → fresh.Results → Results → Results → Result Trained Refusal → Type 0
MakesTo x pieces required keys ends z y y' (Ok r) = (r.required ≡ required) × Made x keys ends z y y' pieces required r.tokens r.stalled
MakesTo x pieces required keys ends z y y' (Err refusal) = Late x keys ends z y pieces required refusal × (y' ≡ y)

abbrev pub Makes : Settings → List ℕ → List ℕ → List ℕ → List ℕ → List ℕ → ℕ → ℕ → ℕ → List ℕ → List Float → List ℕ → List ℕ → fresh.Results → Results → Results → Result Trained Refusal → Type 0
Makes settings texts specials text kept counts words count required pieces scores keys ends z y y' r =
    (h : Here settings texts specials text kept counts words count required pieces scores) → MakesTo (lent_of h) (seed_texts text pieces count) required keys ends z y y' r
