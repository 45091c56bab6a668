-- What `finish` asks and promises. Definitions only.
use Rattle.std.specs.Prelude.{◌≡◌, Result, Ok, Err, false, List, ℕ, ◌≤◌, length, pos, Float}
use Rattle.std.specs.Float.{fin}
use Rattle.refusal.specs.declared.Refusal.{Refusal}
use Rattle.settings.specs.declared.Settings.{Settings}
use Rattle.listing.specs.Start as start
use Rattle.listing.specs.declared.Seeded.{Seeded}
use Rattle.fresh.specs.Build as fresh
use Rattle.begun.specs.First.{seed_texts}
use Rattle.begun.specs.Here.{Begun}
use Rattle.make.specs.Make.{Results}
use Rattle.make.specs.Steps.{MakesTo}
use Rattle.make.specs.declared.Trained.{Trained}

-- +0
abbrev pub nought : Float
nought = fin false 0 (pos 0)

-- ---- what follows a start, if there is a seed list
-- per-piece slices are as long as when the seed was made, whatever stands in them
pub record GoingOn (settings : Settings) (texts specials text kept counts : List ℕ) (order work ranks : ℕ) (pieces : List ℕ) (scores : List Float) (expected : ℕ) (started : Result Seeded Refusal) : Type 0 where
  pub lent_words : List ℕ
  pub lent_frequencies : List ℕ
  pub seed_work : start.Work
  pub begun : Begun (record { settings = settings; texts = texts; specials = specials; text = text; words = lent_words; frequencies = lent_frequencies }) seed_work kept counts pieces scores started
  pub order_long : order ≡ length seed_work.order
  pub work_long : work ≡ length seed_work.work
  pub ranks_long : ranks ≡ length seed_work.ranks
  pub expected_long : length seed_work.scores ≤ expected

abbrev pub GoesTo : start.Lent → start.Work → List ℕ → List ℕ → List ℕ → fresh.Results → Results → Results → Result Seeded Refusal → Result Trained Refusal → Type 0
GoesTo x w pieces keys ends z y y' (Err refusal) r = (r ≡ Err refusal) × (y' ≡ y)
GoesTo x w pieces keys ends z y y' (Ok seeded) r = MakesTo x (seed_texts x.text pieces seeded.pieces) seeded.required keys ends z y y' r

abbrev pub GoesOn : Settings → List ℕ → List ℕ → List ℕ → List ℕ → List ℕ → List ℕ → List Float → Result Seeded Refusal → List ℕ → List ℕ → fresh.Results → Results → Results → Result Trained Refusal → Type 0
GoesOn settings texts specials text kept counts pieces scores started keys ends z y y' r =
    (lent_words lent_frequencies : List ℕ) (w : start.Work)
    → Begun (record { settings = settings; texts = texts; specials = specials; text = text; words = lent_words; frequencies = lent_frequencies }) w kept counts pieces scores started
    → GoesTo (record { settings = settings; texts = texts; specials = specials; text = text; words = lent_words; frequencies = lent_frequencies }) w pieces keys ends z y y' started r
