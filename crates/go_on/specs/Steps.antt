-- What `go_on` asks and promises: of a seed list, what `make` does; of a refusal, that it is the answer. Definitions only.
use Rattle.std.specs.Prelude.{◌≡◌, Result, Ok, Err, List, ℕ, Float}
use Rattle.refusal.specs.declared.Refusal.{Refusal}
use Rattle.settings.specs.declared.Settings.{Settings}
use Rattle.listing.specs.declared.Seeded.{Seeded}
use Rattle.fresh.specs.Build as fresh
use Rattle.make.specs.Make.{Results}
use Rattle.make.specs.Steps.{Making, Makes}
use Rattle.make.specs.declared.Trained.{Trained}

-- where there is a seed list, the slices are such as `make` asks for
abbrev pub Ready : Settings → List ℕ → List ℕ → List ℕ → List ℕ → List ℕ → ℕ → ℕ → ℕ → List ℕ → List Float → ℕ → Result Seeded Refusal → Type 0
Ready settings texts specials text kept counts order work ranks pieces scores expected started =
    (seeded : Seeded) → started ≡ Ok seeded
    → Making settings texts specials text kept counts seeded.words seeded.pieces seeded.required order work ranks pieces scores expected

-- "A refusal changes no result slice"
abbrev pub Follows : Settings → List ℕ → List ℕ → List ℕ → List ℕ → List ℕ → List ℕ → List Float → Result Seeded Refusal → List ℕ → List ℕ → fresh.Results → Results → Results → Result Trained Refusal → Type 0
Follows settings texts specials text kept counts pieces scores (Err refusal) keys ends z y y' r = (r ≡ Err refusal) × (y' ≡ y)
Follows settings texts specials text kept counts pieces scores (Ok seeded) keys ends z y y' r =
    Makes settings texts specials text kept counts seeded.words seeded.pieces seeded.required pieces scores keys ends z y y' r
