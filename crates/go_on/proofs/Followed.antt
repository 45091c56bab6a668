-- What follows a start that was matched. Assumes nothing.
use mathlib.Core.Path.{◌≡◌, refl, sym, subst}
use mathlib.Core.List.{List}
use Prim.Native.Nat.{ℕ}
use lib.Ieee.{Float}
use Rattle.refusal.specs.declared.Refusal.{Refusal}
use Rattle.settings.specs.declared.Settings.{Settings}
use Rattle.std.specs.Prelude.{Result, Ok, Err}
use Rattle.listing.specs.declared.Seeded.{Seeded}
use Rattle.fresh.specs.Build as fresh
use Rattle.make.specs.Make.{Results}
use Rattle.make.specs.Steps.{Makes}
use Rattle.make.specs.declared.Trained.{Trained}
use Rattle.go_on.specs.Steps.{Follows}

module _ (settings : Settings) (texts specials text kept counts pieces : List ℕ) (scores : List Float) (started : Result Seeded Refusal) where
  pub made : (seeded : Seeded) → started ≡ Ok seeded → (keys ends : List ℕ) (z : fresh.Results) (y y' : Results) (r : Result Trained Refusal)
      → Makes settings texts specials text kept counts seeded.words seeded.pieces seeded.required pieces scores keys ends z y y' r
      → Follows settings texts specials text kept counts pieces scores started keys ends z y y' r
  made seeded q keys ends z y y' r m =
      subst (λ (s : Result Seeded Refusal). Follows settings texts specials text kept counts pieces scores s keys ends z y y' r) (sym q) m

  pub not_made : (refusal : Refusal) → started ≡ Err refusal → (keys ends : List ℕ) (z : fresh.Results) (y : Results)
      → Follows settings texts specials text kept counts pieces scores started keys ends z y y (Err refusal)
  not_made refusal q keys ends z y =
      subst (λ (s : Result Seeded Refusal). Follows settings texts specials text kept counts pieces scores s keys ends z y y (Err refusal)) (sym q) (refl, refl)
