-- What `shape` asks and promises. Definitions only.
use Rattle.std.specs.Prelude.{◌≡◌, Result, Ok, Err, List, ℕ, ◌≤◌, Float}
use Rattle.refusal.specs.declared.Refusal.{Refusal}
use Rattle.settings.specs.declared.Settings.{Settings}
use Rattle.listing.specs.Start as start
use Rattle.fresh.specs.Build as fresh
use Rattle.model.specs.Model.{Model, Task, lattices, trained}
use Rattle.rounds.specs.Steps.{Left}
use Rattle.begun.specs.First.{first_model, target_in, task_of, seed_texts, TrieFits, Unlaid}
use Rattle.begun.specs.Here.{Here, lent_of}

pub record Shaping (settings : Settings) (target : ℕ) (text kept counts : List ℕ) (words count required order work ranks : ℕ) (pieces : List ℕ) (scores : List Float) (expected : ℕ) : Type 0 where
  pub texts : List ℕ
  pub specials : List ℕ
  pub here : Here settings texts specials text kept counts words count required pieces scores
  pub target_is : target ≡ target_in (lent_of here)
  pub asked : required ≤ target
  pub in_order : count ≤ order
  pub in_work : count ≤ work
  pub in_ranks : count ≤ ranks
  pub in_expected : count ≤ expected

abbrev pub ShapesTo : Task → Model → List ℕ → List ℕ → List ℕ → fresh.Results → List ℕ → List Float → Result ℕ Refusal → Type 0
ShapesTo t m text keys ends z pieces' scores' (Ok left) = TrieFits m.pieces keys ends × fresh.CacheRoom (lattices t m) z × Left text (trained t m) pieces' scores' left
ShapesTo t m text keys ends z pieces' scores' (Err refusal) = Unlaid t m keys ends z refusal

abbrev pub Shapes : Settings → ℕ → List ℕ → List ℕ → List ℕ → ℕ → ℕ → ℕ → List ℕ → List Float → List ℕ → List ℕ → fresh.Results → List ℕ → List Float → Result ℕ Refusal → Type 0
Shapes settings target text kept counts words count required pieces scores keys ends z pieces' scores' r =
    (texts specials : List ℕ) (h : Here settings texts specials text kept counts words count required pieces scores) → target ≡ target_in (lent_of h)
    → ShapesTo (task_of (lent_of h) required) (first_model (start.corpus (lent_of h)) (seed_texts text pieces count)) text keys ends z pieces' scores' r
