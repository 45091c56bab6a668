-- What EM and a round are given, and what they leave. Definitions only.
use Rattle.std.specs.Prelude.{◌≡◌, List, [], ◌++◌, ℕ, ◌≤◌, ◌<◌, length, get_or, take, drop, Float}
use Rattle.lattice.specs.Lattice.{Edge}
use Rattle.cached.specs.Held.{Held}
use Rattle.em.specs.Em.{em_many}
use Rattle.em.specs.Steps.{Small}
use Rattle.model.specs.Model.{Model, Task, improved, pruned_to}
use Rattle.shrink.specs.declared.Shrunk.{Shrunk}
use Rattle.shrink.specs.At.{Slices, At, Fixed}

-- ---- EM over the first `count` pieces, by the first `edges` edges
pub record Improving (words : ℕ) (frequencies : List ℕ) (count edges : ℕ) (scores : List Float) (expected : ℕ) (offsets starts ids spans : List ℕ) : Type 0 where
  pub lattices : List (List (List Edge))
  pub held : Held (take edges starts) (take edges ids) offsets spans count words lattices
  pub in_starts : edges ≤ length starts
  pub in_ids : edges ≤ length ids
  pub small : (word : ℕ) → word < words → Small (get_or lattices word [])
  pub frequent : words ≤ length frequencies
  pub in_scores : count ≤ length scores
  pub in_expected : count ≤ expected

abbrev pub Improves : ℕ → List ℕ → ℕ → ℕ → ℕ → List Float → List ℕ → List ℕ → List ℕ → List ℕ → List Float → Type 0
Improves words frequencies iterations count edges scores offsets starts ids spans scores' =
    (lattices : List (List (List Edge))) → Held (take edges starts) (take edges ids) offsets spans count words lattices
    → scores' ≡ em_many lattices frequencies iterations (take count scores) ++ drop count scores

-- ---- one round
abbrev pub Turns : ℕ → List ℕ → ℕ → List ℕ → ℕ → ℕ → ℕ → ℕ → ℕ → Slices → Slices → Shrunk → Type 0
Turns setting text words frequencies iterations required keep count edges s s' r =
    (t : Task) (m : Model) → Fixed t setting words frequencies → t.iterations ≡ iterations → t.required ≡ required → At t text m s count edges
    → At t text (improved t (pruned_to t keep m)) s' r.pieces r.edges
