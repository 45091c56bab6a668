-- What is proved of uses. Its promise is one equation, for whatever lattices the slices hold, so that no second outcome fits. A
-- word that 001 skips adds nothing. Uses are whole numbers, at most what the words weigh. Assumes nothing.
use Rattle.std.proofs.Common.{◌≡◌, ℕ, ◌≤◌, Bool, true, false, cond, List, [], ◌∷◌, length, get_or, refl, ap, le_refl, arith}
use lib.Ieee.{Float}
use lib.Ieee.Scale.{finite}
use Rattle.laws.proofs.Outcome.{one_outcome}
use Rattle.lattice.specs.Lattice.{Edge}
use Rattle.cached.specs.Held.{Held}
use Rattle.connected.specs.Cut.{Connected, Cut as Chain}
use Rattle.scores.specs.Cuts.{Cut}
use Rattle.scores.specs.Table.{best}
use Rattle.scores.specs.Floats.{f64s}
use Rattle.viterbi.specs.Slices.{lattice_of, WellFormed}
use Rattle.viterbi.specs.Path.{path}
use Rattle.viterbi.proofs.Paths.{path_cases}
use Rattle.uses.specs.Uses.{add_each, weight_of, add_word, uses_of}
use Rattle.uses.specs.Steps.{Given}
use Rattle.uses.specs.Whole.{AllWhole, weight}
use Rattle.uses.proofs.Whole.{uses_whole}

-- ---- no second outcome
abbrev Promised : List ℕ → List ℕ → List ℕ → List ℕ → ℕ → List ℕ → List Float → List Float → Type 0
Promised offsets starts ids spans words frequencies scores uses =
    (lattices : List (List (List Edge))) → Held starts ids offsets spans (length scores) words lattices → uses ≡ uses_of lattices frequencies scores

pub no_second : (offsets starts ids spans frequencies : List ℕ) (words : ℕ) (scores : List Float) → Given offsets starts ids spans frequencies words scores → (uses other : List Float)
    → Promised offsets starts ids spans words frequencies scores uses → Promised offsets starts ids spans words frequencies scores other → uses ≡ other
no_second offsets starts ids spans frequencies words scores g uses other p q = one_outcome (p g.lattices g.held) (q g.lattices g.held)

-- ---- "Words with n = 0 or no connection are skipped": they add nothing
module _ (offsets starts ids : List ℕ) (scores : List Float) where
  either : (b : Bool) → ◌≡◌ {A = List ℕ} (cond b [] []) []
  either true = refl
  either false = refl

  empty_path : path offsets starts ids 0 scores ≡ []
  unfolding path
  empty_path = either (finite (best f64s (lattice_of offsets starts ids scores) 0))

  pub empty_adds_nothing : (frequency : ℕ) (uses : List Float) → add_word offsets starts ids 0 scores frequency uses ≡ uses
  empty_adds_nothing frequency uses = ap (add_each (weight_of frequency) uses) empty_path

  chain : (p : ℕ) (ks : List ℕ) → Cut (lattice_of offsets starts ids scores) p ks → Chain offsets starts p ks
  chain p [] c = c
  chain p (k ∷ ks) c = (c.0.0, c.0.1, chain (get_or starts k 0) ks c.1)

  module _ (n : ℕ) (w : WellFormed offsets starts ids scores n) (none : Connected offsets starts n → ⊥) where
    no_path : path offsets starts ids n scores ≡ []
    no_path = path_cases offsets starts ids scores n w (λ (ids : List ℕ). ids ≡ []) refl (λ cut c. absurd (none (record { edges = cut; cut = chain n cut c })))

    pub unconnected_adds_nothing : (frequency : ℕ) (uses : List Float) → add_word offsets starts ids n scores frequency uses ≡ uses
    unconnected_adds_nothing frequency uses = ap (add_each (weight_of frequency) uses) no_path

-- ---- where words weigh at most 2^48, each use is a whole number, which a float holds exactly: finite, and +0 or greater
pub uses_are_whole : (offsets starts ids spans : List ℕ) (words : ℕ) (frequencies : List ℕ) (scores : List Float) (lattices : List (List (List Edge))) → Held starts ids offsets spans (length scores) words lattices
    → weight lattices frequencies (length lattices) ≤ 281474976710656 → AllWhole (uses_of lattices frequencies scores) (weight lattices frequencies (length lattices))
uses_are_whole offsets starts ids spans words frequencies scores lattices held light = uses_whole lattices frequencies scores held.rows (length lattices) (le_refl (length lattices)) (omega arith)
