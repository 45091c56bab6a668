-- What a view shows of the slices that it borrows, and what it is to show. Definitions only.
use Rattle.std.specs.Prelude.{List, [], ℕ, ◌-◌, take, drop, Float, Result, Err}
use Rattle.refusal.specs.declared.Refusal.{Refusal}
use Rattle.refusal.specs.declared.Refusal.TheVariants.{BadLattice}
use Rattle.cut.specs.Cut.{Lent}
use Rattle.view.specs.declared.Located.{Located}
use Rattle.view.specs.declared.LatticeView.{LatticeView}
use Rattle.view.specs.Located.{located}

-- what stands from one position up to, not with, another
abbrev pub part : ℕ → ℕ → List ℕ → List ℕ
part from to slots = take (to - from) (drop from slots)

abbrev pub offsets_seen : Located → List ℕ → List ℕ
offsets_seen word = part word.at word.past

abbrev pub edges_seen : Located → List ℕ → List ℕ
edges_seen word = part word.from word.to

-- a view without where its slices stand in memory
pub record Shown : Type 0 where
  pub offsets : List ℕ
  pub starts : List ℕ
  pub ids : List ℕ
  pub n : ℕ
  pub seen : Result (Unit {0}) Refusal

abbrev pub shown : LatticeView → Shown
shown v = record { offsets = v.offsets.now; starts = v.starts.now; ids = v.ids.now; n = v.n; seen = v.seen }

-- a word's parts of a cache's slices
abbrev pub parted : List ℕ → List ℕ → List ℕ → Located → Shown
parted starts ids offsets word =
    record { offsets = offsets_seen word offsets; starts = edges_seen word starts; ids = edges_seen word ids; n = word.n; seen = word.seen }

abbrev pub viewed : List ℕ → List ℕ → List ℕ → List ℕ → ℕ → Shown
viewed starts ids offsets spans index = parted starts ids offsets (located starts ids offsets spans index)

-- no lattice: "n 0 and empty slices"
abbrev pub nothing : ℕ → Shown
nothing index = record { offsets = []; starts = []; ids = []; n = 0; seen = Err (BadLattice index) }

-- what a view lends, beside the scores, to a call on one word's lattice
abbrev pub lent_of : Shown → List Float → Lent
lent_of x scores = record { offsets = x.offsets; starts = x.starts; ids = x.ids; n = x.n; scores = scores }
