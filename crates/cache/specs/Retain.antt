-- What retain answers and leaves: document 01, "Retain checks 9, 13". Definitions only.
use Rattle.std.specs.Prelude.{List, ℕ, length, Result, Ok, Err}
use Rattle.lattice.specs.Lattice.{Edge}
use Rattle.lattice.specs.Pruning.{Remap, retained}
use Rattle.refusal.specs.declared.Refusal.{Refusal}
use Rattle.refusal.specs.declared.Refusal.TheVariants.{BadLattice, BadRemap}
use Rattle.cached.specs.Cached.{CacheFormed, FirstBad}
use Rattle.cached.specs.Held.{Held}
use Rattle.retain.specs.Remaps.{Lowest}
use Rattle.fresh.specs.Slots.{Holds, Kept}

-- whatever lattices the slices held, they hold the pruned ones
abbrev pub Pruned : List ℕ → List ℕ → List ℕ → List ℕ → ℕ → List ℕ → List ℕ → List ℕ → List ℕ → List ℕ → ℕ → Type 0
Pruned offsets starts ids spans words remap offsets' starts' ids' spans' count =
    (lattices : List (List (List Edge))) → Held starts ids offsets spans (length remap) words lattices → Holds (retained remap lattices) offsets starts ids spans offsets' starts' ids' spans' count

-- 9 at the first word whose lattice is not as it should be; then 13 at the lowest entry that is neither
pub data Why (offsets starts ids spans : List ℕ) (words : ℕ) (remap : List ℕ) : Refusal → Type 0 where
  bad_lattice : {word : ℕ} → FirstBad starts ids offsets spans (length remap) words word → Why offsets starts ids spans words remap (BadLattice word)
  bad_remap : {entry : ℕ} → CacheFormed starts ids offsets spans (length remap) words → Lowest 0 remap entry → Why offsets starts ids spans words remap (BadRemap entry)

abbrev pub Answers : List ℕ → List ℕ → List ℕ → List ℕ → ℕ → List ℕ → List ℕ → List ℕ → List ℕ → List ℕ → Result ℕ Refusal → Type 0
Answers offsets starts ids spans words remap offsets' starts' ids' spans' (Err refusal) = Why offsets starts ids spans words remap refusal × Kept offsets starts ids spans offsets' starts' ids' spans'
Answers offsets starts ids spans words remap offsets' starts' ids' spans' (Ok count) =
    CacheFormed starts ids offsets spans (length remap) words × Remap 0 remap × Pruned offsets starts ids spans words remap offsets' starts' ids' spans' count
