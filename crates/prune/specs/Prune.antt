-- The remap of a pruning: "Costliest survive, lower id on ties, the required prefix always." A piece's loss is given by the
-- bits of an f64 that is +0 or greater, so that they order as the losses do. Definitions only.
use Rattle.std.specs.Prelude.{Bool, true, false, ◌||◌, List, [], ◌∷◌, ◌++◌, map, ℕ, zero, suc, ◌-◌, min, max, leb, eqb, length, get_or, take}
use Rattle.order.specs.Sort.{Order, sort}
use Rattle.lattice.specs.Pruning.{gone}

abbrev pub loss : List ℕ → ℕ → ℕ
loss losses id = get_or losses id 0

-- costliest first: one id goes no later than another where it costs as much or more
unfoldable pub costlier : List ℕ → Order
costlier losses i j = leb (loss losses j) (loss losses i)

-- n ids, rising
abbrev pub ids : ℕ → ℕ → List ℕ
ids from zero = []
ids from (suc n) = from ∷ ids (suc from) n

-- The required prefix, and then the other ids, costliest first. Rising ids are sorted, and level ones keep their order: so
-- the lower id is first on ties.
abbrev pub ranking : List ℕ → ℕ → List ℕ
ranking losses required = ids 0 required ++ sort (costlier losses) (ids required (length losses - required))

-- how many survive: those required at least, and no more than there are
abbrev pub kept : ℕ → ℕ → ℕ → ℕ
kept required keep pieces = max required (min keep pieces)

-- those that do
abbrev pub chosen : List ℕ → ℕ → ℕ → List ℕ
chosen losses required keep = take (kept required keep (length losses)) (ranking losses required)

-- whether an id is one of some, and whether each piece lives
abbrev pub among : List ℕ → ℕ → Bool
among [] id = false
among (i ∷ is) id = eqb i id || among is id

abbrev pub lives : List ℕ → ℕ → ℕ → List Bool
lives losses required keep = map (among (chosen losses required keep)) (ids 0 (length losses))

-- a remap: for each piece the count of survivors before it, or `u32::MAX`; `next` survivors stand before the first
abbrev pub remap_from : ℕ → List Bool → List ℕ
remap_from next [] = []
remap_from next (true ∷ l) = next ∷ remap_from (suc next) l
remap_from next (false ∷ l) = gone ∷ remap_from next l

abbrev pub remap_of : List ℕ → ℕ → ℕ → List ℕ
remap_of losses required keep = remap_from 0 (lives losses required keep)
