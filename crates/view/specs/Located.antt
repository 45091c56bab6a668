-- One word's lattice among a cache's slices: document 01, "`view` of an absent index, or of a span outside its slices, is
-- BadLattice at it, with n 0 and empty slices". Definitions only.
use Rattle.std.specs.Prelude.{Bool, cond, ◌&&◌, List, ℕ, ◌+◌, ◌*◌, leb, length, get_or, Ok, Err}
use Rattle.refusal.specs.declared.Refusal.TheVariants.{BadLattice}
use Rattle.view.specs.declared.Located.{Located}

-- the index has a span: four numbers
abbrev pub present : List ℕ → ℕ → Bool
present spans index = leb (4 * index + 4) (length spans)

-- the span is inside the slices: its edges in both, and its n + 2 offsets
abbrev pub inside : List ℕ → List ℕ → List ℕ → ℕ → ℕ → ℕ → ℕ → Bool
inside starts ids offsets from to at n = leb from to && (leb to (length starts) && (leb to (length ids) && leb (at + n + 2) (length offsets)))

-- where the word's edges and offsets stand, from the first up to, not with, the last
abbrev pub whole : ℕ → ℕ → ℕ → ℕ → Located
whole from to at n = record { seen = Ok tt; from = from; to = to; at = at; past = at + n + 2; n = n }

abbrev pub absent : ℕ → Located
absent index = record { seen = Err (BadLattice index); from = 0; to = 0; at = 0; past = 0; n = 0 }

abbrev pub spanned : List ℕ → List ℕ → List ℕ → ℕ → ℕ → ℕ → ℕ → ℕ → Located
spanned starts ids offsets index from to at n = cond (inside starts ids offsets from to at n) (whole from to at n) (absent index)

unfoldable pub located : List ℕ → List ℕ → List ℕ → List ℕ → ℕ → Located
located starts ids offsets spans index =
    cond (present spans index)
    (spanned starts ids offsets index (get_or spans (4 * index) 0) (get_or spans (4 * index + 1) 0) (get_or spans (4 * index + 2) 0) (get_or spans (4 * index + 3) 0))
    (absent index)
