-- A lattice, row by row, that stands in slices at a span. Definitions only.
use Rattle.std.specs.Prelude.{◌≡◌, List, [], ◌∷◌, map, ℕ, suc, ◌+◌, ◌<◌, length}
use Rattle.std.proofs.Math.Seq.{slice}
use Rattle.lattice.specs.Lattice.{Edge}
use Rattle.lattice.specs.Layout.{joined, offsets}
use Rattle.formed.specs.declared.Span.{Span}
use Rattle.formed.specs.Formed.{Inside}

-- "starts strictly rise": the next edge, if there is one, starts after s
abbrev pub After : ℕ → List Edge → Type 0
After s [] = Unit
After s (e ∷ es) = s < e.start

-- the edges of one end, of so many pieces
abbrev pub Row : ℕ → ℕ → List Edge → Type 0
Row pieces end [] = Unit
Row pieces end (e ∷ es) = (e.start < end) × (e.id < pieces) × After e.start es × Row pieces end es

-- the edges of each end from one on
abbrev pub Rows : ℕ → ℕ → List (List Edge) → Type 0
Rows pieces end [] = Unit
Rows pieces end (row ∷ rows) = Row pieces end row × Rows pieces (suc end) rows

pub record Held (starts ids ends : List ℕ) (pieces : ℕ) (span : Span) (lattice : List (List Edge)) : Type 0 where
  pub inside : Inside starts ids ends span
  pub ends_are : length lattice ≡ span.n + 1
  pub starts_are : slice span.from span.to starts ≡ map (λ e. e.start) (joined lattice)
  pub ids_are : slice span.from span.to ids ≡ map (λ e. e.id) (joined lattice)
  pub offsets_are : slice span.at (span.at + span.n + 2) ends ≡ offsets lattice
  pub rows : Rows pieces 0 lattice
