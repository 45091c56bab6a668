-- How the best cut is found: the greatest sum at each position and the edge that gives it, ends rising and edges rising, and the walk back. Document 01, port order 7: "Replaces only on strictly greater". Definitions only.
use Rattle.std.specs.Prelude.{Bool, true, false, List, [], ◌∷◌, ◌++◌, ℕ, zero, suc, ◌+◌, ◌-◌, get_or}
use Rattle.scores.specs.Domain.{Domain}
use Rattle.scores.specs.Cuts.{Edges, Lattice}

-- the greatest sum so far at one position, and the edge that gave it
pub record Pick (S : Type 0) : Type 0 where
  pub top : S
  pub via : ℕ

module _ {S : Type 0} (D : Domain S) (e : Edges S) where
  -- what edge k offers, where the table holds the greatest sums at the positions before
  abbrev pub offered : List S → ℕ → S
  offered table k = D.add (get_or table (e.start k) D.past) (e.score k)

  abbrev pub taken : Bool → Pick S → S → ℕ → Pick S
  taken true pick s k = record { top = s; via = k }
  taken false pick s k = pick

  -- edge k replaces what is there only where it offers more
  abbrev pub step : List S → Pick S → ℕ → Pick S
  step table pick k = taken (D.less pick.top (offered table k)) pick (offered table k) k

  -- the best of the m edges from k on, in this order
  abbrev pub best_of : List S → ℕ → ℕ → Pick S
  best_of table k zero = record { top = D.bottom; via = 0 }
  best_of table k (suc m) = step table (best_of table k m) (k + m)

  -- the best of the edges from k up to, not with, j
  abbrev pub upto : List S → ℕ → ℕ → Pick S
  upto table k j = best_of table k (j - k)

module _ {S : Type 0} (D : Domain S) (l : Lattice S) where
  -- the best of the edges that end at p
  abbrev pub ending : List S → ℕ → Pick S
  ending table p = upto D l.edges table (l.low p) (l.high p)

  -- the greatest sums at the positions 0 .. p
  abbrev pub table : ℕ → List S
  table zero = D.zero ∷ []
  table (suc p) = table p ++ ((ending (table p) (suc p)).top ∷ [])

  -- the greatest sum at p
  abbrev pub best : ℕ → S
  best p = get_or (table p) p D.past

  -- the edge by which the best cut reaches p
  abbrev pub edge : ℕ → ℕ
  edge zero = 0
  edge (suc p) = (ending (table p) (suc p)).via

  -- those edges at the positions 0 .. p
  abbrev pub edges_to : ℕ → List ℕ
  edges_to zero = 0 ∷ []
  edges_to (suc p) = edges_to p ++ (edge (suc p) ∷ [])

  -- the walk back from p, of at most m edges
  abbrev pub back : ℕ → ℕ → List ℕ
  back zero p = []
  back (suc m) zero = []
  back (suc m) (suc p) = edge (suc p) ∷ back m (l.edges.start (edge (suc p)))

  -- the best cut of n characters, from its last edge to its first
  abbrev pub best_cut : ℕ → List ℕ
  best_cut n = back n n
