-- The best score without a piece, said of cuts alone. Document 01, port order 7: "`viterbi_excluding` returns minus infinity when it finds nothing". Definitions only.
use Rattle.std.specs.Prelude.{◌≡◌, true, false, List, [], ◌∷◌, ◌⊎◌, ℕ, get_or, T, Float}
use Rattle.std.specs.Float.{inf}
use Rattle.std.specs.Float.Ieee.Scale.{finite}
use Rattle.scores.specs.Cuts.{Lattice, Cut, sum}
use Rattle.scores.specs.Floats.{f64s}

-- no edge of the cut is of the piece
abbrev pub Avoids : List ℕ → ℕ → List ℕ → Type 0
Avoids ids piece [] = Unit
Avoids ids piece (k ∷ ks) = (get_or ids k 0 ≡ piece → ⊥) × Avoids ids piece ks

-- a cut without the piece, whose sum is s and finite
pub record CutWithout (l : Lattice Float) (ids : List ℕ) (n piece : ℕ) (s : Float) : Type 0 where
  pub cut : List ℕ
  pub is_cut : Cut l n cut
  pub avoids : Avoids ids piece cut
  pub sum_is : sum f64s l cut ≡ s
  pub is_finite : T (finite s)

-- r is the greatest sum of the cuts without the piece; minus infinity, where none of them has a finite sum
pub record BestWithout (l : Lattice Float) (ids : List ℕ) (n piece : ℕ) (r : Float) : Type 0 where
  pub greatest : (cut : List ℕ) → Cut l n cut → Avoids ids piece cut → f64s.less r (sum f64s l cut) ≡ false
  pub source : CutWithout l ids n piece r ⊎ (r ≡ inf true)
