-- The best cut for f64 scores, and what demand 3, second part, says of it. Definitions only.
use Rattle.std.specs.Prelude.{◌≡◌, ◌↔◌, List, ◌∷◌, ℕ, T, Float}
use Rattle.std.specs.Float.Ieee.Scale.{finite}
use Rattle.scores.specs.Cuts.{Lattice, Cut, sum}
use Rattle.scores.specs.Wins.{Greatest, Earliest, Wins}
use Rattle.scores.specs.Floats.{f64s}

-- some cut's left-to-right rounded sum is finite
pub record FiniteCut (l : Lattice Float) (n : ℕ) : Type 0 where
  pub cut : List ℕ
  pub is_cut : Cut l n cut
  pub is_finite : T (finite (sum f64s l cut))

-- the best cut of n characters: it wins, and its sum is finite
pub record BestCut (l : Lattice Float) (n : ℕ) (cut : List ℕ) : Type 0 where
  pub wins : Wins f64s l n cut
  pub is_finite : T (finite (sum f64s l cut))

-- "Where every score is zero or below (minus infinity allowed, NaN not) a best cut is given exactly when some cut's left-to-right rounded sum is finite; its sum is the greatest there is; among equals, the earliest start at each position wins, and what precedes is chosen so for the shorter word." And no second cut fits.
-- proofs/Theorems.antt has it of every lattice that is `Sound` for such scores.
pub record BestCutTheorem (l : Lattice Float) (n : ℕ) : Type 0 where
  pub given_exactly : FiniteCut l n ↔ ((cut : List ℕ) × BestCut l n cut)
  pub is_cut : (cut : List ℕ) → BestCut l n cut → Cut l n cut
  pub greatest : (cut : List ℕ) → BestCut l n cut → Greatest f64s l n (sum f64s l cut)
  pub earliest : (last : ℕ) (precedes : List ℕ) → BestCut l n (last ∷ precedes) → Earliest f64s l n (l.edges.start last) (sum f64s l (last ∷ precedes))
  pub shorter : (last : ℕ) (precedes : List ℕ) → BestCut l n (last ∷ precedes) → BestCut l (l.edges.start last) precedes
  pub no_second : (cut other : List ℕ) → BestCut l n cut → BestCut l n other → cut ≡ other
