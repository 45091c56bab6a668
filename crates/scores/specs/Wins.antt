-- Which cut wins, said of cuts alone. Document 01, port order 7: "the earliest start at each position wins ties, and what precedes is chosen so for the shorter word". Definitions only.
use Rattle.std.specs.Prelude.{◌≡◌, true, false, List, [], ◌∷◌, ℕ, ◌<◌}
use Rattle.scores.specs.Domain.{Domain}
use Rattle.scores.specs.Cuts.{Lattice, Ends, Cut, sum}

module _ {S : Type 0} (D : Domain S) (l : Lattice S) where
  -- no cut of the first p characters has a sum greater than s
  abbrev pub Greatest : ℕ → S → Type 0
  Greatest p s = (js : List ℕ) → Cut l p js → D.less s (sum D l js) ≡ false

  -- every cut of them whose last edge starts before `start` has a sum below s
  abbrev pub Earliest : ℕ → ℕ → S → Type 0
  Earliest p start s = (j : ℕ) (js : List ℕ) → Cut l p (j ∷ js) → l.edges.start j < start → D.less (sum D l (j ∷ js)) s ≡ true

  -- the cut ks of the first p characters: its sum is the greatest, among equals its last edge starts earliest, and what precedes it wins for the shorter word
  abbrev pub Wins : ℕ → List ℕ → Type 0
  Wins p [] = p ≡ 0
  Wins p (k ∷ ks) = Ends l p k × Greatest p (sum D l (k ∷ ks)) × Earliest p (l.edges.start k) (sum D l (k ∷ ks)) × Wins (l.edges.start k) ks
