-- A pass, and passes one after the other. Assumes nothing.
use Rattle.std.proofs.Common.{◌≡◌, ℕ, List, length, ap, ◌∙◌}
use lib.Ieee.{Float}
use Rattle.lattice.specs.Lattice.{Edge}
use Rattle.cached.specs.Held.{Held}
use Rattle.em.specs.Em.{expected_of, rescored, em, em_times}

pub em_is : (lattices : List (List (List Edge))) (frequencies : List ℕ) (scores expected : List Float) {next : List Float} → expected ≡ expected_of lattices frequencies scores → next ≡ rescored scores expected → next ≡ em lattices frequencies scores
unfolding em
em_is lattices frequencies scores expected e n = n ∙ ap (rescored scores) e

module _ (offs starts ids spans frequencies : List ℕ) (words : ℕ) (scores expected : List Float) where
  -- after so many passes, whatever lattices the slices hold
  pub record Passed (done : ℕ) (scores' expected' : List Float) : Type 0 where
    pub long : length scores' ≡ length scores
    pub room : length expected' ≡ length expected
    pub is : (lattices : List (List (List Edge))) → Held starts ids offs spans (length scores) words lattices → scores' ≡ em_times lattices frequencies done scores
