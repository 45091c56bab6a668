-- What the check of a lent lattice answers, for whatever room the caller has tested. Definitions only.
use Rattle.std.specs.Prelude.{◌≡◌, Bool, true, List, ℕ, ◌≤◌, length, Float, Result, Ok, Err}
use Rattle.refusal.specs.declared.Refusal.{Refusal}
use Rattle.cut.specs.Cut.{Lent, Formed, Scored, Bad, Rooms}

pub record InOrder (x : Lent) (room : Bool) : Type 0 where
  pub formed : Formed x
  pub scored : Scored x
  pub roomy : room ≡ true

abbrev pub Checks : Lent → Bool → Result (Unit {0}) Refusal → Type 0
Checks x room (Ok _) = InOrder x room
Checks x room (Err refusal) = Bad x (room ≡ true) refusal

-- all that the best cut asks
pub record Ready (x : Lent) (best : List Float) (back path : List ℕ) : Type 0 where
  pub formed : Formed x
  pub scored : Scored x
  pub rooms : Rooms x.n best back
  pub slots : x.n ≤ length path
