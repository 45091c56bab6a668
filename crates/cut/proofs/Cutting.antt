-- From a check to the core, and from the core's answer to the call's. Assumes nothing.
use mathlib.Core.Path.{◌≡◌, subst}
use mathlib.Core.Bool.{Bool, true}
use mathlib.Core.List.{List}
use Prim.Native.Nat.{ℕ}
use lib.Ieee.{Float}
use Rattle.std.specs.Prelude.{Option, Some, None, Err}
use Rattle.std.specs.Option.{ok_or}
use Rattle.laws.specs.Tests.{Says}
use Rattle.laws.proofs.Tests.{said_yes, says_true}
use Rattle.refusal.specs.declared.Refusal.{Refusal}
use Rattle.refusal.specs.declared.Refusal.TheVariants.{NoPath}
use Rattle.viterbi.specs.Slices.{WellFormed}
use Rattle.viterbi.specs.Answers.{Asked, Answers as CoreAnswers}
use Rattle.cut.specs.Cut.{Lent, whole_lattice, Formed, Rooms, Bad, bad_lattice, bad_score, no_room, Why, bad, no_path}
use Rattle.cut.specs.Checked.{InOrder, Ready}

-- the same refusal, for a room that says as much
pub as_room : {x : Lent} {P Q : Type 0} {refusal : Refusal} → (Q → P) → Bad x P refusal → Bad x Q refusal
as_room back (bad_lattice n) = bad_lattice n
as_room back (bad_score f b) = bad_score f b
as_room back (no_room f s n) = no_room f s (λ q. n (back q))

pub well_formed : (x : Lent) → Formed x → WellFormed x.offsets x.starts x.ids x.scores x.n
well_formed x f = record { word = f }

-- ---- the best cut
pub asked : {x : Lent} {best : List Float} {back path : List ℕ} → Ready x best back path → Asked x.offsets x.starts x.ids x.scores best back x.n
asked {x} r = record { well_formed = well_formed x r.formed; scored = r.scored; best_room = r.rooms.0; back_room = r.rooms.1 }

-- no score is told as no path
pub no_score : {x : Lent} {best : List Float} {back path : List ℕ} → Ready x best back path → {path' : List ℕ} {refusal : Refusal} (b : Option Float) (count : ℕ) → ok_or b NoPath ≡ Err refusal → CoreAnswers (whole_lattice x) x.ids x.n path path' b count
    → Why x best back path refusal × (path' ≡ path)
no_score r (Some top) count e found = absurd cc
no_score {x} {best} {back} {path} r {refusal = refusal} None count e missed =
    let same : NoPath ≡ refusal = cc in
    (subst (Why x best back path) same (no_path r.formed r.scored r.rooms r.slots missed.none), missed.kept)

-- what the check says of the rooms that were tested
module _ (x : Lent) (best : List Float) (back : List ℕ) (path : List ℕ) (room : Bool) (says : Says room (Rooms x.n best back)) where
  pub refused_so : {refusal : Refusal} → Bad x (room ≡ true) refusal → Why x best back path refusal
  refused_so w = bad (as_room (λ q. says_true room says q) w)

  pub has_rooms : InOrder x room → Rooms x.n best back
  has_rooms o = said_yes room o.roomy says
