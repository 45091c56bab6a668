-- From the stages to training whole. Assumes nothing.
use mathlib.Core.Path.{◌≡◌, refl, sym, subst}
use mathlib.Core.List.{List}
use Prim.Native.Nat.{ℕ}
use native.Mathlib.Omega.{arith}
use lib.ListN.{length, length-take}
use lib.Ieee.{Float}
use Rattle.listing.specs.Start as start
use Rattle.std.specs.Prelude.{Result, Ok, Err}
use Rattle.refusal.specs.declared.Refusal.{Refusal}
use Rattle.listing.specs.declared.Seeded.{Seeded}
use Rattle.fresh.specs.Build as fresh
use Rattle.fresh.proofs.Building.{smaller_is}
use Rattle.begun.specs.First.{seed_texts}
use Rattle.begun.specs.Here.{Begun}
use Rattle.make.specs.Make.{Results, Made}
use Rattle.make.specs.Steps.{MakesTo}
use Rattle.make.specs.declared.Trained.{Trained}
use Rattle.finish.specs.Steps.{GoingOn, GoesTo}
use Rattle.training.specs.Train.{Work, seeding_work, cache_slots, Seeds, early, later, Answers}

module _ (x : start.Lent) (w : Work) (kept counts pieces : List ℕ) (scores : List Float) (started : Result Seeded Refusal) (b : Begun x (seeding_work w) kept counts pieces scores started) where
  -- ---- what follows is lent the slices that `start` was lent
  pub going_on : (order work ranks : ℕ) → order ≡ length w.order → work ≡ length w.work → ranks ≡ length w.ranks
      → GoingOn x.settings x.texts x.specials x.text kept counts order work ranks pieces scores (length w.expected) started
  going_on order work ranks o k n =
      record {
        lent_words = x.words;
        lent_frequencies = x.frequencies;
        seed_work = seeding_work w;
        begun = b;
        order_long = o;
        work_long = k;
        ranks_long = n;
        expected_long =
            let a = (smaller_is (length w.scores) (length w.expected) refl).right in
            let c = length-take (fresh.smaller (length w.scores) (length w.expected)) w.scores in
            omega arith;
      }

-- ---- the answer, by what `start` says and what follows it
seeds_of : (x : start.Lent) (w : start.Work) (y : start.Left) (words count required : ℕ) → start.Given x w y words count required → Seeds x w (seed_texts x.text y.pieces count) required
seeds_of x w y words count required g =
    record { fit = g.fit; seeded = g.list.seeded; size = g.list.size; uncut = g.list.uncut; fits = g.list.fits }

answers_by : (x : start.Lent) (w : Work) (y y' : Results) (pieces : List (List ℕ)) (required : ℕ) → Seeds x (seeding_work w) pieces required → (r : Result Trained Refusal)
    → MakesTo x pieces required w.keys w.ends (cache_slots w) y y' r → Answers x w y y' r
answers_by x w y y' pieces required s (Ok r) (c, m) =
    record {
      pieces = pieces;
      seeds = subst (Seeds x (seeding_work w) pieces) (sym c) s;
      made = subst (λ (n : ℕ). Made x w.keys w.ends (cache_slots w) y y' pieces n r.tokens r.stalled) (sym c) m;
    }
answers_by x w y y' pieces required s (Err refusal) (l, u) = (later (record { pieces = pieces; required = required; seeds = s; late = l }), u)

pub answers : (x : start.Lent) (w : Work) (kept counts pieces : List ℕ) (scores : List Float) (started : Result Seeded Refusal) → Begun x (seeding_work w) kept counts pieces scores started
    → (y y' : Results) (r : Result Trained Refusal) → GoesTo x (seeding_work w) pieces w.keys w.ends (cache_slots w) y y' started r → Answers x w y y' r
answers x w kept counts pieces scores (Err refusal) b y y' r (q, u) = subst (Answers x w y y') (sym q) (early b.answers, u)
answers x w kept counts pieces scores (Ok seeded) b y y' r g =
    answers_by x w y y' (seed_texts x.text pieces seeded.pieces) seeded.required
    (seeds_of x (seeding_work w) (record { kept = kept; counts = counts; pieces = pieces; tallies = b.tallies; scores = b.front }) seeded.words seeded.pieces seeded.required b.answers) r g
