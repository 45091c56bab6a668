-- From a start to what follows it. Assumes nothing.
use mathlib.Core.Path.{subst}
use mathlib.Core.List.{List}
use Prim.Native.Nat.{ℕ}
use native.Mathlib.Omega.{arith}
use lib.Ieee.{Float}
use Rattle.settings.specs.declared.Settings.{Settings}
use Rattle.listing.specs.Start as start
use Rattle.std.specs.Prelude.{Result, Ok, Err}
use Rattle.refusal.specs.declared.Refusal.{Refusal}
use Rattle.listing.specs.declared.Seeded.{Seeded}
use Rattle.fresh.specs.Build as fresh
use Rattle.begun.specs.Here.{Begun, Here}
use Rattle.begun.proofs.Pieces.{pieces_each}
use Rattle.make.specs.Make.{Results}
use Rattle.make.specs.declared.Trained.{Trained}
use Rattle.go_on.specs.Steps.{Ready, Follows}
use Rattle.finish.specs.Steps.{GoingOn, GoesOn}

module _ (settings : Settings) (texts specials text kept counts pieces : List ℕ) (scores : List Float) where
  abbrev here : (seeded : Seeded) (lent_words lent_frequencies : List ℕ) (w : start.Work)
      → Begun (record { settings = settings; texts = texts; specials = specials; text = text; words = lent_words; frequencies = lent_frequencies }) w kept counts pieces scores
      (Ok seeded)
      → Here settings texts specials text kept counts seeded.words seeded.pieces seeded.required pieces scores
  here seeded lent_words lent_frequencies w b =
      record { lent_words = lent_words; lent_frequencies = lent_frequencies; work = w; begun = b }

  pub ready : (order work ranks expected : ℕ) (started : Result Seeded Refusal) → GoingOn settings texts specials text kept counts order work ranks pieces scores expected started
      → Ready settings texts specials text kept counts order work ranks pieces scores expected started
  ready order work ranks expected started g seeded q =
      let h = here seeded g.lent_words g.lent_frequencies g.seed_work
      (subst
      (Begun (record { settings = settings; texts = texts; specials = specials; text = text; words = g.lent_words; frequencies = g.lent_frequencies }) g.seed_work kept counts pieces scores) q
      g.begun) in
      let s = pieces_each
      (record { settings = settings; texts = texts; specials = specials; text = text; words = g.lent_words; frequencies = g.lent_frequencies }) g.seed_work
      (record { kept = kept; counts = counts; pieces = pieces; tallies = h.begun.tallies; scores = h.begun.front }) seeded.words seeded.pieces seeded.required h.begun.answers in
      record {
        here = h;
        in_order = let a = s.in_order in let b = g.order_long in omega arith;
        in_work = let a = s.in_work in let b = g.work_long in omega arith;
        in_ranks = let a = s.in_ranks in let b = g.ranks_long in omega arith;
        in_expected = let a = s.in_scores in let b = g.expected_long in omega arith;
      }

  pub goes_on : (started : Result Seeded Refusal) (keys ends : List ℕ) (z : fresh.Results) (y y' : Results) (r : Result Trained Refusal)
      → Follows settings texts specials text kept counts pieces scores started keys ends z y y' r
      → GoesOn settings texts specials text kept counts pieces scores started keys ends z y y' r
  goes_on (Err refusal) keys ends z y y' r f lent_words lent_frequencies w b = f
  goes_on (Ok seeded) keys ends z y y' r f lent_words lent_frequencies w b = f (here seeded lent_words lent_frequencies w b)
