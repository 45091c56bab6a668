-- A seed list in the slices that crate start leaves. Definitions only.
use Rattle.std.specs.Prelude.{◌≡◌, List, ◌++◌, ℕ, Float, Result, Ok}
use Rattle.settings.specs.declared.Settings.{Settings}
use Rattle.listing.specs.Start as start
use Rattle.refusal.specs.declared.Refusal.{Refusal}
use Rattle.listing.specs.declared.Seeded.{Seeded}

-- ---- the seed list, which crate start leaves in slices; the slice of scores goes on behind what start was lent of it
pub record Begun (x : start.Lent) (w : start.Work) (kept counts pieces : List ℕ) (scores : List Float) (r : Result Seeded Refusal) : Type 0 where
  pub tallies : List ℕ
  pub front : List Float
  pub rest : List Float
  pub scores_are : scores ≡ front ++ rest
  pub answers : start.Answers x w (record { kept = kept; counts = counts; pieces = pieces; tallies = tallies; scores = front }) r

-- the same where there is a list, whatever words it comes from
pub record Here (settings : Settings) (texts specials text kept counts : List ℕ) (words count required : ℕ) (pieces : List ℕ) (scores : List Float) : Type 0 where
  pub lent_words : List ℕ
  pub lent_frequencies : List ℕ
  pub work : start.Work
  pub begun : Begun (record { settings = settings; texts = texts; specials = specials; text = text; words = lent_words; frequencies = lent_frequencies }) work kept counts pieces scores (Ok (record { words = words; pieces = count; required = required }))

abbrev pub lent_of : {settings : Settings} {texts specials text kept counts : List ℕ} {words count required : ℕ} {pieces : List ℕ} {scores : List Float}
    → Here settings texts specials text kept counts words count required pieces scores → start.Lent
lent_of {settings} {texts} {specials} {text} h = record { settings = settings; texts = texts; specials = specials; text = text; words = h.lent_words; frequencies = h.lent_frequencies }
