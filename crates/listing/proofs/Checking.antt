-- From the checks of the parts to the check of all. Assumes nothing.
use mathlib.Core.Path.{sym, subst}
use Rattle.std.specs.Prelude.{Result, Ok, Err}
use Rattle.refusal.specs.declared.Refusal.{Refusal}
use Rattle.spans.specs.Spans.{many}
use Rattle.settings.specs.Check.{InBounds}
use Rattle.corpus.specs.Check.{Answers as WordsAnswers}
use Rattle.listing.specs.Start.{Lent, Work, Left, Room, slots, bad_words, Fit, Checks, Why, no_slots, Answers}
use Rattle.listing.specs.Steps.{Lists}
use Rattle.listing.specs.declared.Seeded.{Seeded}

-- ---- settings and room are in order, so that the words decide
pub by_words : (x : Lent) (Room : Type 0) → InBounds x.settings x.texts x.specials → Room → (r : Result (Unit {0}) Refusal) → WordsAnswers x.text x.words x.frequencies r → Checks x Room r
by_words x Room s room (Ok _) a = record { settings_fit = s; room = room; words_fit = a }
by_words x Room s room (Err refusal) a = bad_words s room a

-- ---- what the list answers
pub listed : (x : Lent) (w : Work) (y : Left) → Fit x (Room x w) → (r : Result Seeded Refusal) → Lists x (many x.specials) (slots w) w.kept w.counts y r → Answers x w y r
listed x w y f (Ok seeded) (k, s) = record { fit = f; words_are = k; list = s }
listed x w y f (Err refusal) (d, n) = subst (Why x w) (sym d) (no_slots f n)
