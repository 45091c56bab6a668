-- What is proved of seeding: its answer fits its words, and no second answer does. Assumes nothing.
use mathlib.Core.Path.{◌≡◌, sym, ap, ◌∙◌}
use mathlib.Core.List.{List}
use Prim.Native.Nat.{ℕ, ◌*◌}
use native.Mathlib.Omega.{arith}
use lib.ListN.{length, take}
use lib.Ieee.{Float}
use Rattle.spans.specs.Spans.{listed}
use Rattle.ranking.specs.Corpus.{Corpus}
use Rattle.ranking.specs.Seed.{counts}
use Rattle.ranking.specs.Scores.{seed_scores}
use Rattle.ranking.proofs.Theorems.{seeded_unique, uncut_unique}
use Rattle.seed.specs.Seed.{Lists, Exceeds}

-- Of two lists that fit, the pieces are as many and spell the same strings, as many are required, and counts and scores are the
-- same. Which of a string's places in the text its span is, is left open.
pub record Same (text : List ℕ) (required many : ℕ) (pieces tallies : List ℕ) (scores : List Float)
    (required' many' : ℕ) (pieces' tallies' : List ℕ) (scores' : List Float) : Type 0 where
  pub same_required : required ≡ required'
  pub same_many : many ≡ many'
  pub same_texts : listed text (take (2 * many) pieces) ≡ listed text (take (2 * many') pieces')
  pub same_counts : take many tallies ≡ take many' tallies'
  pub same_scores : take many scores ≡ take many' scores'

pub no_second : {text : List ℕ} {corpus : Corpus} {setting least pool slots slots' : ℕ} {required many : ℕ} {pieces tallies : List ℕ} {scores : List Float}
    {required' many' : ℕ} {pieces' tallies' : List ℕ} {scores' : List Float}
    → Lists text corpus setting least pool slots pieces tallies scores required many
    → Lists text corpus setting least pool slots' pieces' tallies' scores' required' many'
    → Same text required many pieces tallies scores required' many' pieces' tallies' scores'
no_second {corpus = corpus} a b =
    let u = seeded_unique a.seeded b.seeded in
    let c = a.counts_are ∙ ap (counts corpus) u.0 ∙ sym b.counts_are in
    record {
      same_required = u.1;
      same_many = a.many_is ∙ ap length u.0 ∙ sym b.many_is;
      same_texts = u.0;
      same_counts = c;
      same_scores = a.scores_are ∙ ap seed_scores c ∙ sym b.scores_are;
    }

-- And a corpus whose list has room is not refused: NoRoom is given exactly when the size exceeds the slots.
pub not_both : {text : List ℕ} {corpus : Corpus} {setting least pool slots : ℕ} {required many : ℕ} {pieces tallies : List ℕ} {scores : List Float}
    → Lists text corpus setting least pool slots pieces tallies scores required many → Exceeds corpus setting least slots → ⊥
not_both a b = let e = uncut_unique a.uncut b.uncut in let f = a.fits in let g = b.over in omega arith
