-- From the path to the answer, where scores are at zero or below. Assumes nothing.
use mathlib.Core.Path.{◌≡◌, sym, ap, ◌∙◌}
use mathlib.Core.Bool.{Bool, true, false}
use mathlib.Core.List.{List, ◌++◌}
use Prim.Native.Nat.{ℕ}
use lib.ListN.{length, get_or, drop}
use lib.Ieee.{Float, nan}
use lib.Ieee.Scale.{finite}
use Rattle.std.specs.Bool.{then_some}
use Rattle.laws.proofs.Choices.{yes}
use Rattle.scores.specs.Cuts.{Lattice}
use Rattle.scores.specs.Table.{table, best, best_cut}
use Rattle.scores.specs.Floats.{f64s}
use Rattle.scores.proofs.Theorems.{best_finite, none_finite}
use Rattle.viterbi.specs.Slices.{lattice_of, WellFormed, Scored}
use Rattle.viterbi.specs.Path.{path}
use Rattle.viterbi.specs.Answers.{Found, Missed, Answers}
use Rattle.viterbi.proofs.Shapes.{sound}
use Rattle.viterbi.proofs.Passed.{top_is}
use Rattle.viterbi.proofs.Paths.{spelt_long, path_found, path_none}

module _ (offsets starts ids : List ℕ) (scores : List Float) (n : ℕ) (w : WellFormed offsets starts ids scores n) (scored : Scored scores) (rest b : List Float) (best_is : b ≡ table f64s (lattice_of offsets starts ids scores) n ++ rest) (before after : List ℕ) (count : ℕ) (count_is : count ≡ length (path offsets starts ids n scores)) (written : after ≡ path offsets starts ids n scores ++ drop count before) where
  abbrev l : Lattice Float
  l = lattice_of offsets starts ids scores

  top : get_or b n nan ≡ best f64s l n
  top = top_is l n rest b best_is

  top_finite : {t : Bool} → finite (get_or b n nan) ≡ t → finite (best f64s l n) ≡ t
  top_finite e = sym (ap finite top) ∙ e

  -- a finite greatest sum is the best cut's
  found : finite (get_or b n nan) ≡ true → Found l ids n before after (get_or b n nan) count
  found e =
      let f = top_finite e in
      let p = path_found offsets starts ids scores n f in
      let given = best_finite l n (sound w scored) (yes f) in
      record {
        cut = best_cut f64s l n;
        is_best = given.0;
        score_is = top ∙ sym given.1;
        count_is = count_is ∙ ap length p ∙ spelt_long ids (best_cut f64s l n);
        written = written ∙ ap (λ (front : List ℕ). front ++ drop count before) p;
      }

  -- and otherwise no cut has a finite sum
  missed : finite (get_or b n nan) ≡ false → Missed l n before after count
  missed e =
      let f = top_finite e in
      let p = path_none offsets starts ids scores n f in
      let none = count_is ∙ ap length p in
      record {
        none = λ c. none_finite l n (sound w scored) f c.cut c.is_cut c.is_finite;
        count_is = none;
        kept = written ∙ ap (λ (front : List ℕ). front ++ drop count before) p ∙ ap (λ (k : ℕ). drop k before) none;
      }

  -- by the test that the code makes
  pub answers : (t : Bool) → finite (get_or b n nan) ≡ t → Answers l ids n before after (then_some t (get_or b n nan)) count
  answers true e = found e
  answers false e = missed e
