-- What is proved of the best cut of a word. `viterbi_core` and `short_core` promise `Answers`: it fits one outcome, which can
-- be worked out. `path_core` promises `path`: whatever the scores are, that is none or a cut's ids (Paths.antt, `path_cases`), and
-- here the best cut's where they are at zero or below. `excluding_core` promises the table without a piece. Examples.antt has
-- document 01's. Assumes nothing.
use mathlib.Core.Path.{◌≡◌, refl, sym, ap, ◌∙◌, subst}
use mathlib.Core.Bool.{Bool, true, false}
use mathlib.Core.Logic.{◌↔◌}
use mathlib.Core.List.{List, [], ◌++◌}
use Prim.Native.Nat.{ℕ}
use native.Mathlib.Omega.{arith}
use lib.ListN.{length, drop}
use lib.Ieee.{Float}
use lib.Ieee.Scale.{finite}
use Rattle.std.specs.Prelude.{Option, Some, None}
use Rattle.laws.proofs.Choices.{yes, cond_cases}
use Rattle.scores.specs.Cuts.{Lattice, sum}
use Rattle.scores.specs.Table.{best, best_cut}
use Rattle.scores.specs.Floats.{f64s}
use Rattle.scores.specs.Best.{FiniteCut, BestCut, BestCutTheorem}
use Rattle.scores.proofs.Theorems.{best_finite, none_finite, best_cut_theorem}
use Rattle.viterbi.specs.Slices.{lattice_of, without, WellFormed, Scored}
use Rattle.viterbi.specs.Walk.{spell}
use Rattle.viterbi.specs.Path.{path}
use Rattle.viterbi.specs.Answers.{Found, Answers}
use Rattle.viterbi.specs.Outcome.{Outcome, outcome}
use Rattle.viterbi.specs.Excluding.{BestWithout}
use Rattle.viterbi.proofs.Shapes.{sound}
use Rattle.viterbi.proofs.Paths.{path_found, path_none}
use Rattle.viterbi.proofs.Excluding.{best_without}

module _ (offsets starts ids : List ℕ) (scores : List Float) (n : ℕ) (w : WellFormed offsets starts ids scores n) (scored : Scored scores) where
  abbrev l : Lattice Float
  l = lattice_of offsets starts ids scores

  -- ---- demand 3, second part, of the word's lattice in its slices
  pub best_cut_of : BestCutTheorem l n
  best_cut_of = best_cut_theorem l n (sound w scored)

  -- ---- the path is the best cut's ids, and none where no cut has a finite sum
  pub path_spells : (cut : List ℕ) → BestCut l n cut → path offsets starts ids n scores ≡ spell ids cut
  path_spells cut b = go (finite (best f64s l n)) refl
    where
      go : (t : Bool) → finite (best f64s l n) ≡ t → path offsets starts ids n scores ≡ spell ids cut
      go true e = path_found offsets starts ids scores n e ∙ ap (spell ids) (best_cut_of.no_second (best_cut f64s l n) cut (best_finite l n (sound w scored) (yes e)).0 b)
      go false e = absurd (none_finite l n (sound w scored) e cut (best_cut_of.is_cut cut b) b.is_finite)

  pub path_missing : (FiniteCut l n → ⊥) → path offsets starts ids n scores ≡ []
  path_missing none = go (finite (best f64s l n)) refl
    where
      go : (t : Bool) → finite (best f64s l n) ≡ t → path offsets starts ids n scores ≡ []
      go true e = absurd (none (best_cut_of.given_exactly.1 (best_cut f64s l n, (best_finite l n (sound w scored) (yes e)).0)))
      go false e = path_none offsets starts ids scores n e

  -- ---- the promise fits the outcome that is worked out, and no second one
  module _ (before : List ℕ) where
    abbrev Fits : Outcome → Type 0
    Fits r = Answers l ids n before r.slots r.best r.count

    pub outcome_fits : Fits (outcome l ids n before)
    outcome_fits =
        cond_cases Fits (finite (best f64s l n)) _ _
        (λ e. let b = best_finite l n (sound w scored) (yes e) in
        record { cut = best_cut f64s l n; is_best = b.0; score_is = sym b.1; count_is = refl; written = refl })
        (λ e. record { none = λ c. none_finite l n (sound w scored) e c.cut c.is_cut c.is_finite; count_is = refl; kept = refl })

    finite_cut : {after : List ℕ} {score : Float} {count : ℕ} → Found l ids n before after score count → FiniteCut l n
    finite_cut f = best_cut_of.given_exactly.1 (f.cut, f.is_best)

    same_found : {after after' : List ℕ} {score score' : Float} {count count' : ℕ} → Found l ids n before after score count → Found l ids n before after' score' count'
        → ◌≡◌ {A = Outcome} (record { best = Some score; count = count; slots = after }) (record { best = Some score'; count = count'; slots = after' })
    same_found {after} {after'} {score} {score'} {count} {count'} f g =
        let one : f.cut ≡ g.cut = best_cut_of.no_second f.cut g.cut f.is_best g.is_best in
        let s : score ≡ score' = f.score_is ∙ ap (sum f64s l) one ∙ sym g.score_is in
        let c : count ≡ count' = f.count_is ∙ ap length one ∙ sym g.count_is in
        let a : after ≡ after' = f.written ∙ ap (λ (ks : List ℕ). spell ids ks ++ drop count before) one ∙ ap (λ (m : ℕ). spell ids g.cut ++ drop m before) c ∙ sym g.written in
        cc

    pub one_fits : (r s : Outcome) → Fits r → Fits s → r ≡ s
    one_fits r s p q = go r.best s.best p q
      where
        go : (b d : Option Float) → Answers l ids n before r.slots b r.count → Answers l ids n before s.slots d s.count
            → ◌≡◌ {A = Outcome} (record { best = b; count = r.count; slots = r.slots }) (record { best = d; count = s.count; slots = s.slots })
        go (Some x) (Some y) f g = same_found f g
        go (Some x) None f m = absurd (m.none (finite_cut f))
        go None (Some y) m f = absurd (m.none (finite_cut f))
        go None None m o = let c : r.count ≡ s.count = m.count_is ∙ sym o.count_is in let a : r.slots ≡ s.slots = m.kept ∙ sym o.kept in cc

    pub answers_exactly : (r : Outcome) → Fits r ↔ (r ≡ outcome l ids n before)
    answers_exactly r = (λ p. one_fits r (outcome l ids n before) p outcome_fits, λ e. subst Fits (sym e) outcome_fits)

    -- "NoPath": "no cut has a finite sum"
    pub no_path_exactly : (r : Outcome) → Fits r → (r.best ≡ None) ↔ (FiniteCut l n → ⊥)
    no_path_exactly r p = go r.best p
      where
        go : (b : Option Float) → Answers l ids n before r.slots b r.count → (b ≡ None) ↔ (FiniteCut l n → ⊥)
        go (Some x) f = (λ e. let z : ◌≡◌ {A = ℕ} 0 1 = cc in absurd (omega arith), λ none. absurd (none (finite_cut f)))
        go None m = (λ e. m.none, λ none. refl)

  -- ---- what `excluding_core` answers is the best score of the cuts without the piece
  pub excluding_is : (piece : ℕ) (r : Float) → r ≡ best f64s (lattice_of offsets starts ids (without piece scores)) n → BestWithout l ids n piece r
  excluding_is piece r e = subst (BestWithout l ids n piece) (sym e) (best_without offsets starts ids scores n piece w scored)
