-- The table without a piece gives the best score of the cuts without it. Assumes nothing.
use mathlib.Core.Path.{◌≡◌, refl, sym, ap₂, ◌∙◌, subst}
use mathlib.Core.Bool.{Bool, true, false}
use mathlib.Core.Logic.{◌⊎◌, inl, inr}
use mathlib.Core.List.{List, [], ◌∷◌}
use Prim.Native.Nat.{ℕ, ◌≤◌, ◌<◌}
use native.Mathlib.Nat.{le_refl}
use native.Mathlib.Omega.{arith}
use lib.Dec.{T, eqb}
use lib.ListN.{length, get_or, length-set}
use lib.Ieee.{Float, nan, inf, fin, binary64, add}
use lib.Ieee.Scale.{finite}
use borrow.Author.Tests.{eqb-true, eqb-false}
use Rattle.laws.proofs.Choices.{yes}
use Rattle.scores.specs.Cuts.{Lattice, Cut, sum}
use Rattle.scores.specs.Table.{best, best_cut}
use Rattle.scores.specs.Floats.{ZeroOrBelow, f64s}
use Rattle.scores.proofs.Winner.{best_in, sum_in, table_greatest}
use Rattle.scores.proofs.Floats.{f64_laws, above_bottom, finite_before}
use Rattle.scores.proofs.Theorems.{best_finite, best_cut_theorem}
use Rattle.formed.specs.Word.{WordFormed}
use Rattle.viterbi.specs.Slices.{lattice_of, without, WellFormed, Scored}
use Rattle.viterbi.specs.Excluding.{Avoids, CutWithout, BestWithout}
use Rattle.viterbi.proofs.Offers.{excluded_score, other_stays}
use Rattle.viterbi.proofs.Shapes.{end_of, sound}

never_finite : (x : Float) → T (finite (add binary64 x (inf true))) → ⊥
unfolding add
never_finite nan h = h
never_finite (inf true) h = h
never_finite (inf false) h = h
never_finite (fin s m e) h = h

module _ (offsets starts ids : List ℕ) (scores : List Float) (n piece : ℕ) (w : WellFormed offsets starts ids scores n) (scored : Scored scores) where
  -- the word's lattice, and the same where an edge of the piece offers nothing
  abbrev l : Lattice Float
  l = lattice_of offsets starts ids scores

  abbrev thinned : Lattice Float
  thinned = lattice_of offsets starts ids (without piece scores)

  -- ---- the lattice without the piece is as sound
  thinned_formed : WellFormed offsets starts ids (without piece scores) n
  thinned_formed = record { word = subst (λ (m : ℕ). WordFormed offsets starts ids m n) (sym (length-set scores piece (inf true))) w.word }

  thinned_scored : Scored (without piece scores)
  thinned_scored id h =
      let inside : id < length scores = subst (λ (m : ℕ). id < m) (length-set scores piece (inf true)) h in
      go inside (eqb id piece) refl
    where
      go : id < length scores → (b : Bool) → eqb id piece ≡ b → ZeroOrBelow (get_or (without piece scores) id nan)
      go inside true e = subst ZeroOrBelow (sym (excluded_score scores piece id inside (eqb-true id piece e))) tt
      go inside false e = subst ZeroOrBelow (sym (other_stays scores piece id (eqb-false id piece e))) (scored id inside)

  -- ---- its cuts are the same, and so are the sums of those that avoid the piece
  fewer : (p : ℕ) (ks : List ℕ) → Cut l p ks → Cut thinned p ks
  fewer p [] c = c
  fewer p (k ∷ ks) c = (c.0, fewer (get_or starts k 0) ks c.1)

  again : (p : ℕ) (ks : List ℕ) → Cut thinned p ks → Cut l p ks
  again p [] c = c
  again p (k ∷ ks) c = (c.0, again (get_or starts k 0) ks c.1)

  same_sum : (ks : List ℕ) → Avoids ids piece ks → sum f64s thinned ks ≡ sum f64s l ks
  same_sum [] a = refl
  same_sum (k ∷ ks) a = ap₂ (add binary64) (same_sum ks a.1) (other_stays scores piece (get_or ids k 0) a.0)

  -- ---- a finite sum avoids the piece
  avoids : (p : ℕ) → p ≤ n → (ks : List ℕ) → Cut thinned p ks → T (finite (sum f64s thinned ks)) → Avoids ids piece ks
  avoids p h [] c t = tt
  avoids p h (k ∷ ks) c t =
      let before = ((end_of w p h).each k c.0.0 c.0.1).before in
      let named = ((end_of w p h).each k c.0.0 c.0.1).named in
      let rest = finite_before (sum f64s thinned ks) (thinned.edges.score k) (sum_in f64s f64_laws thinned n (sound thinned_formed thinned_scored) ks (get_or starts k 0) (omega arith) c.1) ((sound thinned_formed thinned_scored).scored p k h c.0) t in (
        λ e. never_finite (sum f64s thinned ks) (subst (λ (s : Float). T (finite (add binary64 (sum f64s thinned ks) s))) (excluded_score scores piece (get_or ids k 0) named e) t),
        avoids (get_or starts k 0) (omega arith) ks c.1 rest,
      )

  pub best_without : BestWithout l ids n piece (best f64s thinned n)
  best_without =
      record {
        greatest = λ ks c a. subst (λ (s : Float). f64s.less (best f64s thinned n) s ≡ false) (same_sum ks a) (table_greatest f64s f64_laws thinned n (sound thinned_formed thinned_scored) n (le_refl n) ks (fewer n ks c));
        source = go (finite (best f64s thinned n)) refl;
      }
    where
      go : (b : Bool) → finite (best f64s thinned n) ≡ b → CutWithout l ids n piece (best f64s thinned n) ⊎ (best f64s thinned n ≡ inf true)
      go true e =
          let b = best_finite thinned n (sound thinned_formed thinned_scored) (yes e) in
          let c = (best_cut_theorem thinned n (sound thinned_formed thinned_scored)).is_cut (best_cut f64s thinned n) b.0 in
          let a = avoids n (le_refl n) (best_cut f64s thinned n) c b.0.is_finite in
          inl (record { cut = best_cut f64s thinned n; is_cut = again n (best_cut f64s thinned n) c; avoids = a; sum_is = sym (same_sum (best_cut f64s thinned n) a) ∙ b.1; is_finite = yes e })
      go false e =
          let b = best_in f64s f64_laws thinned n (sound thinned_formed thinned_scored) n (le_refl n) in
          inr (f64_laws.only b (above_bottom (best f64s thinned n) b ∙ e))
