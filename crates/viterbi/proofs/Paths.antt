-- From the forward pass to the path, whatever the scores are. Assumes nothing.
use mathlib.Core.Path.{◌≡◌, refl, sym, ap, ◌∙◌}
use mathlib.Core.Bool.{Bool, true, false, cond}
use mathlib.Core.List.{List, [], ◌++◌, map}
use Prim.Native.Nat.{ℕ, zero, suc, ◌+◌, ◌≤◌, ◌<◌}
use native.Mathlib.Nat.{le_refl}
use native.Mathlib.Omega.{arith}
use lib.ListN.{length, get_or, drop, length-map, length-reverse}
use lib.Ieee.{Float, nan}
use lib.Ieee.Scale.{finite}
use Rattle.laws.proofs.Choices.{cond_cases}
use Rattle.scores.specs.Cuts.{Lattice, Ends, Cut}
use Rattle.scores.specs.Table.{best, edge, back, best_cut}
use Rattle.scores.specs.Floats.{f64s}
use Rattle.viterbi.specs.Slices.{lattice_of, WellFormed}
use Rattle.viterbi.specs.Walk.{Walk, spell}
use Rattle.viterbi.specs.Path.{path}
use Rattle.viterbi.proofs.Shapes.{end_of, equally_many}
use Rattle.viterbi.proofs.Walks.{walk_short}
use Rattle.viterbi.proofs.Reached.{finite_cut}
use Rattle.viterbi.proofs.Passed.{top_is, back_is, Passed}

pub spelt_long : (ids cut : List ℕ) → length (spell ids cut) ≡ length cut
spelt_long ids cut = length-reverse (map (λ k. get_or ids k 0) cut) ∙ length-map cut (λ k. get_or ids k 0)

module _ (offsets starts ids : List ℕ) (scores : List Float) (n : ℕ) where
  abbrev l : Lattice Float
  l = lattice_of offsets starts ids scores

  -- ---- the path, by the code's test
  pub path_found : finite (best f64s l n) ≡ true → path offsets starts ids n scores ≡ spell ids (best_cut f64s l n)
  unfolding path
  path_found e = ap (λ (b : Bool). cond b (spell ids (best_cut f64s l n)) []) e

  pub path_none : finite (best f64s l n) ≡ false → path offsets starts ids n scores ≡ []
  unfolding path
  path_none e = ap (λ (b : Bool). cond b (spell ids (best_cut f64s l n)) []) e

  module _ (w : WellFormed offsets starts ids scores n) where
    before : (p k : ℕ) → p ≤ n → Ends l p k → l.edges.start k < p
    before p k h a = ((end_of w p h).each k a.0 a.1).before

    best_is_cut : finite (best f64s l n) ≡ true → Cut l n (best_cut f64s l n)
    best_is_cut = finite_cut l n before n (le_refl n)

    -- ---- there is no path, or it spells a cut
    pub path_cases {κ} : (P : List ℕ → Type κ) → P [] → ((cut : List ℕ) → Cut l n cut → P (spell ids cut)) → P (path offsets starts ids n scores)
    unfolding path
    path_cases P none some = cond_cases P (finite (best f64s l n)) (spell ids (best_cut f64s l n)) [] (λ e. some (best_cut f64s l n) (best_is_cut e)) (λ e. none)

    -- ---- a cut of the edges that the pass leaves is a walk
    walk_of : (b : List ℕ) → ((q : ℕ) → q ≤ n → get_or b q 0 ≡ edge f64s l q) → (m p : ℕ) → p ≤ n → Cut l p (back f64s l m p) → Walk b starts ids p (back f64s l m p)
    walk_of b e zero p h v = v
    walk_of b e (suc m) zero h v = refl
    walk_of b e (suc m) (suc p) h v =
        let k = edge f64s l (suc p) in
        let c = (end_of w (suc p) h).counted in
        let f = before (suc p) k h v.0 in
        let o = equally_many w in
        let a = v.0.1 in
        (record { above = omega arith; is = e (suc p) h; in_starts = omega arith; in_ids = omega arith; lower = f }, walk_of b e m _ (omega arith) v.1)

    module _ (sums b : List Float) (edges k : List ℕ) (pass : Passed l n sums b edges k) where
      top_finite : {t : Bool} → finite (get_or b n nan) ≡ t → finite (best f64s l n) ≡ t
      top_finite e = sym (ap finite (top_is l n (drop (n + 1) sums) b pass.best_is)) ∙ e

      pub has_walk : finite (get_or b n nan) ≡ true → Walk k starts ids n (best_cut f64s l n)
      has_walk e = walk_of k (back_is l n (drop (n + 1) edges) k pass.back_is) n n (le_refl n) (best_is_cut (top_finite e))

      pub short_walk : finite (get_or b n nan) ≡ true → length (best_cut f64s l n) ≤ n
      short_walk e = walk_short k starts ids n (best_cut f64s l n) (has_walk e)

      pub spells : finite (get_or b n nan) ≡ true → (out after : List ℕ) (count : ℕ) → count ≡ length (best_cut f64s l n) → after ≡ spell ids (best_cut f64s l n) ++ drop count out
          → (count ≡ length (path offsets starts ids n scores)) × (after ≡ path offsets starts ids n scores ++ drop count out)
      spells e out after count c written =
          let p = sym (path_found (top_finite e)) in
          (c ∙ sym (spelt_long ids (best_cut f64s l n)) ∙ ap length p, written ∙ ap (λ (ids : List ℕ). ids ++ drop count out) p)

      pub spells_none : finite (get_or b n nan) ≡ false → (out : List ℕ) → (0 ≡ length (path offsets starts ids n scores)) × (out ≡ path offsets starts ids n scores ++ out)
      spells_none e out = let p = sym (path_none (top_finite e)) in (ap length p, ap (λ (ids : List ℕ). ids ++ out) p)
