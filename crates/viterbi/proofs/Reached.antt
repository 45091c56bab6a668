-- Whatever the scores are: where the greatest sum at a position is above minus infinity, an edge reaches it from another such position. So the walk back is a cut. Assumes nothing.
use mathlib.Core.Path.{◌≡◌, refl, ap, ◌∙◌, subst}
use mathlib.Core.Bool.{Bool, true, false}
use mathlib.Core.List.{List}
use Prim.Native.Nat.{ℕ, zero, suc, ◌+◌, ◌-◌, ◌≤◌, ◌<◌}
use native.Mathlib.Nat.{lt_irrefl}
use native.Mathlib.Omega.{arith}
use lib.Ieee.{Float, inf, binary64, add, lt}
use lib.Ieee.Scale.{finite}
use Rattle.scores.specs.Cuts.{Edges, Lattice, Ends, Cut}
use Rattle.scores.specs.Table.{Pick, offered, taken, best_of, table, best, edge, back}
use Rattle.scores.specs.Floats.{f64s}
use Rattle.scores.proofs.Table.{best_suc, table_at}
use Rattle.viterbi.proofs.Floats.{not_above_itself, above_before, finite_above}

-- ---- a pick above minus infinity is what one of the m edges from k on offers
record Source (e : Edges Float) (t : List Float) (k m : ℕ) (pick : Pick Float) : Type 0 where
  pub from : k ≤ pick.via
  pub to : pick.via < k + m
  pub is : pick.top ≡ offered f64s e t pick.via

module _ (e : Edges Float) (t : List Float) (k : ℕ) where
  source_more : (m : ℕ) (pick : Pick Float) → (lt (inf true) pick.top ≡ true → Source e t k m pick) → (b : Bool)
      → lt (inf true) (taken f64s e b pick (offered f64s e t (k + m)) (k + m)).top ≡ true → Source e t k (suc m) (taken f64s e b pick (offered f64s e t (k + m)) (k + m))
  source_more m pick before true h = record { from = omega arith; to = omega arith; is = refl }
  source_more m pick before false h = let s = before h in let l = s.to in record { from = s.from; to = omega arith; is = s.is }

  source : (m : ℕ) → lt (inf true) (best_of f64s e t k m).top ≡ true → Source e t k m (best_of f64s e t k m)
  source zero h = absurd (not_above_itself h)
  source (suc m) h = source_more m (best_of f64s e t k m) (source m) (lt (best_of f64s e t k m).top (offered f64s e t (k + m))) h

-- ---- the walk back
module _ (l : Lattice Float) (n : ℕ) (before : (p k : ℕ) → p ≤ n → Ends l p k → l.edges.start k < p) where
  reached : (m p : ℕ) → p ≤ m → p ≤ n → lt (inf true) (best f64s l p) ≡ true → Cut l p (back f64s l m p)
  reached zero zero a h t = refl
  reached zero (suc p) a h t = absurd (lt_irrefl 0 (omega arith))
  reached (suc m) zero a h t = refl
  reached (suc m) (suc p) a h t =
      let k = edge f64s l (suc p) in
      let s = source l.edges (table f64s l p) (l.low (suc p)) (l.high (suc p) - l.low (suc p)) (subst (λ (x : Float). lt (inf true) x ≡ true) (best_suc f64s l p) t) in
      let from = s.from in
      let to = s.to in
      let ends : Ends l (suc p) k = (from, omega arith) in
      let lower : l.edges.start k < suc p = before (suc p) k h ends in
      let value : best f64s l (suc p) ≡ add binary64 (best f64s l (l.edges.start k)) (l.edges.score k) =
      best_suc f64s l p ∙ s.is ∙ ap (λ (x : Float). add binary64 x (l.edges.score k)) (table_at f64s l p (l.edges.start k) (omega arith)) in
      (ends, reached m (l.edges.start k) (omega arith) (omega arith) (above_before (best f64s l (l.edges.start k)) (l.edges.score k) (subst (λ (x : Float). lt (inf true) x ≡ true) value t)))

  -- a finite greatest sum is above minus infinity
  pub finite_cut : (p : ℕ) → p ≤ n → finite (best f64s l p) ≡ true → Cut l p (back f64s l p p)
  finite_cut p h e = reached p p (omega arith) h (finite_above (best f64s l p) e)
