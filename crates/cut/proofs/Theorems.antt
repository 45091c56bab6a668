-- Demand 3, second part, of the function that callers call. And no second outcome fits. Assumes nothing.
use mathlib.Core.Path.{◌≡◌, refl, sym, ap, ap₂, ◌∙◌, subst}
use mathlib.Core.Bool.{Bool, true, false}
use mathlib.Core.Logic.{◌↔◌}
use mathlib.Core.List.{List, ◌++◌}
use Prim.Native.Nat.{ℕ}
use native.Mathlib.Nat.{lt_irrefl}
use native.Mathlib.Omega.{arith}
use lib.ListN.{length, drop}
use lib.Ieee.{Float}
use Rattle.std.specs.Prelude.{Result, Ok, Err}
use Rattle.laws.proofs.Outcome.{one_outcome}
use Rattle.refusal.specs.declared.Refusal.{Refusal}
use Rattle.refusal.specs.declared.Refusal.TheVariants.{BadScore}
use Rattle.scores.specs.Cuts.{Cut as IsCut, sum}
use Rattle.scores.specs.Floats.{f64s}
use Rattle.scores.specs.Wins.{Greatest}
use Rattle.scores.specs.Best.{FiniteCut, BestCutTheorem}
use Rattle.scores.proofs.Theorems.{best_cut_theorem}
use Rattle.lent.proofs.Theorems.{one_bad}
use Rattle.viterbi.specs.Walk.{spell}
use Rattle.viterbi.proofs.Shapes.{sound}
use Rattle.cut.specs.declared.Cut.{Cut}
use Rattle.cut.specs.Cut.{Lent, whole_lattice, Formed, Scored, Bad, bad_lattice, bad_score, no_room, Why, bad, no_slots, no_path, Given, Answers, Excludes}
use Rattle.cut.specs.Checked.{Ready}
use Rattle.cut.specs.Sums.{Unasked, bad_lattice as unlinked, no_room as unroomed, Asked, Connects, Expects}
use Rattle.cut.proofs.Cutting.{well_formed}

theorem : (x : Lent) → Formed x → Scored x → BestCutTheorem (whole_lattice x) x.n
theorem x f s = best_cut_theorem (whole_lattice x) x.n (sound (well_formed x f) s)

module _ {x : Lent} {best : List Float} {back path : List ℕ} where
  -- a call that is in order is refused only for want of a path
  never : {refusal : Refusal} → Ready x best back path → FiniteCut (whole_lattice x) x.n → Why x best back path refusal → ⊥
  never r c (bad (bad_lattice n)) = n r.formed
  never r c (bad (bad_score f b)) = b.bad (r.scored _ b.within)
  never r c (bad (no_room f s n)) = n r.rooms
  never r c (no_slots f s m l) = let h = r.slots in lt_irrefl (length path) (omega arith)
  never r c (no_path f s m l n) = n c

-- ---- "a best cut is given exactly when some cut's left-to-right rounded sum is finite; its sum is the greatest there is"
pub record IsBest (x : Lent) (score : Float) : Type 0 where
  pub cut : List ℕ
  pub is_cut : IsCut (whole_lattice x) x.n cut
  pub sum_is : score ≡ sum f64s (whole_lattice x) cut
  pub greatest : Greatest f64s (whole_lattice x) x.n score

pub record Answered (x : Lent) (r : Result Cut Refusal) : Type 0 where
  pub exactly : FiniteCut (whole_lattice x) x.n ↔ ((cut : Cut) × (r ≡ Ok cut))
  pub is_best : (cut : Cut) → r ≡ Ok cut → IsBest x cut.score

ready : {x : Lent} {best : List Float} {back path path' : List ℕ} {score : Float} {count : ℕ} → Given x best back path path' score count → Ready x best back path
ready g = record { formed = g.formed; scored = g.scored; rooms = g.rooms; slots = g.slots }

finite_cut : {x : Lent} {best : List Float} {back path path' : List ℕ} {score : Float} {count : ℕ} → Given x best back path path' score count → FiniteCut (whole_lattice x) x.n
finite_cut {x} g = record { cut = g.found.cut; is_cut = (theorem x g.formed g.scored).is_cut g.found.cut g.found.is_best; is_finite = g.found.is_best.is_finite }

-- Of a lattice that is well formed, scores that are zero or below, and room for all: what `viterbi` answers.
pub answered : (x : Lent) (best : List Float) (back path path' : List ℕ) → Ready x best back path → (r : Result Cut Refusal) → Answers x best back path path' r → Answered x r
answered x best back path path' r (Ok cut) g =
    record {
      exactly = (λ c. (cut, refl), λ _. finite_cut g);
      is_best = λ other e.
          let same : cut.score ≡ other.score = cc in
          let t = theorem x g.formed g.scored in
          let f = g.found in
          record { cut = f.cut; is_cut = t.is_cut f.cut f.is_best; sum_is = sym same ∙ f.score_is; greatest = subst (Greatest f64s (whole_lattice x) x.n) (sym f.score_is ∙ same) (t.greatest f.cut f.is_best) };
    }
answered x best back path path' r (Err refusal) (w, kept) = record { exactly = (λ c. absurd (never r c w), λ (cut, e). absurd cc); is_best = λ cut e. absurd cc }

-- ---- no second outcome
module _ {x : Lent} where
  one_bad_way : {Room : Type 0} {r s : Refusal} → Bad x Room r → Bad x Room s → r ≡ s
  one_bad_way (bad_lattice n) (bad_lattice m) = refl
  one_bad_way (bad_lattice n) (bad_score f b) = absurd (n f)
  one_bad_way (bad_lattice n) (no_room f s m) = absurd (n f)
  one_bad_way (bad_score f b) (bad_lattice m) = absurd (m f)
  one_bad_way (bad_score {id = i} f b) (bad_score {id = j} g c) = ap BadScore (one_bad x.scores i j b c)
  one_bad_way (bad_score f b) (no_room g s m) = absurd (b.bad (s _ b.within))
  one_bad_way (no_room f s n) (bad_lattice m) = absurd (m f)
  one_bad_way (no_room f s n) (bad_score g c) = absurd (c.bad (s _ c.within))
  one_bad_way (no_room f s n) (no_room g t m) = refl

  not_bad : {Room : Type 0} {r : Refusal} → Formed x → Scored x → Room → Bad x Room r → ⊥
  not_bad f s m (bad_lattice n) = n f
  not_bad f s m (bad_score g b) = b.bad (s _ b.within)
  not_bad f s m (no_room g t n) = n m

module _ {x : Lent} {best : List Float} {back path : List ℕ} where
  one_why : {r s : Refusal} → Why x best back path r → Why x best back path s → r ≡ s
  one_why (bad a) (bad b) = one_bad_way a b
  one_why (bad a) (no_slots f s m l) = absurd (not_bad f s m a)
  one_why (bad a) (no_path f s m l n) = absurd (not_bad f s m a)
  one_why (no_slots f s m l) (bad b) = absurd (not_bad f s m b)
  one_why (no_slots f s m l) (no_slots g t o k) = refl
  one_why (no_slots f s m l) (no_path g t o k n) = absurd (lt_irrefl (length path) (omega arith))
  one_why (no_path f s m l n) (bad b) = absurd (not_bad f s m b)
  one_why (no_path f s m l n) (no_slots g t o k) = absurd (lt_irrefl (length path) (omega arith))
  one_why (no_path f s m l n) (no_path g t o k p) = refl

pub no_second : (x : Lent) (best : List Float) (back path path' path'' : List ℕ) (r s : Result Cut Refusal) → Answers x best back path path' r → Answers x best back path path'' s → (path' ≡ path'') × (r ≡ s)
no_second x best back path path' path'' (Ok a) (Ok b) p q =
    let f = p.found in
    let g = q.found in
    let e : f.cut ≡ g.cut = (theorem x p.formed p.scored).no_second f.cut g.cut f.is_best g.is_best in
    let s : a.score ≡ b.score = f.score_is ∙ ap (sum f64s (whole_lattice x)) e ∙ sym g.score_is in
    let n : a.count ≡ b.count = f.count_is ∙ ap length e ∙ sym g.count_is in
    (f.written ∙ ap₂ (λ (k : List ℕ) (m : ℕ). spell x.ids k ++ drop m path) e n ∙ sym g.written, ap₂ (λ (score : Float) (count : ℕ). Ok (record { score = score; count = count })) s n)
no_second x best back path path' path'' (Ok a) (Err t) p (w, kept) = absurd (never (ready p) (finite_cut p) w)
no_second x best back path path' path'' (Err r) (Ok b) (w, kept) q = absurd (never (ready q) (finite_cut q) w)
no_second x best back path path' path'' (Err r) (Err s) (v, k) (w, l) = (one_outcome k l, ap Err (one_why v w))

-- ---- the other calls
pub one_excluded : (x : Lent) (piece : ℕ) (best : List Float) (r s : Result Float Refusal) → Excludes x piece best r → Excludes x piece best s → r ≡ s
one_excluded x piece best (Ok a) (Ok b) p q = ap Ok (one_outcome p.greatest_is q.greatest_is)
one_excluded x piece best (Ok a) (Err s) p q = absurd (not_bad p.formed p.scored p.room q)
one_excluded x piece best (Err r) (Ok b) p q = absurd (not_bad q.formed q.scored q.room p)
one_excluded x piece best (Err r) (Err s) p q = ap Err (one_bad_way p q)

pub one_expected : (x : Lent) (alpha beta emitted emitted' emitted'' : List Float) (r s : Result Float Refusal) → Expects x alpha beta emitted emitted' r → Expects x alpha beta emitted emitted'' s → (emitted' ≡ emitted'') × (r ≡ s)
one_expected x alpha beta emitted emitted' emitted'' (Ok a) (Ok b) p q = (one_outcome p.shares_are q.shares_are, ap Ok (one_outcome p.sum_is q.sum_is))
one_expected x alpha beta emitted emitted' emitted'' (Ok a) (Err s) p (w, k) = absurd (not_bad p.formed p.scored p.rooms w)
one_expected x alpha beta emitted emitted' emitted'' (Err r) (Ok b) (w, k) q = absurd (not_bad q.formed q.scored q.rooms w)
one_expected x alpha beta emitted emitted' emitted'' (Err r) (Err s) (v, k) (w, l) = (one_outcome k l, ap Err (one_bad_way v w))

module _ (offsets starts ids : List ℕ) (n : ℕ) (reach : List ℕ) where
  not_unasked : {P : Type 0} {r : Refusal} → Asked offsets starts ids n reach P → Unasked offsets starts ids n reach r → ⊥
  not_unasked a (unlinked m) = m a.linked
  not_unasked a (unroomed l m) = m a.room

  one_unasked : {r s : Refusal} → Unasked offsets starts ids n reach r → Unasked offsets starts ids n reach s → r ≡ s
  one_unasked (unlinked a) (unlinked b) = refl
  one_unasked (unlinked a) (unroomed l b) = absurd (a l)
  one_unasked (unroomed l a) (unlinked b) = absurd (b l)
  one_unasked (unroomed l a) (unroomed m b) = refl

  pub one_connection : (r s : Result Bool Refusal) → Connects offsets starts ids n reach r → Connects offsets starts ids n reach s → r ≡ s
  one_connection (Ok true) (Ok true) p q = refl
  one_connection (Ok true) (Ok false) p q = absurd (q.answer p.answer)
  one_connection (Ok false) (Ok true) p q = absurd (p.answer q.answer)
  one_connection (Ok false) (Ok false) p q = refl
  one_connection (Ok a) (Err s) p q = absurd (not_unasked p q)
  one_connection (Err r) (Ok b) p q = absurd (not_unasked q p)
  one_connection (Err r) (Err s) p q = ap Err (one_unasked p q)
