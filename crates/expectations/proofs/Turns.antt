-- One turn of each loop over edges. Assumes nothing.
use mathlib.Core.Path.{◌≡◌, refl, sym, ap, ◌∙◌, subst}
use mathlib.Core.Bool.{Bool, true, false, cond}
use mathlib.Core.List.{List, [], ◌∷◌, ◌++◌, append_assoc}
use Prim.Native.Nat.{ℕ, ◌+◌, ◌-◌, ◌≤◌, ◌<◌}
use native.Mathlib.Omega.{arith}
use borrow.Author.Tests.{eqb-true, eqb-false}
use lib.Dec.{eqb}
use lib.ListN.{length, get_or, take, set, length-append}
use lib.Seq.{length-take-le, get_or-set_same, get_or-set_other}
use lib.Ieee.{Float, nan}
use Rattle.math.specs.Steps.{◌⊕◌, ◌⊖◌}
use Rattle.expectations.specs.LogAdd.{log_add}
use Rattle.expectations.specs.Sums.{share, score, until, shares, Added}
use Rattle.expectations.proofs.Filled.{Filled, filled_more}
use Rattle.expectations.proofs.InTurn.{over_more, length_told}

module _ (starts ids : List ℕ) (scores : List Float) where
  -- ---- backward
  module _ (onward : Float) (low : ℕ) where
    abbrev step : ℕ → Float → ℕ → Float
    step p sum k = cond (eqb (get_or starts k 0) p) (log_add sum (score starts ids scores k ⊕ onward)) sum

    chosen : (b : List Float) (p k : ℕ) (v : Float) → get_or starts k 0 < length b → (t : Bool) → eqb (get_or starts k 0) p ≡ t
        → v ≡ log_add (get_or b (get_or starts k 0) nan) (score starts ids scores k ⊕ onward)
        → get_or (set b (get_or starts k 0) v) p nan ≡ cond t (log_add (get_or b p nan) (score starts ids scores k ⊕ onward)) (get_or b p nan)
    chosen b p k v h true e q =
        let s = eqb-true (get_or starts k 0) p e in
        subst (λ (r : ℕ). get_or (set b (get_or starts k 0) v) r nan ≡ log_add (get_or b r nan) (score starts ids scores k ⊕ onward)) s
        (get_or-set_same b (get_or starts k 0) v nan h ∙ q)
    chosen b p k v h false e q = get_or-set_other b (get_or starts k 0) p v nan (λ (s : p ≡ get_or starts k 0). eqb-false (get_or starts k 0) p e (sym s))

    pub added_more : (b₀ b : List Float) {b' : List Float} (k : ℕ) → low ≤ k → get_or starts k 0 < length b
        → Added starts ids scores onward low k b₀ b
        → b' ≡ set b (get_or starts k 0) (log_add (get_or b (get_or starts k 0) nan) (score starts ids scores k ⊕ onward))
        → Added starts ids scores onward low (k + 1) b₀ b'
    added_more b₀ b k l h f e =
        record {
          each = λ p g.
              ap (λ (x : List Float). get_or x p nan) e
              ∙ chosen b p k _ h (eqb (get_or starts k 0) p) refl refl
              ∙ ap (λ (sum : Float). step p sum k) (f.each p g)
              ∙ sym (over_more (step p) (get_or b₀ p nan) low k l);
        }

  -- ---- shares
  module _ (h : List Float) (onward z : Float) (low : ℕ) where
    abbrev front : List Float → ℕ → List Float
    front base k = take low base ++ shares starts ids scores h onward z low k

    abbrev one : ℕ → Float
    one k = share (until starts ids scores h k ⊕ onward ⊖ z)

    abbrev tell : List Float → ℕ → List Float
    tell told k = told ++ (one k ∷ [])

    length_front : (base : List Float) (k : ℕ) → low ≤ k → k ≤ length base → length (front base k) ≡ k
    length_front base k l g =
        let a = length-append (take low base) (shares starts ids scores h onward z low k) in
        let b = length-take-le low base (omega arith) in
        let c = length_told one low (k - low) in
        omega arith

    pub shares_more : (base l : List Float) (k : ℕ) {way told : Float} → low ≤ k → k < length base → way ≡ until starts ids scores h k → told ≡ share (way ⊕ onward ⊖ z)
        → Filled (front base k) base k l → Filled (front base (k + 1)) base (k + 1) (set l k told)
    shares_more base l k {way} {told} a g w t f =
        let is : told ≡ one k = t ∙ ap (λ (x : Float). share (x ⊕ onward ⊖ z)) w in
        let more : front base k ++ (told ∷ []) ≡ front base (k + 1) =
        append_assoc (take low base) (shares starts ids scores h onward z low k) (told ∷ [])
        ∙ ap (λ (x : Float). take low base ++ (shares starts ids scores h onward z low k ++ (x ∷ []))) is
        ∙ ap (λ (x : List Float). take low base ++ x) (sym (over_more tell [] low k a)) in
        subst (λ (x : List Float). Filled x base (k + 1) (set l k told)) more (filled_more told (length_front base k a (omega arith)) g f)
