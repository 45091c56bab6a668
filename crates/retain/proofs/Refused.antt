-- What the check of a remap finds: that it is one, or its lowest wrong entry. Assumes nothing.
use mathlib.Core.Path.{◌≡◌, refl, sym, ap, ◌∙◌, subst}
use mathlib.Core.Bool.{Bool, true, false, cond}
use mathlib.Core.List.{List, [], ◌∷◌}
use Prim.Native.Nat.{ℕ, zero, suc, ◌+◌, ◌<◌}
use native.Mathlib.Nat.{add-zero, zero-add, le_of_suc-le-suc, not-suc-le-zero}
use native.Mathlib.Omega.{arith}
use lib.Dec.{eqb}
use lib.ListN.{take}
use borrow.Author.Tests.{eqb-true, eqb-false, ne_eqb}
use Rattle.lattice.specs.Pruning.{gone, Remap, no_entry, dropped, kept}
use Rattle.refusal.specs.declared.Refusal.TheVariants.{BadRemap}
use Rattle.refusal.specs.declared.Refusal.{Refusal}
use Rattle.std.specs.Prelude.{Result, Ok, Err}
use Rattle.retain.specs.Remaps.{count, Wrong, Lowest, checked_from, checked}

-- ---- an entry is wrong in the rest as it is in the whole; c survivors stand before the first, and c' before the second
shift : (b : Bool) (c n : ℕ) → c + cond b n (suc n) ≡ cond b c (suc c) + n
shift true c n = refl
shift false c n = omega arith

module _ (c r : ℕ) (rs : List ℕ) (b : Bool) (e : eqb r gone ≡ b) where
  before_is : (j : ℕ) → c + count (take (suc j) (r ∷ rs)) ≡ cond b c (suc c) + count (take j rs)
  before_is j = ap (λ (t : Bool). c + cond t (count (take j rs)) (suc (count (take j rs)))) e ∙ shift b c (count (take j rs))

  wrong_later : (j : ℕ) → Wrong (cond b c (suc c)) rs j → Wrong c (r ∷ rs) (suc j)
  wrong_later j w = record { inside = let h = w.inside in omega arith; not_gone = w.not_gone; not_next = λ q. w.not_next (q ∙ before_is j) }

  wrong_sooner : (j : ℕ) → Wrong c (r ∷ rs) (suc j) → Wrong (cond b c (suc c)) rs j
  wrong_sooner j w = record { inside = le_of_suc-le-suc w.inside; not_gone = w.not_gone; not_next = λ q. w.not_next (q ∙ sym (before_is j)) }

-- ---- a remap has no wrong entry
pub no_wrong : {c : ℕ} {remap : List ℕ} → Remap c remap → (j : ℕ) → Wrong c remap j → ⊥
no_wrong no_entry j w = not-suc-le-zero w.inside
no_wrong (dropped r) zero w = w.not_gone refl
no_wrong (dropped {from} {remap} r) (suc j) w = no_wrong r j (wrong_sooner from gone remap true refl j w)
no_wrong (kept {from} n r) zero w = w.not_next (sym (add-zero from))
no_wrong (kept {from} {remap} n r) (suc j) w = no_wrong r j (wrong_sooner from from remap false (ne_eqb from gone n) j w)

-- ---- what is found in the entries from number `entry` on
data Found (c entry : ℕ) (rs : List ℕ) : Result Unit Refusal → Type 0 where
  fits : Remap c rs → Found c entry rs (Ok tt)
  bad : (j : ℕ) → Lowest c rs j → Found c entry rs (Err (BadRemap (entry + j)))

-- the first is right
step : {c entry r : ℕ} {rs : List ℕ} {o : Result Unit Refusal} (b : Bool) → eqb r gone ≡ b → (Wrong c (r ∷ rs) 0 → ⊥) → (Remap (cond b c (suc c)) rs → Remap c (r ∷ rs)) → Found (cond b c (suc c)) (suc entry) rs o → Found c entry (r ∷ rs) o
step b e right more (fits m) = fits (more m)
step {c} {entry} {r} {rs} b e right more (bad j l) =
    let n : entry + suc j ≡ suc entry + j = omega arith in
    subst (λ (k : ℕ). Found c entry (r ∷ rs) (Err (BadRemap k))) n (bad (suc j) (record { wrong = wrong_later c r rs b e j l.wrong; lowest = before }))
  where
    before : (k : ℕ) → k < suc j → Wrong c (r ∷ rs) k → ⊥
    before zero h w = right w
    before (suc k) h w = l.lowest k (le_of_suc-le-suc h) (wrong_sooner c r rs b e k w)

-- the first is not gone
step_kept : (c entry r : ℕ) (rs : List ℕ) → Found (suc c) (suc entry) rs (checked_from (suc c) (suc entry) rs) → eqb r gone ≡ false → (b : Bool) → eqb r c ≡ b
    → Found c entry (r ∷ rs) (cond b (checked_from (suc c) (suc entry) rs) (Err (BadRemap entry)))
step_kept c entry r rs rest e true q =
    let z : r ≡ c = eqb-true r c q in
    step false e (λ w. w.not_next (z ∙ sym (add-zero c))) (λ m. subst (λ (x : ℕ). Remap c (x ∷ rs)) (sym z) (kept (λ g. eqb-false r gone e (z ∙ g)) m)) rest
step_kept c entry r rs rest e false q =
    subst (λ (k : ℕ). Found c entry (r ∷ rs) (Err (BadRemap k))) (add-zero entry)
    (bad 0 (record { wrong = record { inside = omega arith; not_gone = eqb-false r gone e; not_next = λ z. eqb-false r c q (z ∙ add-zero c) }; lowest = λ k h w. not-suc-le-zero h }))

step_any : (c entry r : ℕ) (rs : List ℕ) → ((d : ℕ) → Found d (suc entry) rs (checked_from d (suc entry) rs)) → (b : Bool) → eqb r gone ≡ b → Found c entry (r ∷ rs) (cond b (checked_from c (suc entry) rs) (cond (eqb r c) (checked_from (suc c) (suc entry) rs) (Err (BadRemap entry))))
step_any c entry r rs rest true e =
    let z : r ≡ gone = eqb-true r gone e in
    step true e (λ w. w.not_gone z) (λ m. subst (λ (x : ℕ). Remap c (x ∷ rs)) (sym z) (dropped m)) (rest c)
step_any c entry r rs rest false e = step_kept c entry r rs (rest (suc c)) e (eqb r c) refl

found : (rs : List ℕ) (c entry : ℕ) → Found c entry rs (checked_from c entry rs)
found [] c entry = fits no_entry
found (r ∷ rs) c entry = step_any c entry r rs (λ d. found rs d (suc entry)) (eqb r gone) refl

-- ---- exactly
pub fits_is : (remap : List ℕ) → checked remap ≡ Ok tt → Remap 0 remap
fits_is remap e = go (found remap 0 0) e
  where
    go : {o : Result Unit Refusal} → Found 0 0 remap o → o ≡ Ok tt → Remap 0 remap
    go (fits m) e = m
    go (bad j l) e = let z : ◌≡◌ {A = ℕ} 0 1 = cc in absurd (omega arith)

pub is_fits : (remap : List ℕ) → Remap 0 remap → checked remap ≡ Ok tt
is_fits remap m = go (found remap 0 0)
  where
    go : {o : Result Unit Refusal} → Found 0 0 remap o → o ≡ Ok tt
    go (fits m) = refl
    go (bad j l) = absurd (no_wrong m j l.wrong)

pub refused_is : (remap : List ℕ) (k : ℕ) → checked remap ≡ Err (BadRemap k) → Lowest 0 remap k
refused_is remap k e = go (found remap 0 0) e
  where
    go : {o : Result Unit Refusal} → Found 0 0 remap o → o ≡ Err (BadRemap k) → Lowest 0 remap k
    go (fits m) e = let z : ◌≡◌ {A = ℕ} 0 1 = cc in absurd (omega arith)
    go (bad j l) e = let z : 0 + j ≡ k = cc in subst (Lowest 0 remap) (sym (zero-add j) ∙ z) l

-- two lowest entries are one
one_lowest : {c : ℕ} {rs : List ℕ} {j k : ℕ} → Lowest c rs j → Lowest c rs k → j ≡ k
one_lowest {c} {rs} {j} {k} p q =
    let a : j < k → ⊥ = λ h. q.lowest j h p.wrong in
    let b : k < j → ⊥ = λ h. p.lowest k h q.wrong in
    omega arith

pub is_refused : (remap : List ℕ) (k : ℕ) → Lowest 0 remap k → checked remap ≡ Err (BadRemap k)
is_refused remap k q = go (found remap 0 0)
  where
    go : {o : Result Unit Refusal} → Found 0 0 remap o → o ≡ Err (BadRemap k)
    go (fits m) = absurd (no_wrong m k q.wrong)
    go (bad j l) = ap (λ (n : ℕ). Err (BadRemap n)) (zero-add j ∙ one_lowest l q)
