-- One turn of each loop over ends. Assumes nothing.
use mathlib.Core.Path.{◌≡◌, refl, sym, ap, ap₂, ◌∙◌, subst}
use mathlib.Core.List.{List, [], ◌∷◌, ◌++◌}
use Prim.Native.Nat.{ℕ, zero, suc, ◌+◌, ◌-◌, ◌≤◌, ◌<◌}
use native.Mathlib.Numerals.{add-one}
use native.Mathlib.Omega.{arith}
use lib.ListN.{length, get_or, take, drop, set, length-append, length-drop}
use lib.Seq.{drop-append-add, drop-drop}
use lib.Ieee.{Float, nan}
use Rattle.math.specs.Steps.{◌⊕◌, ◌⊖◌}
use Rattle.formed.specs.Word.{WordFormed}
use Rattle.connected.specs.Word.{Starting, Naming, low, high}
use Rattle.connected.proofs.Word.{first, starting, naming}
use Rattle.expectations.specs.Sums.{share, until, forward_sum, backward_sum, shares, alphas, beta_by, shares_to, Added, Holds}
use Rattle.expectations.proofs.Filled.{Filled, filled_more, filled_part}
use Rattle.expectations.proofs.InTurn.{length_told}

module _ {offsets starts ids : List ℕ} (scores : List Float) {n : ℕ} (w : WordFormed offsets starts ids (length scores) n) where
  -- what a loop over the edges of one end asks, of m sums that it reads or writes
  pub at_end : (end m : ℕ) {from to : ℕ} → end ≤ n → end ≤ m → from ≡ low offsets end → to ≡ high offsets end → Starting starts m from to × Naming ids (length scores) from to
  at_end end m a b f t =
      rw (f, t) (
        record { rises = (starting w end a).rises; edges_in = (starting w end a).edges_in; before = λ k x y. let l = (starting w end a).before k x y in omega arith },
        naming w end a,
      )

  -- ---- the shares
  module _ (h : List Float) (beta : ℕ → Float) (z : Float) where
    abbrev to_end : ℕ → List Float
    to_end p = shares_to offsets starts ids scores h beta z p

    abbrev of_end : ℕ → List Float
    of_end p = shares starts ids scores h (beta p) z (low offsets p) (high offsets p)

    to_more : (p : ℕ) → to_end (p + 1) ≡ to_end p ++ of_end p
    to_more p = ap to_end (add-one p)

    pub length_to : (p : ℕ) → p ≤ n + 1 → length (to_end p) ≡ low offsets p
    length_to zero l = sym (first w)
    length_to (suc p) l =
        let a = length-append (to_end p) (of_end p) in
        let b = length_told (λ k. share (until starts ids scores h k ⊕ beta p ⊖ z)) (low offsets p) (high offsets p - low offsets p) in
        let c = length_to p (omega arith) in
        let d = (starting w p (omega arith)).rises in
        let e : high offsets p ≡ low offsets (suc p) = ap (λ (k : ℕ). get_or offsets k 0) (add-one p) in
        omega arith

    rest : (front base : List Float) (from d : ℕ) → length front ≡ from → drop (from + d) (front ++ drop from base) ≡ drop (from + d) base
    rest front base from d e = subst (λ (k : ℕ). drop (k + d) (front ++ drop from base) ≡ drop (from + d) base) e (drop-append-add front (drop from base) d ∙ drop-drop d from base)

    pub emit_more : (base l : List Float) {l' : List Float} (end : ℕ) {from to : ℕ} {onward : Float} → end ≤ n → length starts ≤ length base
        → from ≡ low offsets end → to ≡ high offsets end → onward ≡ beta end
        → Filled (to_end end) base (low offsets end) l
        → l' ≡ (take from l ++ shares starts ids scores h onward z from to) ++ drop to l
        → Filled (to_end (end + 1)) base (low offsets (end + 1)) l'
    emit_more base l {l'} end {from} {to} {onward} a s f t o filled e =
        let s' = starting w end a in
        let long = length_to end (omega arith) in
        let split : low offsets end + (high offsets end - low offsets end) ≡ high offsets end = omega arith in
        let behind : drop (high offsets end) l ≡ drop (high offsets end) base =
        subst (λ (k : ℕ). drop k l ≡ drop k base) split (ap (drop (low offsets end + (high offsets end - low offsets end))) filled.is ∙ rest (to_end end) base (low offsets end) (high offsets end - low offsets end) long) in
        let is : l' ≡ to_end (end + 1) ++ drop (high offsets end) base =
        e
        ∙ ap₂ (λ (i j : ℕ). (take i l ++ shares starts ids scores h onward z i j) ++ drop j l) f t
        ∙ ap (λ (x : Float). (take (low offsets end) l ++ shares starts ids scores h x z (low offsets end) (high offsets end)) ++ drop (high offsets end) l) o
        ∙ ap₂ (λ (x y : List Float). (x ++ of_end end) ++ y) (filled_part long filled) behind
        ∙ ap (λ (x : List Float). x ++ drop (high offsets end) base) (sym (to_more end)) in
        let one = length-append (to_end (end + 1)) (drop (high offsets end) base) in
        let two = length_to (end + 1) (omega arith) in
        let three = length-drop (high offsets end) base in
        let four = ap length is in
        record { is = is; long = omega arith }

-- ---- the sums from position 0
module _ (offsets starts ids : List ℕ) (scores : List Float) where
  alphas_more : (p : ℕ) → alphas offsets starts ids scores (p + 1) ≡ alphas offsets starts ids scores p ++ (forward_sum starts ids scores (alphas offsets starts ids scores p) (low offsets (p + 1)) (high offsets (p + 1)) ∷ [])
  alphas_more p = rw add-one

  pub length_alphas : (p : ℕ) → length (alphas offsets starts ids scores p) ≡ p + 1
  length_alphas zero = refl
  length_alphas (suc p) =
      let a = length-append (alphas offsets starts ids scores p) (forward_sum starts ids scores (alphas offsets starts ids scores p) (low offsets (suc p)) (high offsets (suc p)) ∷ []) in
      let b = length_alphas p in
      omega arith

  pub forward_end_more : (base l : List Float) (q : ℕ) {from to : ℕ} {r : Float} → q + 1 < length base → from ≡ low offsets (q + 1) → to ≡ high offsets (q + 1)
      → Filled (alphas offsets starts ids scores q) base (q + 1) l
      → r ≡ forward_sum starts ids scores (take (q + 1) l) from to
      → Filled (alphas offsets starts ids scores (q + 1)) base (q + 1 + 1) (set l (q + 1) r)
  forward_end_more base l q {from} {to} {r} h f t filled e =
      let is : r ≡ forward_sum starts ids scores (alphas offsets starts ids scores q) (low offsets (q + 1)) (high offsets (q + 1)) =
      e
      ∙ ap (λ (x : List Float). forward_sum starts ids scores x from to) (filled_part (length_alphas q) filled)
      ∙ ap₂ (λ (i j : ℕ). forward_sum starts ids scores (alphas offsets starts ids scores q) i j) f t in
      rw (alphas_more q, ← is) (filled_more r (length_alphas q) h filled)

  -- ---- the sums to position n
  pub holds_more : (n d : ℕ) (b : List Float) {b' : List Float} {end from to : ℕ} {onward : Float} → n < length b → end ≡ n - d → onward ≡ get_or b end nan → from ≡ low offsets end → to ≡ high offsets end
      → Holds offsets starts ids scores n d b → Added starts ids scores onward from to b b' → Holds offsets starts ids scores n (d + 1) b'
  holds_more n d b {b'} {end} {from} {to} {onward} h e o f t holds added =
      let on : onward ≡ beta_by offsets starts ids scores n d (n - d) = o ∙ holds.each end (omega arith) ∙ ap (beta_by offsets starts ids scores n d) e in
      rw (add-one d) (record {
        each = λ p l.
            added.each p (omega arith)
            ∙ ap₂ (λ (x y : Float). backward_sum starts ids scores p x y from to) on (holds.each p l)
            ∙ ap₂ (λ (i j : ℕ). backward_sum starts ids scores p (beta_by offsets starts ids scores n d (n - d)) (beta_by offsets starts ids scores n d p) i j) (f ∙ ap (low offsets) e) (t ∙ ap (high offsets) e);
      })
