-- Marks of the positions that are reached: none at first, then one position more at each turn. Assumes nothing.
use mathlib.Core.Path.{◌≡◌, refl, sym, ◌∙◌, subst}
use mathlib.Core.Bool.{Bool, true, false}
use mathlib.Core.List.{List, [], ◌∷◌}
use Prim.Native.Nat.{ℕ, ◌+◌, ◌≤◌, ◌<◌}
use native.Mathlib.Omega.{arith}
use native.Mathlib.Decide.{dec_lt}
use borrow.Author.Tests.{eqb-true}
use lib.Dec.{eqb}
use lib.ListN.{length, get_or, take, set}
use lib.Seq.{length-take-le, get_or-set_same, get_or-set_other, get_or-take}
use Rattle.laws.specs.Tests.{Says}
use Rattle.connected.specs.Word.{Linked, Starting, low, high}
use Rattle.connected.specs.Cut.{Cut, Connected}
use mir.Val.{bool_byte}
use Rattle.connected.specs.Marks.{Into}
use Rattle.connected.proofs.Word.{link}

module _ (offsets starts : List ℕ) where
  -- the mark of each position up to `end` says whether a chain reaches it
  abbrev pub Marks : List ℕ → ℕ → Type 0
  Marks reach end = (p : ℕ) → p ≤ end → Says (eqb (get_or reach p 0) 1) (Connected offsets starts p)

  -- an edge from a marked position continues its chain; and a chain ends with such an edge
  module _ (reach : List ℕ) (q : ℕ) (m : Marks reach q) (s : Starting starts (q + 1) (low offsets (q + 1)) (high offsets (q + 1))) where
    abbrev Here : Type 0
    Here = Into starts (take (q + 1) reach) (low offsets (q + 1)) (high offsets (q + 1))

    marked_before : (k : ℕ) → low offsets (q + 1) ≤ k → k < high offsets (q + 1) → Says (eqb (get_or (take (q + 1) reach) (get_or starts k 0) 0) 1) (Connected offsets starts (get_or starts k 0))
    marked_before k a b =
        let l = s.before k a b in
        subst (λ (x : ℕ). Says (eqb x 1) (Connected offsets starts (get_or starts k 0))) (sym (get_or-take (q + 1) reach (get_or starts k 0) 0 l)) (m (get_or starts k 0) (omega arith))

    longer : Here → Connected offsets starts (q + 1)
    longer i =
        let there = marked_before i.edge i.not_before i.not_after in
        let before : Connected offsets starts (get_or starts i.edge 0) = subst (λ (x : ℕ). Says (eqb x 1) (Connected offsets starts (get_or starts i.edge 0))) i.marked there in
        record { edges = i.edge ∷ before.edges; cut = (i.not_before, i.not_after, before.cut) }

    shorter : (ks : List ℕ) → Cut offsets starts (q + 1) ks → Here
    shorter [] c = absurd (not_nought c)
      where
        not_nought : q + 1 ≡ 0 → ⊥
        not_nought e = omega arith
    shorter (k ∷ ks) c = record { edge = k; not_before = c.0; not_after = c.1; marked = one (eqb (get_or (take (q + 1) reach) (get_or starts k 0) 0) 1) refl (marked_before k c.0 c.1) }
      where
        one : (b : Bool) → eqb (get_or (take (q + 1) reach) (get_or starts k 0) 0) 1 ≡ b → Says b (Connected offsets starts (get_or starts k 0)) → get_or (take (q + 1) reach) (get_or starts k 0) 0 ≡ 1
        one true e t = eqb-true _ _ e
        one false e t = absurd (t (record { edges = ks; cut = c.2 }))

    same : (b : Bool) → Says b Here → Says (eqb (bool_byte b) 1) (Connected offsets starts (q + 1))
    same true i = longer i
    same false i = λ c. i (shorter c.edges c.cut)

    pub marks_more : (b : Bool) (mark : ℕ) → mark ≡ bool_byte b → q + 1 < length reach → Says b Here → Marks (set reach (q + 1) mark) (q + 1)
    marks_more b mark e h i p l = elim (dec_lt p (q + 1)) [
      | yes a ↦ subst (λ (x : ℕ). Says (eqb x 1) (Connected offsets starts p)) (sym (get_or-set_other reach (q + 1) p mark 0 (differ a))) (m p (omega arith))
      | no a ↦ subst (λ (r : ℕ). Says (eqb (get_or (set reach (q + 1) mark) r 0) 1) (Connected offsets starts r)) (here a) (subst (λ (x : ℕ). Says (eqb x 1) (Connected offsets starts (q + 1))) (sym (get_or-set_same reach (q + 1) mark 0 h ∙ e)) (same b i))
    ]
      where
        differ : p < q + 1 → p ≡ q + 1 → ⊥
        differ a e = omega arith

        here : ¬ (p < q + 1) → q + 1 ≡ p
        here a = omega arith

-- ---- one turn, by what the code has read
module _ {offsets starts : List ℕ} (reach : List ℕ) {q n from to : ℕ} (l : Linked offsets starts n) (h : q < n) (a : from ≡ low offsets (q + 1)) (b : to ≡ high offsets (q + 1)) where
  pub may_ask : q + 1 ≤ length reach → Starting starts (length (take (q + 1) reach)) from to
  may_ask r = rw (length-take-le (q + 1) reach r, a, b) (link l (q + 1) (omega arith))

  pub turn : Marks offsets starts reach q → (r : Bool) (mark : ℕ) → mark ≡ bool_byte r → q + 1 < length reach → Says r (Into starts (take (q + 1) reach) from to) → Marks offsets starts (set reach (q + 1) mark) (q + 1)
  turn m r mark e g s = marks_more offsets starts reach q m (link l (q + 1) (omega arith)) r mark e g (rw (a, b) at s)
