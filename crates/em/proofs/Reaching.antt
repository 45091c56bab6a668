-- The test of a word's connection says whether it has a cut. Assumes nothing.
use Rattle.std.proofs.Common.{◌≡◌, ℕ, zero, suc, ◌+◌, ◌-◌, ◌<◌, ◌≤◌, Bool, true, false, ◌||◌, List, [], ◌∷◌, length, get_or, sym, refl, ap, ◌∙◌, subst, true≢false, arith, length-append}
use native.Mathlib.Decide.{dec_lt}
use lib.ListN.{get_or-append}
use lib.Seq.{get_or_at}
use Rattle.laws.specs.Tests.{Says}
use Rattle.laws.proofs.Tests.{says_with, said_yes, says_true}
use Rattle.formed.specs.Word.{WordFormed}
use Rattle.connected.specs.Word.{Starting, low, high}
use Rattle.connected.specs.Cut.{Cut, Connected}
use Rattle.connected.proofs.Word.{starting}
use Rattle.expectations.specs.Edges.{in_turn}
use Rattle.em.specs.Reach.{reached, connects}

-- ---- one of n edges from `low` on passes a test
pub record Found (f : ℕ → Bool) (low n : ℕ) : Type 0 where
  pub edge : ℕ
  pub not_before : low ≤ edge
  pub not_after : edge < low + n
  pub passes : f edge ≡ true

nothing : (low k : ℕ) → low ≤ k → k < low + 0 → ⊥
nothing low k a b = omega arith

module _ (f : ℕ → Bool) (low n : ℕ) where
  last_one : (k : ℕ) → k < low + suc n → ¬ (k < low + n) → k ≡ low + n
  last_one k a b = omega arith

  more : (t u : Bool) → f (low + n) ≡ u → Says t (Found f low n) → Says (t || u) (Found f low (suc n))
  more true u e s = let a = s.not_after in record { edge = s.edge; not_before = s.not_before; not_after = omega arith; passes = s.passes }
  more false true e s = record { edge = low + n; not_before = omega arith; not_after = omega arith; passes = e }
  more false false e s = λ i. elim (dec_lt i.edge (low + n)) [
    | yes l ↦ s (record { edge = i.edge; not_before = i.not_before; not_after = l; passes = i.passes })
    | no l ↦ true≢false (sym i.passes ∙ ap f (last_one i.edge i.not_after l) ∙ e)
  ]

found : (f : ℕ → Bool) (low n : ℕ) → Says (in_turn (λ t k. t || f k) false low n) (Found f low n)
found f low zero = λ i. nothing low i.edge i.not_before i.not_after
found f low (suc n) = more f low n (in_turn (λ t k. t || f k) false low n) (f (low + n)) refl (found f low n)

module _ (offsets starts : List ℕ) where
  pub length_reached : (p : ℕ) → length (reached offsets starts p) ≡ suc p
  length_reached zero = refl
  length_reached (suc p) = let b = length_reached p in length-append (reached offsets starts p) _ ∙ omega arith

  -- the test at each position up to p
  abbrev Marks : ℕ → Type 0
  Marks p = (q : ℕ) → q ≤ p → Says (get_or (reached offsets starts p) q false) (Connected offsets starts q)

  -- an edge from a reached position continues its chain; and a chain ends with such an edge
  module _ (p : ℕ) (m : Marks p) (s : Starting starts (suc p) (low offsets (suc p)) (high offsets (suc p))) where
    abbrev from : ℕ → Bool
    from k = get_or (reached offsets starts p) (get_or starts k 0) false

    abbrev Here : Type 0
    Here = Found from (low offsets (suc p)) (high offsets (suc p) - low offsets (suc p))

    there : (k : ℕ) → low offsets (suc p) ≤ k → k < high offsets (suc p) → Says (from k) (Connected offsets starts (get_or starts k 0))
    there k a b = let l = s.before k a b in m (get_or starts k 0) (omega arith)

    longer : Here → Connected offsets starts (suc p)
    longer i =
        let r = s.rises in
        let a = i.not_after in
        let inside : i.edge < high offsets (suc p) = omega arith in
        let before = said_yes (from i.edge) i.passes (there i.edge i.not_before inside) in
        record { edges = i.edge ∷ before.edges; cut = (i.not_before, inside, before.cut) }

    shorter : (ks : List ℕ) → Cut offsets starts (suc p) ks → Here
    shorter [] c = absurd (not_nought c)
      where
        not_nought : suc p ≡ 0 → ⊥
        not_nought e = omega arith
    shorter (k ∷ ks) c =
        let a = c.0 in
        let b = c.1 in
        record { edge = k; not_before = a; not_after = omega arith; passes = says_true (from k) (there k a b) (record { edges = ks; cut = c.2 }) }

    next : Says (in_turn (λ t k. t || from k) false (low offsets (suc p)) (high offsets (suc p) - low offsets (suc p))) (Connected offsets starts (suc p))
    next = says_with (in_turn (λ t k. t || from k) false (low offsets (suc p)) (high offsets (suc p) - low offsets (suc p))) longer (λ c. shorter c.edges c.cut) (found from (low offsets (suc p)) (high offsets (suc p) - low offsets (suc p)))

    marks_more : Marks (suc p)
    marks_more q l = elim (dec_lt q (suc p)) [
      | yes a ↦
          let long = length_reached p in
          subst (λ (t : Bool). Says t (Connected offsets starts q)) (sym (get_or-append (reached offsets starts p) _ false q (omega arith))) (m q (omega arith))
      | no a ↦
          let e : suc p ≡ q = omega arith in
          subst (λ (r : ℕ). Says (get_or (reached offsets starts (suc p)) r false) (Connected offsets starts r)) e
          (subst (λ (t : Bool). Says t (Connected offsets starts (suc p))) (sym (get_or_at (reached offsets starts p) _ [] false (suc p) (length_reached p))) next)
    ]

  marks : {ids : List ℕ} {pieces n : ℕ} → WordFormed offsets starts ids pieces n → (p : ℕ) → p ≤ n → Marks p
  marks w zero l q h = let e : 0 ≡ q = omega arith in subst (λ (r : ℕ). Says (get_or (reached offsets starts 0) r false) (Connected offsets starts r)) e (record { edges = []; cut = refl })
  marks w (suc p) l q h = marks_more p (marks w p (omega arith)) (starting w (suc p) l) q h

  pub connects_says : {ids : List ℕ} {pieces n : ℕ} → WordFormed offsets starts ids pieces n → Says (connects offsets starts n) (Connected offsets starts n)
  unfolding connects
  connects_says {n = n} w = marks w n (omega arith) n (omega arith)
