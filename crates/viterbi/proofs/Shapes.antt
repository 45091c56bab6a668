-- What a well-formed lattice gives the loops and the theorem. Assumes nothing.
use mathlib.Core.Path.{◌≡◌, ap, subst}
use mathlib.Core.List.{List}
use Prim.Native.Nat.{ℕ, zero, suc, ◌+◌, ◌-◌, ◌≤◌, ◌<◌}
use native.Mathlib.Nat.{zero-add}
use native.Mathlib.Omega.{arith}
use lib.ListN.{length, get_or}
use lib.Ieee.{Float}
use Rattle.formed.specs.Formed.{EdgeFormed, offset}
use Rattle.formed.proofs.Edges.{same_first}
use Rattle.scores.specs.Cuts.{Sound}
use Rattle.scores.specs.Floats.{ZeroOrBelow}
use Rattle.formed.specs.Word.{whole}
use Rattle.viterbi.specs.Slices.{lattice_of, WellFormed, Scored, EndReadable}

-- one end of a word's exact slices, whose numbers count from 0
pub record End (offsets starts ids : List ℕ) (pieces p : ℕ) : Type 0 where
  pub rises : get_or offsets p 0 ≤ get_or offsets (p + 1) 0
  pub counted : get_or offsets (p + 1) 0 ≤ length starts
  pub each : (k : ℕ) → get_or offsets p 0 ≤ k → k < get_or offsets (p + 1) 0 → EdgeFormed starts ids pieces p (get_or offsets p 0) k

module _ {offsets starts ids : List ℕ} {scores : List Float} {n : ℕ} (w : WellFormed offsets starts ids scores n) where
  pub end_of : (p : ℕ) → p ≤ n → End offsets starts ids (length scores) p
  end_of p h =
      let e = w.word.formed.ending p h in
      let up = e.rises in
      let top = e.counted in
      let here : offset offsets (whole starts n) p ≡ get_or offsets p 0 = ap (λ (i : ℕ). get_or offsets i 0) (zero-add p) in
      let there : offset offsets (whole starts n) (p + 1) ≡ get_or offsets (p + 1) 0 = ap (λ (i : ℕ). get_or offsets i 0) (zero-add (p + 1)) in
      record { rises = omega arith; counted = omega arith; each = λ k a b. same_first (omega arith) (e.each k (omega arith) (omega arith)) }

  pub equally_many : length starts ≡ length ids
  equally_many = w.word.formed.inside.equally_many

  pub readable : (q : ℕ) → q < n → EndReadable offsets starts ids scores (q + 1) (q + 1)
  readable q h =
      let e = end_of (q + 1) (omega arith) in
      let o = w.word.many in
      let m = equally_many in
      record {
        in_offsets = omega arith;
        ordered = e.rises;
        each = λ k a b. let f = e.each k a b in let c = e.counted in record { in_starts = omega arith; in_ids = omega arith; start_in = f.before; id_in = f.named };
      }

  -- "starts strictly rise at each end", not only from one edge to the next
  rise : (p : ℕ) → p ≤ n → (d j k : ℕ) → suc (j + d) ≡ k → get_or offsets p 0 ≤ j → k < get_or offsets (p + 1) 0 → get_or starts j 0 < get_or starts k 0
  rise p h zero j k e a b = let z : k - 1 ≡ j = omega arith in subst (λ (x : ℕ). get_or starts x 0 < get_or starts k 0) z (((end_of p h).each k (omega arith) b).rising (omega arith))
  rise p h (suc d) j k e a b =
      let r = rise p h d j (k - 1) (omega arith) a (omega arith) in
      let s = ((end_of p h).each k (omega arith) b).rising (omega arith) in
      omega arith

  pub sound : Scored scores → Sound ZeroOrBelow (lattice_of offsets starts ids scores) n
  sound scored =
      record {
        before = λ p k h a. ((end_of p h).each k a.0 a.1).before;
        rising = λ p j k h a b c. rise p h (k - suc j) j k (omega arith) a.0 b.1;
        scored = λ p k h a. scored (get_or ids k 0) ((end_of p h).each k a.0 a.1).named;
      }
