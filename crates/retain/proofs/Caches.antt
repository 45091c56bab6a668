-- The loop over a cache's words: after k of them the slices hold the first k lattices pruned. Assumes nothing.
use mathlib.Core.Path.{◌≡◌, sym, ap, ◌∙◌, subst}
use mathlib.Core.List.{List, [], map}
use Prim.Native.Nat.{ℕ, suc, ◌+◌, ◌*◌, ◌≤◌, ◌<◌}
use native.Mathlib.Numerals.{add-one}
use native.Mathlib.Omega.{arith}
use lib.ListN.{length, get_or, take, drop, length-map}
use lib.Seq.{split_at, take-suc, take_all, length-take-le}
use Rattle.lattice.specs.Lattice.{Edge}
use Rattle.lattice.specs.Pruning.{sift, retained}
use Rattle.lattice.specs.Layout.{spans_from}
use Rattle.lattice.specs.Written.{over, Written}
use Rattle.retain.specs.Retain.{Laid}
use Rattle.retain.specs.Moves.{Span, Shifted}
use Rattle.lattice.proofs.Fronts.{begin_long, over_long}
use Rattle.lattice.proofs.Flat.{edges, ends, spans_long}
use Rattle.retain.proofs.Sifted.{ends_retained}
use Rattle.retain.proofs.Turns.{Turn, turn}
use Rattle.retain.proofs.Shifts.{fewer, ready, more}

-- four slices are as long as four others
pub record Long (offs s i sp offs' s' i' sp' : List ℕ) : Type 0 where
  pub offsets_long : length offs' ≡ length offs
  pub starts_long : length s' ≡ length s
  pub ids_long : length i' ≡ length i
  pub spans_long : length sp' ≡ length sp

module _ {words : ℕ} {m offs s i sp : List ℕ} {lattices : List (List (List Edge))} (laid : Laid words m offs s i sp lattices) where
  turn_at : (k : ℕ) → k < words → Turn m offs s i sp (take k lattices) (get_or lattices k [])
  turn_at k h =
      let n : k < length lattices = let e = laid.many in omega arith in
      turn (take k lattices) (get_or lattices k []) (drop (suc k) lattices) (subst (Laid words m offs s i sp) (split_at lattices k [] n) laid) (laid.rows k h)

  long_at : (k : ℕ) → k < words → length (take k lattices) ≡ k
  long_at k h = length-take-le k lattices (let e = laid.many in omega arith)

  -- four numbers a word
  pub room : 4 * words ≤ length sp
  room = let a = begin_long (spans_from 0 0 lattices) sp laid.begins.spans_begin in let b = spans_long 0 0 lattices in let c = laid.many in omega arith

  -- one more, and all
  module _ (k : ℕ) (h : k < words) {offs' s' i' sp' : List ℕ} {w : ℕ} (P : Written (retained m (take k lattices)) offs s i sp offs' s' i' sp' w) where
    pub ready_at : Span offs' s' i' sp' m w (4 * k)
    ready_at = subst (λ (n : ℕ). Span offs' s' i' sp' m w (4 * n)) (long_at k h) (ready (turn_at k h) P)

    pub written_more : {offs'' s'' i'' sp'' : List ℕ} {x : ℕ} → Shifted offs' s' i' sp' m w (4 * k) offs'' s'' i'' sp'' x → Written (retained m (take (k + 1) lattices)) offs s i sp offs'' s'' i'' sp'' x
    written_more {offs''} {s''} {i''} {sp''} {x} S =
        let n : k < length lattices = let e = laid.many in omega arith in
        subst (λ (done : List (List (List Edge))). Written (retained m done) offs s i sp offs'' s'' i'' sp'' x)
        (sym (take-suc lattices k [] n) ∙ ap (λ (j : ℕ). take j lattices) (sym (add-one k)))
        (more (turn_at k h) P (subst (λ (j : ℕ). Shifted offs' s' i' sp' m w (4 * j) offs'' s'' i'' sp'' x) (sym (long_at k h)) S))

  pub written_all : (k : ℕ) → words ≤ k → {offs' s' i' sp' : List ℕ} {w : ℕ} → Written (retained m (take k lattices)) offs s i sp offs' s' i' sp' w → Written (retained m lattices) offs s i sp offs' s' i' sp' w
  written_all k h {offs'} {s'} {i'} {sp'} {w} P = subst (λ (l : List (List (List Edge))). Written (retained m l) offs s i sp offs' s' i' sp' w) (take_all k lattices (let e = laid.many in omega arith)) P

  -- the slices keep their lengths
  column_long : (f : Edge → ℕ) (l : List ℕ) → l ≡ over (map f (edges lattices)) l → length (over (map f (edges (retained m lattices))) l) ≡ length l
  column_long f l e =
      let a = begin_long (map f (edges lattices)) l e in
      let b = length-map (edges lattices) f in
      let c = length-map (edges (retained m lattices)) f in
      let d = fewer m lattices in
      over_long (map f (edges (retained m lattices))) l (omega arith)

  pub written_long : {offs' s' i' sp' : List ℕ} {w : ℕ} → Written (retained m lattices) offs s i sp offs' s' i' sp' w → Long offs s i sp offs' s' i' sp'
  written_long P =
      let a = begin_long (ends lattices) offs laid.begins.offsets_begin in
      let b = begin_long (spans_from 0 0 lattices) sp laid.begins.spans_begin in
      let c = ends_retained m lattices in
      let d = spans_long 0 0 lattices in
      let e = spans_long 0 0 (retained m lattices) in
      let g = length-map lattices (map (sift m)) in
      record {
        offsets_long = ap length P.offsets_are ∙ over_long (ends (retained m lattices)) offs (omega arith);
        starts_long = ap length P.starts_are ∙ column_long (λ e. e.start) s laid.begins.starts_begin;
        ids_long = ap length P.ids_are ∙ column_long (λ e. e.id) i laid.begins.ids_begin;
        spans_long = ap length P.spans_are ∙ over_long (spans_from 0 0 (retained m lattices)) sp (omega arith);
      }
