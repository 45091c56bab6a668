-- The edges of one end, a start more at each turn. Assumes nothing.
use mathlib.Core.Path.{◌≡◌, refl, ap, ap₂, ◌∙◌}
use mathlib.Core.Bool.{cond}
use mathlib.Core.List.{List, [], ◌++◌}
use mathlib.Core.Option.{Option, none, some}
use Prim.Native.Nat.{ℕ, zero, suc, ◌+◌, ◌-◌, ◌≤◌, ◌<◌}
use native.Mathlib.Decide.{dec_lt}
use native.Mathlib.Omega.{arith}
use native.Mathlib.Numerals.{add-one}
use mathlib.Core.Bool.{Bool, not}
use Rattle.std.proofs.Common.{ne_eqb}
use mir.Val.{bool_byte}
use lib.Dec.{eqb}
use lib.ListN.{length, length-append}
use borrow.Author.Tests.{le-leb, lt-leb}
use Rattle.lattice.specs.Lattice.{Edge, edge, starting}
use Rattle.rows.specs.Grid.{piece_of, cell, grid_id, ending_in}
use Rattle.builder.specs.Put.{Put, Slot, End}
use Rattle.builder.proofs.Puts.{put_none, put_join, put_long}

module _ (f : ℕ → Option ℕ) where
  starting_long : (k : ℕ) → length (starting f (suc k)) ≡ length (starting f k) + length (edge k (f k))
  starting_long k = length-append (starting f k) (edge k (f k))

  pub starting_most : (k n : ℕ) → k ≤ n → length (starting f k) ≤ length (starting f n)
  starting_most k zero h = let e : k ≡ 0 = omega arith in ap_le (ap (λ (j : ℕ). length (starting f j)) e)
    where
      ap_le : {a b : ℕ} → a ≡ b → a ≤ b
      ap_le e = omega arith
  starting_most k (suc n) h = elim (dec_lt n k) [
    | yes l ↦ let e : k ≡ suc n = omega arith in same (ap (λ (j : ℕ). length (starting f j)) e)
    | no l ↦ let a = starting_most k n (omega arith) in let b = starting_long n in omega arith
  ]
    where
      same : {a b : ℕ} → a ≡ b → a ≤ b
      same e = omega arith

  pub starting_none : (n : ℕ) → ((k : ℕ) → k < n → f k ≡ none) → starting f n ≡ []
  starting_none zero h = refl
  starting_none (suc n) h = ap₂ (λ (a : List Edge) (o : Option ℕ). a ++ edge n o) (starting_none n (λ k l. h k (omega arith))) (h n (omega arith))

-- a number of the grid is one edge, or none
pub one_is : (found : ℕ) {one : ℕ} → one ≡ bool_byte (not (eqb found 0)) → (one ≡ length (edge 0 (piece_of found))) × (one ≤ 1)
one_is zero e = (e, omega arith)
one_is (suc id) e = let f = e ∙ ap (λ (b : Bool). bool_byte (not b)) (ne_eqb (suc id) 0 (λ z. absurd (omega arith))) in (f, omega arith)

-- below the lowest start nothing reaches the end; from it on, the grid tells
module _ (setting : ℕ) (grid : List ℕ) (end : ℕ) where
  below_low : (k : ℕ) → k < end - setting → grid_id setting grid end k ≡ none
  below_low k l = ap (λ b. cond b (piece_of (cell grid end k)) none) (lt-leb (end - k) setting (omega arith))

  pub from_low : (k : ℕ) → end - setting ≤ k → k < end → grid_id setting grid end k ≡ piece_of (cell grid end k)
  from_low k l h = ap (λ b. cond b (piece_of (cell grid end k)) none) (le-leb (end - k) setting (omega arith))

  abbrev pub upto : ℕ → List Edge
  upto k = starting (grid_id setting grid end) k

  pub upto_low : upto (end - setting) ≡ []
  upto_low = starting_none (grid_id setting grid end) (end - setting) below_low

  pub upto_more : (k : ℕ) → end - setting ≤ k → k < end → upto (k + 1) ≡ upto k ++ edge k (piece_of (cell grid end k))
  upto_more k l h = ap upto (add-one k) ∙ ap (λ (o : Option ℕ). upto k ++ edge k o) (from_low k l h)

  -- ---- the loop of `put_end`
  module _ {s i : List ℕ} {w : ℕ} (r : End s i grid setting end w) where
    pub loop_none : {low : ℕ} → low ≡ end - setting → Put s i w (upto low) s i w
    loop_none {low} e = rw (ap upto e ∙ upto_low) (put_none s i w)

    module _ {s' i' : List ℕ} {at : ℕ} (k : ℕ) (l : end - setting ≤ k) (h : k < end) (p : Put s i w (upto k) s' i' at) where
      enough : at + length (edge k (piece_of (cell grid end k))) ≤ w + length (ending_in setting grid end)
      enough =
          let a = ap length (upto_more k l h) in
          let b = length-append (upto k) (edge k (piece_of (cell grid end k))) in
          let c = starting_most (grid_id setting grid end) (k + 1) end (omega arith) in
          let d = p.count in
          omega arith

      pub loop_slot : Slot s' i' (cell grid end k) k at
      loop_slot =
          let n = put_long p in
          let e = enough in
          let a = r.room.in_starts in
          let b = r.room.in_ids in
          let f = r.grid_is.few in
          record { room = record { in_starts = omega arith; in_ids = omega arith }; small = omega arith }

      pub loop_more : {s'' i'' : List ℕ} {next : ℕ} → Put s' i' at (edge k (piece_of (cell grid end k))) s'' i'' next → Put s i w (upto (k + 1)) s'' i'' next
      loop_more q = rw (upto_more k l h) (put_join (upto k) (edge k (piece_of (cell grid end k))) p q)

  -- ---- the loop of `count_end`
  edge_long : (k : ℕ) (o : Option ℕ) → length (edge k o) ≡ length (edge 0 o)
  edge_long k none = refl
  edge_long k (some id) = refl

  pub counted_more : {count more : ℕ} (k : ℕ) → end - setting ≤ k → k < end → count ≡ length (upto k) → more ≡ length (edge 0 (piece_of (cell grid end k))) → count + more ≡ length (upto (k + 1))
  counted_more k l h a b =
      let c = ap length (upto_more k l h) in
      let d = length-append (upto k) (edge k (piece_of (cell grid end k))) in
      let e = edge_long k (piece_of (cell grid end k)) in
      omega arith
