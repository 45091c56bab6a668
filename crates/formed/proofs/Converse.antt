-- Slices that hold the lattice that is read back are well formed. Assumes nothing.
use mathlib.Core.Path.{◌≡◌, sym, ap, ◌∙◌, subst}
use mathlib.Core.List.{List}
use Prim.Native.Nat.{ℕ, zero, suc, ◌+◌, ◌-◌, ◌≤◌, ◌<◌}
use native.Mathlib.Nat.{lt_irrefl}
use native.Mathlib.Numerals.{add-one}
use native.Mathlib.Omega.{arith}
use lib.ListN.{length, get_or, length-map}
use lib.Seq.{slice, length-slice}
use Rattle.lattice.specs.Layout.{joined, offsets_from}
use Rattle.formed.specs.declared.Span.{Span}
use Rattle.formed.specs.Formed.{EdgeFormed, EndFormed, Formed, offset}
use Rattle.formed.specs.Held.{After, Row, Rows, Held}
use Rattle.formed.proofs.Edges.{first_offset}
use Rattle.laws.proofs.Ranges.{Between, between_nought, from_here}
use Rattle.formed.proofs.Readback.{edges_at, row_at, rows_at, Rising, rises, length_edges, rows_joined}
use Rattle.formed.proofs.Unique.{begins, next_offset}

module _ (starts ids : List ℕ) (pieces : ℕ) where
  module _ (end first : ℕ) where
    -- what edge k's start owes to the edge before
    abbrev Follows : ℕ → Type 0
    Follows k = first < k → get_or starts (k - 1) 0 < get_or starts k 0

    follows : (n k : ℕ) → After (get_or starts k 0) (edges_at starts ids (suc k) (suc n)) → Follows (suc k)
    follows n k after l = let back : k ≡ suc k - 1 = omega arith in subst (λ (j : ℕ). get_or starts j 0 < get_or starts (suc k) 0) back after

    edges : (n k : ℕ) → (0 < n → Follows k) → Row pieces end (edges_at starts ids k n) → Between (EdgeFormed starts ids pieces end first) k (k + n)
    edges zero k f row = between_nought (EdgeFormed starts ids pieces end first) k
    edges (suc n) k f row =
        from_here (EdgeFormed starts ids pieces end first) k n (record { before = row.0; named = row.1; rising = f (omega arith) })
        (edges n (suc k) (next n row.2) row.3)
      where
        next : (n : ℕ) → After (get_or starts k 0) (edges_at starts ids (suc k) n) → 0 < n → Follows (suc k)
        next zero after l = absurd (omega arith)
        next (suc n) after l = follows n k after

  module _ (ends : List ℕ) (span : Span) where
    abbrev off : ℕ → ℕ
    off = offset ends span

    abbrev Good : ℕ → Type 0
    Good q = Row pieces q (row_at starts ids span.from off q)

    abbrev Rises : ℕ → Type 0
    Rises q = off q ≤ off (suc q)

    row_of : (n p : ℕ) → Rows pieces p (rows_at starts ids span.from off p n) → Between Good p (p + n)
    row_of zero p rows = between_nought Good p
    row_of (suc n) p rows = from_here Good p n rows.0 (row_of n (suc p) rows.1)

    rising : (n p i past : ℕ) → span.at + p ≡ i → past ≤ length ends → offsets_from (off p) (rows_at starts ids span.from off p n) ≡ slice i past ends → Rising starts ids span.from off p n
    rising zero p i past e l o = between_nought Rises p
    rising (suc n) p i past e l o =
        let rows = rows_at starts ids span.from off (suc p) n in
        let after = off p + length (row_at starts ids span.from off p) in
        let then = (begins ends i past (off p) (offsets_from after rows) l o).then in
        let up : suc i ≡ span.at + suc p = omega arith in
        let next : after ≡ off (suc p) = next_offset ends rows after (suc i) past l then ∙ ap (λ (j : ℕ). get_or ends j 0) up in
        let here : off p ≤ off (suc p) = omega arith in
        from_here Rises p n here
        (rising n (suc p) (suc i) past (sym up) l (subst (λ (x : ℕ). offsets_from x rows ≡ slice (suc i) past ends) next then))

    -- what the lattice that is read back gives each end
    formed_ends : (past : ℕ) → off past ≡ span.to - span.from → Rising starts ids span.from off 0 past → Rows pieces 0 (rows_at starts ids span.from off 0 past) → Between (EndFormed starts ids ends pieces span) 0 past
    formed_ends past count rise rows p a b =
        let here = rise p a (omega arith) in
        let rest = rises starts ids span.from off (past - suc p) (suc p) past (omega arith) (λ q c d. rise q (omega arith) (omega arith)) in
        let row = row_of past 0 rows p a (omega arith) in
        let first = span.from + off p in
        let each = edges p first (off (suc p) - off p) first (λ l m. absurd (lt_irrefl first m)) row in
        record {
          rises = rw add-one here;
          counted = rw add-one (omega arith);
          each = rw add-one (λ k c d. each k c (omega arith));
        }

    pub held_formed : Held starts ids ends pieces span (rows_at starts ids span.from off 0 (suc span.n)) → Formed starts ids ends pieces span
    held_formed held =
        let inside = held.inside in
        let lattice = rows_at starts ids span.from off 0 (suc span.n) in
        let past = span.at + span.n + 2 in
        let nought = first_offset ends span ∙ sym (next_offset ends lattice 0 span.at past inside.offsets_in (sym held.offsets_are)) in
        let rise = rising (suc span.n) 0 span.at past (omega arith) inside.offsets_in (ap (λ (a : ℕ). offsets_from a lattice) nought ∙ sym held.offsets_are) in
        let all = rows_joined starts ids span.from off (suc span.n) 0 (suc span.n) (omega arith) rise in
        let long = sym (length-slice span.from span.to starts inside.edges_in) ∙ ap length held.starts_are ∙ length-map (joined lattice) (λ e. e.start) ∙ ap length all ∙ length_edges starts ids (off (suc span.n) - off 0) (span.from + off 0) in
        let count : off (suc span.n) ≡ span.to - span.from = omega arith in
        let each = formed_ends (suc span.n) count rise held.rows in
        record { inside = inside; from_nought = nought; to_count = rw add-one count; ending = λ p l. each p (omega arith) (omega arith) }
