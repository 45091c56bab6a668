-- The edges that are read back are sound exactly when those of the slices are well formed. Assumes nothing.
use mathlib.Core.Path.{◌≡◌, subst}
use mathlib.Core.List.{List}
use Prim.Native.Nat.{ℕ, zero, suc, ◌+◌, ◌-◌, ◌≤◌, ◌<◌}
use native.Mathlib.Numerals.{add-one}
use native.Mathlib.Omega.{arith}
use lib.ListN.{get_or}
use Rattle.formed.specs.declared.Span.{Span}
use Rattle.formed.specs.Formed.{EdgeFormed, EndFormed, offset}
use Rattle.formed.specs.Held.{After, Row, Rows}
use Rattle.laws.proofs.Ranges.{Between}
use Rattle.formed.proofs.Readback.{edges_at, row_at, rows_at}

module _ (starts ids : List ℕ) (pieces : ℕ) where
  module _ (end first : ℕ) where
    after : (n k : ℕ) → first ≤ k → Between (EdgeFormed starts ids pieces end first) k (k + suc n) → After (get_or starts k 0) (edges_at starts ids (suc k) n)
    after zero k l each = tt
    after (suc n) k l each =
        let back : suc k - 1 ≡ k = omega arith in
        subst (λ (j : ℕ). get_or starts j 0 < get_or starts (suc k) 0) back ((each (suc k) (omega arith) (omega arith)).rising (omega arith))

    row : (n k : ℕ) → first ≤ k → Between (EdgeFormed starts ids pieces end first) k (k + n) → Row pieces end (edges_at starts ids k n)
    row zero k l each = tt
    row (suc n) k l each =
        let here = each k (omega arith) (omega arith) in
        (here.before, here.named, after n k l each, row n (suc k) (omega arith) (λ j a b. each j (omega arith) (omega arith)))

  module _ (ends : List ℕ) (span : Span) where
    abbrev Ends : ℕ → ℕ → Type 0
    Ends p past = Between (EndFormed starts ids ends pieces span) p past

    pub row_at_lem : (p : ℕ) → EndFormed starts ids ends pieces span p → Row pieces p (row_at starts ids span.from (offset ends span) p)
    row_at_lem p formed =
        let rises = rw add-one at formed.rises in
        let each = rw add-one at formed.each in
        row p (span.from + offset ends span p) (offset ends span (suc p) - offset ends span p) (span.from + offset ends span p) (omega arith) (λ j a b. each j a (omega arith))

    pub rows : (n p : ℕ) → Ends p (p + n) → Rows pieces p (rows_at starts ids span.from (offset ends span) p n)
    rows zero p each = tt
    rows (suc n) p each = (row_at_lem p (each p (omega arith) (omega arith)), rows n (suc p) (λ q a b. each q (omega arith) (omega arith)))
