-- The lattice that a well-formed one's slices hold, read back row by row. Assumes nothing.
use mathlib.Core.Path.{◌≡◌, refl, sym, ap, ap₂, ◌∙◌, subst}
use mathlib.Core.List.{List, [], ◌∷◌, ◌++◌, map}
use Prim.Native.Nat.{ℕ, zero, suc, ◌+◌, ◌-◌, ◌≤◌, ◌<◌}
use native.Mathlib.Nat.{zero-add, add-zero}
use native.Mathlib.Omega.{arith}
use lib.ListN.{length, get_or}
use lib.Seq.{slice, slice-cons, slice_empty}
use Rattle.lattice.specs.Lattice.{Edge}
use Rattle.lattice.specs.Layout.{joined, offsets_from}

module _ (starts ids : List ℕ) where
  abbrev pub edge_at : ℕ → Edge
  edge_at k = record { start = get_or starts k 0; id = get_or ids k 0 }

  -- n edges from edge k on
  abbrev pub edges_at : ℕ → ℕ → List Edge
  edges_at k zero = []
  edges_at k (suc n) = edge_at k ∷ edges_at (suc k) n

  pub length_edges : (n k : ℕ) → length (edges_at k n) ≡ n
  length_edges zero k = refl
  length_edges (suc n) k = ap suc (length_edges n (suc k))

  -- what the slice xs holds of them
  pub edges_slice : (f : Edge → ℕ) (xs : List ℕ) → ((k : ℕ) → f (edge_at k) ≡ get_or xs k 0) → (n k past : ℕ) → k + n ≡ past → past ≤ length xs → map f (edges_at k n) ≡ slice k past xs
  edges_slice f xs is zero k past e l = let z : k ≡ past = omega arith in sym (slice_empty past xs) ∙ ap (λ (j : ℕ). slice j past xs) (sym z)
  edges_slice f xs is (suc n) k past e l = ap₂ ◌∷◌ (is k) (edges_slice f xs is n (suc k) past (omega arith) l) ∙ sym (slice-cons k past xs 0 (omega arith) l)

  edges_join : (m n k : ℕ) → edges_at k (m + n) ≡ edges_at k m ++ edges_at (k + m) n
  edges_join zero n k = ap₂ edges_at (sym (add-zero k)) (zero-add n)
  edges_join (suc m) n k =
      let more : suc m + n ≡ suc (m + n) = omega arith in
      let mid : suc k + m ≡ k + suc m = omega arith in
      ap (edges_at k) more ∙ ap (λ (es : List Edge). edge_at k ∷ es) (edges_join m n (suc k) ∙ ap (λ (j : ℕ). edges_at (suc k) m ++ edges_at j n) mid)

  -- the rows of n ends from p on, the edges of end p beginning at `from + off p`
  module _ (from : ℕ) (off : ℕ → ℕ) where
    abbrev pub row_at : ℕ → List Edge
    row_at p = edges_at (from + off p) (off (suc p) - off p)

    abbrev pub rows_at : ℕ → ℕ → List (List Edge)
    rows_at p zero = []
    rows_at p (suc n) = row_at p ∷ rows_at (suc p) n

    abbrev pub Rising : ℕ → ℕ → Type 0
    Rising p n = (q : ℕ) → p ≤ q → q < p + n → off q ≤ off (suc q)

    pub length_rows : (n p : ℕ) → length (rows_at p n) ≡ n
    length_rows zero p = refl
    length_rows (suc n) p = ap suc (length_rows n (suc p))

    rising_rest : (n p : ℕ) → Rising p (suc n) → Rising (suc p) n
    rising_rest n p r q a b = r q (omega arith) (omega arith)

    pub rises : (n p past : ℕ) → p + n ≡ past → Rising p n → off p ≤ off past
    rises zero p past e r = let z : p ≡ past = omega arith in subst (λ (q : ℕ). off p ≤ off q) z (omega arith)
    rises (suc n) p past e r =
        let here = r p (omega arith) (omega arith) in
        let rest = rises n (suc p) past (omega arith) (rising_rest n p r) in
        omega arith

    pub rows_joined : (n p past : ℕ) → p + n ≡ past → Rising p n → joined (rows_at p n) ≡ edges_at (from + off p) (off past - off p)
    rows_joined zero p past e r =
        let z : p ≡ past = omega arith in
        subst (λ (q : ℕ). [] ≡ edges_at (from + off p) (off q - off p)) z (ap (edges_at (from + off p)) (none (off p)))
      where
        none : (a : ℕ) → 0 ≡ a - a
        none a = omega arith
    rows_joined (suc n) p past e r =
        let here = r p (omega arith) (omega arith) in
        let rest = rises n (suc p) past (omega arith) (rising_rest n p r) in
        let mid : from + off p + (off (suc p) - off p) ≡ from + off (suc p) = omega arith in
        let all : off (suc p) - off p + (off past - off (suc p)) ≡ off past - off p = omega arith in
        ap (λ (es : List Edge). row_at p ++ es) (rows_joined n (suc p) past (omega arith) (rising_rest n p r) ∙ ap (λ (k : ℕ). edges_at k (off past - off (suc p))) (sym mid))
        ∙ sym (edges_join (off (suc p) - off p) (off past - off (suc p)) (from + off p))
        ∙ ap (edges_at (from + off p)) all

    -- the offsets of these rows are what the slice of offsets holds
    pub rows_offsets : (ends : List ℕ) (at : ℕ) → ((q : ℕ) → off q ≡ get_or ends (at + q) 0) → (n p k past : ℕ) → at + p ≡ k → k + n + 1 ≡ past → past ≤ length ends → Rising p n → offsets_from (off p) (rows_at p n) ≡ slice k past ends
    rows_offsets ends at is zero p k past a e l r =
        let here : past ≡ suc k = omega arith in
        ap₂ ◌∷◌ (is p ∙ ap (λ (j : ℕ). get_or ends j 0) a) (sym (slice_empty past ends) ∙ ap (λ (j : ℕ). slice j past ends) here)
        ∙ sym (slice-cons k past ends 0 (omega arith) l)
    rows_offsets ends at is (suc n) p k past a e l r =
        let here = r p (omega arith) (omega arith) in
        let long = length_edges (off (suc p) - off p) (from + off p) in
        let next : off p + length (row_at p) ≡ off (suc p) = omega arith in
        ap₂ ◌∷◌ (is p ∙ ap (λ (j : ℕ). get_or ends j 0) a) (ap (λ (j : ℕ). offsets_from j (rows_at (suc p) n)) next ∙ rows_offsets ends at is n (suc p) (suc k) past (omega arith) (omega arith) l (rising_rest n p r))
        ∙ sym (slice-cons k past ends 0 (omega arith) l)
