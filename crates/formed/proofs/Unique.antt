-- Slices hold at most one lattice: the one that is read back. Assumes nothing.
use mathlib.Core.Path.{◌≡◌, refl, sym, ap, ap₂, ◌∙◌, subst}
use mathlib.Core.List.{List, [], ◌∷◌, ◌++◌, map}
use Prim.Native.Nat.{ℕ, suc, ◌+◌, ◌-◌, ◌≤◌, ◌<◌}
use native.Mathlib.Nat.{add-zero}
use native.Mathlib.Omega.{arith}
use lib.ListN.{length, get_or}
use lib.Seq.{slice, slice-cons, length-slice}
use Rattle.lattice.specs.Lattice.{Edge}
use Rattle.lattice.specs.Layout.{joined, offsets_from}
use Rattle.formed.proofs.Readback.{edge_at, edges_at, rows_at}

abbrev tail : List ℕ → List ℕ
tail [] = []
tail (x ∷ xs) = xs

-- a slice that begins with a number
pub record Begins (xs : List ℕ) (k past x : ℕ) (rest : List ℕ) : Type 0 where
  pub not_past : k < past
  pub here : x ≡ get_or xs k 0
  pub then : rest ≡ slice (suc k) past xs

pub begins : (xs : List ℕ) (k past x : ℕ) (rest : List ℕ) → past ≤ length xs → x ∷ rest ≡ slice k past xs → Begins xs k past x rest
begins xs k past x rest l e =
    let long = ap length e ∙ length-slice k past xs l in
    let inner : k < past = omega arith in
    let split = e ∙ slice-cons k past xs 0 inner l in
    record { not_past = inner; here = ap (λ (ys : List ℕ). get_or ys 0 0) split; then = ap tail split }

pub next_offset : (ends : List ℕ) (rows : List (List Edge)) (a i past : ℕ) → past ≤ length ends → offsets_from a rows ≡ slice i past ends → a ≡ get_or ends i 0
next_offset ends [] a i past l o = (begins ends i past a [] l o).here
next_offset ends (row ∷ rows) a i past l o = (begins ends i past a (offsets_from (a + length row) rows) l o).here

module _ (starts ids : List ℕ) (to : ℕ) (in_starts : to ≤ length starts) (in_ids : to ≤ length ids) where
  -- the edges from edge k on are these
  pub record Stand (es : List Edge) (k : ℕ) : Type 0 where
    pub by_start : map (λ e. e.start) es ≡ slice k to starts
    pub by_id : map (λ e. e.id) es ≡ slice k to ids

  same_row : (row others : List Edge) (k : ℕ) → Stand (row ++ others) k → (row ≡ edges_at starts ids k (length row)) × Stand others (k + length row)
  same_row [] others k s = (refl, subst (Stand others) (sym (add-zero k)) s)
  same_row (e ∷ es) others k s =
      let b = begins starts k to e.start (map (λ e. e.start) (es ++ others)) in_starts s.by_start in
      let c = begins ids k to e.id (map (λ e. e.id) (es ++ others)) in_ids s.by_id in
      let r = same_row es others (suc k) (record { by_start = b.then; by_id = c.then }) in
      let one : e ≡ edge_at starts ids k = ap₂ (λ (x y : ℕ). record { start = x; id = y }) b.here c.here in
      let past : suc k + length es ≡ k + suc (length es) = omega arith in
      (ap₂ ◌∷◌ one r.0, subst (Stand others) past r.1)

  module _ (from : ℕ) (ends : List ℕ) (at : ℕ) where
    abbrev off : ℕ → ℕ
    off p = get_or ends (at + p) 0

    -- the rows from end p on, whose offsets are the slice's from i on
    pub same_rows : (rows : List (List Edge)) (p a i past : ℕ) → at + p ≡ i → past ≤ length ends → offsets_from a rows ≡ slice i past ends → Stand (joined rows) (from + a) → rows ≡ rows_at starts ids from off p (length rows)
    same_rows [] p a i past q l o s = refl
    same_rows (row ∷ rows) p a i past q l o s =
        let b = begins ends i past a (offsets_from (a + length row) rows) l o in
        let r = same_row row (joined rows) (from + a) s in
        let next = next_offset ends rows (a + length row) (suc i) past l b.then in
        let here : a ≡ off p = b.here ∙ ap (λ (j : ℕ). get_or ends j 0) (sym q) in
        let up : suc i ≡ at + suc p = omega arith in
        let there : a + length row ≡ off (suc p) = next ∙ ap (λ (j : ℕ). get_or ends j 0) up in
        let long : length row ≡ off (suc p) - off p = omega arith in
        let start : from + a ≡ from + off p = ap (λ (j : ℕ). from + j) here in
        let more : from + a + length row ≡ from + (a + length row) = omega arith in
        ap₂ ◌∷◌ (r.0 ∙ ap₂ (edges_at starts ids) start long) (same_rows rows (suc p) (a + length row) (suc i) past (sym up) l b.then (subst (Stand (joined rows)) more r.1))
