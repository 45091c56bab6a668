-- The lattices that a well-formed cache's slices hold, read back word by word. Assumes nothing.
use mathlib.Core.Path.{◌≡◌, refl, sym, ap, ap₂, ◌∙◌}
use mathlib.Core.List.{List, [], ◌∷◌, ◌++◌, map, map-append}
use Prim.Native.Nat.{ℕ, zero, suc, ◌+◌, ◌*◌, ◌≤◌, ◌<◌}
use native.Mathlib.Omega.{arith}
use lib.ListN.{length, get_or, length-map}
use lib.Seq.{slice, slice-cons, slice_empty, length-slice}
use Rattle.lattice.specs.Lattice.{Edge}
use Rattle.lattice.specs.Layout.{joined, offsets, edge_count, char_count, spans_from}
use Rattle.lattice.proofs.Joined.{joined_append}
use Rattle.formed.specs.Held.{Held}
use Rattle.formed.proofs.Theorems.{read_back, well_formed_holds}
use Rattle.cached.specs.Cached.{span_at, edges_before, offsets_before, WordFormed}
use Rattle.cached.specs.Held.{Lattices}
use Rattle.cached.proofs.Chains.{Link, parts}

pub four : (spans : List ℕ) (k past : ℕ) → k + 4 ≡ past → past ≤ length spans → slice k past spans ≡ get_or spans k 0 ∷ get_or spans (k + 1) 0 ∷ get_or spans (k + 2) 0 ∷ get_or spans (k + 3) 0 ∷ []
four spans k past e l =
    let a : suc k ≡ k + 1 = omega arith in
    let b : suc (k + 1) ≡ k + 2 = omega arith in
    let c : suc (k + 2) ≡ k + 3 = omega arith in
    let d : suc (k + 3) ≡ past = omega arith in
    slice-cons k past spans 0 (omega arith) l
    ∙ ap (λ (ys : List ℕ). get_or spans k 0 ∷ ys)
    (ap (λ (j : ℕ). slice j past spans) a ∙ slice-cons (k + 1) past spans 0 (omega arith) l
    ∙ ap (λ (ys : List ℕ). get_or spans (k + 1) 0 ∷ ys)
    (ap (λ (j : ℕ). slice j past spans) b ∙ slice-cons (k + 2) past spans 0 (omega arith) l
    ∙ ap (λ (ys : List ℕ). get_or spans (k + 2) 0 ∷ ys)
    (ap (λ (j : ℕ). slice j past spans) c ∙ slice-cons (k + 3) past spans 0 (omega arith) l
    ∙ ap (λ (ys : List ℕ). get_or spans (k + 3) 0 ∷ ys) (ap (λ (j : ℕ). slice j past spans) d ∙ slice_empty past spans))))

-- the first word's edges, and then the others'
pub first_edges : (f : Edge → ℕ) (lattice : List (List Edge)) (others : List (List (List Edge))) → map f (joined (joined (lattice ∷ others))) ≡ map f (joined lattice) ++ map f (joined (joined others))
first_edges f lattice others = ap (map f) (joined_append lattice (joined others)) ∙ map-append f (joined lattice) (joined (joined others))

module _ (starts ids ends spans : List ℕ) (pieces : ℕ) where
  -- the lattice of a word, and of n words from one on
  abbrev pub lattice_at : ℕ → List (List Edge)
  lattice_at w = read_back starts ids ends pieces (span_at spans w)

  abbrev pub lattices_at : ℕ → ℕ → List (List (List Edge))
  lattices_at w zero = []
  lattices_at w (suc n) = lattice_at w ∷ lattices_at (suc w) n

  abbrev Good : ℕ → Type 0
  Good w = WordFormed starts ids ends spans pieces w

  abbrev pub All : ℕ → ℕ → Type 0
  All w n = (v : ℕ) → w ≤ v → v < w + n → Good v

  all_rest : (n w : ℕ) → All w (suc n) → All (suc w) n
  all_rest n w a v l m = a v (omega arith) (omega arith)

  pub length_lattices : (n w : ℕ) → length (lattices_at w n) ≡ n
  length_lattices zero w = refl
  length_lattices (suc n) w = ap suc (length_lattices n (suc w))

  held : (w : ℕ) → Good w → Held starts ids ends pieces (span_at spans w) (lattice_at w)
  held w good = well_formed_holds starts ids ends pieces (span_at spans w) good.formed

  pub sound : (n w : ℕ) → All w n → Lattices pieces (lattices_at w n)
  sound zero w a = tt
  sound (suc n) w a = ((held w (a w (omega arith) (omega arith))).rows, sound n (suc w) (all_rest n w a))

  -- ---- edges, by start or by id
  abbrev pub part_of : (Edge → ℕ) → ℕ → List ℕ
  part_of f w = map f (joined (lattice_at w))

  pub edges_are : (f : Edge → ℕ) (n w : ℕ) → map f (joined (joined (lattices_at w n))) ≡ parts (part_of f) w n
  edges_are f zero w = refl
  edges_are f (suc n) w =
      first_edges f (lattice_at w) (lattices_at (suc w) n)
      ∙ ap (λ (ys : List ℕ). part_of f w ++ ys) (edges_are f n (suc w))

  pub edge_link : (f : Edge → ℕ) (xs : List ℕ) → length starts ≡ length xs → (w : ℕ) → Good w → slice (span_at spans w).from (span_at spans w).to xs ≡ part_of f w → Link xs (edges_before spans) (part_of f) w
  edge_link f xs same w good is =
      let inside = good.formed.inside in
      let at = good.edges_follow in
      record { up = omega arith; inside = omega arith; is = ap (λ (k : ℕ). slice k (span_at spans w).to xs) (sym at) ∙ is }

  pub start_link : (w : ℕ) → Good w → Link starts (edges_before spans) (part_of (λ e. e.start)) w
  start_link w good = edge_link (λ e. e.start) starts refl w good (held w good).starts_are

  pub id_link : (w : ℕ) → Good w → Link ids (edges_before spans) (part_of (λ e. e.id)) w
  id_link w good = edge_link (λ e. e.id) ids good.formed.inside.equally_many w good (held w good).ids_are

  -- ---- offsets
  abbrev pub offsets_seen : ℕ → List ℕ
  offsets_seen w = offsets (lattice_at w)

  pub ends_are : (n w : ℕ) → joined (map offsets (lattices_at w n)) ≡ parts offsets_seen w n
  ends_are zero w = refl
  ends_are (suc n) w = ap (λ (ys : List ℕ). offsets_seen w ++ ys) (ends_are n (suc w))

  pub offset_link : (w : ℕ) → Good w → Link ends (offsets_before spans) offsets_seen w
  offset_link w good =
      let inside = good.formed.inside in
      let at = good.offsets_follow in
      record { up = omega arith; inside = omega arith; is = ap (λ (k : ℕ). slice k (offsets_before spans (suc w)) ends) (sym at) ∙ (held w good).offsets_are }

  -- ---- spans
  abbrev pub four_of : ℕ → List ℕ
  four_of w = (span_at spans w).from ∷ (span_at spans w).to ∷ (span_at spans w).at ∷ (span_at spans w).n ∷ []

  pub span_link : (w : ℕ) → Good w → Link spans (λ v. 4 * v) four_of w
  span_link w good = let l = good.present in record { up = omega arith; inside = omega arith; is = four spans (4 * w) (4 * suc w) (omega arith) (omega arith) }

  -- a word's edges and offsets, counted
  edge_count_lem : (w : ℕ) → Good w → edges_before spans w + edge_count (lattice_at w) ≡ (span_at spans w).to
  edge_count_lem w good =
      let inside = good.formed.inside in
      let at = good.edges_follow in
      let long = sym (length-slice (span_at spans w).from (span_at spans w).to starts inside.edges_in) ∙ ap length (held w good).starts_are ∙ length-map (joined (lattice_at w)) (λ e. e.start) in
      omega arith

  offset_count : (w : ℕ) → Good w → offsets_before spans w + length (offsets_seen w) ≡ offsets_before spans (suc w)
  offset_count w good =
      let inside = good.formed.inside in
      let at = good.offsets_follow in
      let long = sym (length-slice (span_at spans w).at ((span_at spans w).at + (span_at spans w).n + 2) ends inside.offsets_in) ∙ ap length (held w good).offsets_are in
      omega arith

  char_count_lem : (w : ℕ) → Good w → char_count (lattice_at w) ≡ (span_at spans w).n
  char_count_lem w good = let long = (held w good).ends_are in omega arith

  pub spans_are : (n w : ℕ) → All w n → spans_from (edges_before spans w) (offsets_before spans w) (lattices_at w n) ≡ parts four_of w n
  spans_are zero w all = refl
  spans_are (suc n) w all =
      let good = all w (omega arith) (omega arith) in
      let e = edge_count_lem w good in
      let o = offset_count w good in
      let rest = ap₂ (λ (x y : ℕ). spans_from x y (lattices_at (suc w) n)) e o ∙ spans_are n (suc w) (all_rest n w all) in
      ap₂ ◌∷◌ (sym good.edges_follow) (ap₂ ◌∷◌ e (ap₂ ◌∷◌ (sym good.offsets_follow) (ap₂ ◌∷◌ (char_count_lem w good) rest)))
