-- A grid whose rows are told is the word's lattice. Assumes nothing.
use mathlib.Core.Path.{◌≡◌, refl, ap, ap₂, ◌∙◌}
use mathlib.Core.Bool.{Bool, true, false, cond}
use mathlib.Core.List.{List, ◌∷◌, [], ◌++◌}
use mathlib.Core.Option.{Option, none, some}
use Prim.Native.Nat.{ℕ, zero, suc, ◌-◌, ◌≤◌, ◌<◌}
use native.Mathlib.Omega.{arith}
use lib.Dec.{leb}
use lib.ListN.{length, drop, take, length-drop}
use borrow.Author.Tests.{leb-true}
use Rattle.spans.specs.Spans.{first}
use Rattle.lattice.specs.Pieces.{id_of}
use Rattle.lattice.specs.Lattice.{Edge, edge, starting, rows, between, edge_id, ending, lattice}
use Rattle.trie.specs.Listed.{newest_of, code}
use Rattle.trie.proofs.Same.{same_back}
use Rattle.rows.specs.Walks.{Told}
use Rattle.rows.specs.Grid.{piece_of, cell, grid_id, ending_in, lattice_in}

-- what agrees at each start, and at each end, makes the same edges
starting_same : (f g : ℕ → Option ℕ) (n : ℕ) → ((k : ℕ) → k < n → f k ≡ g k) → starting f n ≡ starting g n
starting_same f g zero h = refl
starting_same f g (suc n) h = ap₂ (λ (a : List Edge) (o : Option ℕ). a ++ edge n o) (starting_same f g n (λ k l. h k (omega arith))) (h n (omega arith))

rows_same : (f g : ℕ → List Edge) (n : ℕ) → ((k : ℕ) → k < n → f k ≡ g k) → rows f n ≡ rows g n
rows_same f g zero h = refl
rows_same f g (suc n) h = ap₂ (λ (a : List (List Edge)) (r : List Edge). a ++ (r ∷ [])) (rows_same f g n (λ k l. h k (omega arith))) (h n (omega arith))

decoded : (o : Option ℕ) → piece_of (code o) ≡ o
decoded none = refl
decoded (some i) = refl

module _ (f : ℕ → List ℕ) (count : ℕ) (word : List ℕ) (setting : ℕ) (grid : List ℕ) (told : (start : ℕ) → start < length word → Told word (newest_of f count) setting grid start) where
  told_cell : (end start : ℕ) → end ≤ length word → start < end → end - start ≤ setting → piece_of (cell grid end start) ≡ id_of (first f count) (between word start end)
  told_cell end start a b c =
      let n = length-drop start word in
      let z : suc (end - start - 1) ≡ end - start = omega arith in
      ap piece_of
      (told start (omega arith) (end - start - 1) (omega arith) (omega arith)
      ∙ same_back f count (drop start word) (suc (end - start - 1)) (omega arith))
      ∙ decoded (id_of (first f count) (take (suc (end - start - 1)) (drop start word)))
      ∙ ap (λ (k : ℕ). id_of (first f count) (take k (drop start word))) z

  told_id : (end start : ℕ) → end ≤ length word → start < end → grid_id setting grid end start ≡ edge_id setting (first f count) word end start
  told_id end start a b =
      go (leb (end - start) setting) (λ t. told_cell end start a b (leb-true (end - start) setting t))
    where
      go : (t : Bool) → (t ≡ true → piece_of (cell grid end start) ≡ id_of (first f count) (between word start end))
          → cond t (piece_of (cell grid end start)) none ≡ cond t (id_of (first f count) (between word start end)) none
      go true h = h refl
      go false h = refl

  pub told_lattice : lattice_in setting grid (length word) ≡ lattice setting (first f count) word
  told_lattice =
      rows_same (ending_in setting grid) (ending setting (first f count) word) (suc (length word))
      (λ end l. starting_same (grid_id setting grid end) (edge_id setting (first f count) word end) end (λ start h. told_id end start (omega arith) h))
