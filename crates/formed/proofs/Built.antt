-- A lattice that is built from pieces has sound rows. Assumes nothing.
use mathlib.Core.Path.{◌≡◌, refl, subst}
use mathlib.Core.List.{List, [], ◌∷◌, ◌++◌, append-nil}
use mathlib.Core.Option.{Option, none, some}
use Prim.Native.Nat.{ℕ, zero, suc, ◌+◌, ◌<◌}
use native.Mathlib.Omega.{arith}
use lib.ListN.{length, length-append}
use Rattle.lattice.specs.Lattice.{Edge, edge_id, edge, starting, ending, rows, lattice}
use Rattle.lattice.proofs.Edges.{within}
use Rattle.lattice.proofs.Spelling.{found}
use Rattle.formed.specs.Held.{After, Row, Rows}

pub length_rows : (f : ℕ → List Edge) (n : ℕ) → length (rows f n) ≡ n
length_rows f zero = refl
length_rows f (suc n) = let a = length-append (rows f n) (f n ∷ []) in let b = length_rows f n in omega arith

module _ (pieces : ℕ) where
  wider : (es : List Edge) (n : ℕ) → Row pieces n es → Row pieces (suc n) es
  wider [] n row = tt
  wider (e ∷ es) n row = let l = row.0 in (omega arith, row.1, row.2, wider es n row.3)

  -- an edge that starts at n follows those that start before n
  one_more : (es : List Edge) (n k : ℕ) → k < pieces → Row pieces n es → Row pieces (suc n) (es ++ (record { start = n; id = k } ∷ []))
  one_more [] n k l row = (omega arith, l, tt, tt)
  one_more (e ∷ es) n k l row = let b = row.0 in (omega arith, row.1, after es row.2, one_more es n k l row.3)
    where
      after : (es : List Edge) → After e.start es → After e.start (es ++ (record { start = n; id = k } ∷ []))
      after [] a = row.0
      after (f ∷ fs) a = a

  add : (es : List Edge) (n : ℕ) (o : Option ℕ) → Row pieces n es → ((k : ℕ) → o ≡ some k → k < pieces) → Row pieces (suc n) (es ++ edge n o)
  add es n none row named = rw append-nil (wider es n row)
  add es n (some k) row named = one_more es n k (named k refl) row

  starting_sound : (f : ℕ → Option ℕ) → ((s k : ℕ) → f s ≡ some k → k < pieces) → (n : ℕ) → Row pieces n (starting f n)
  starting_sound f named zero = tt
  starting_sound f named (suc n) = add (starting f n) n (f n) (starting_sound f named n) (named n)

  rows_more : (rs : List (List Edge)) (p : ℕ) (row : List Edge) → Rows pieces p rs → Row pieces (p + length rs) row → Rows pieces p (rs ++ (row ∷ []))
  rows_more [] p row rs r = let z : p + 0 ≡ p = omega arith in (subst (λ (q : ℕ). Row pieces q row) z r, tt)
  rows_more (one ∷ others) p row rs r =
      let next : p + suc (length others) ≡ suc p + length others = omega arith in
      (rs.0, rows_more others (suc p) row rs.1 (subst (λ (q : ℕ). Row pieces q row) next r))

  rows_sound : (f : ℕ → List Edge) → ((n : ℕ) → Row pieces n (f n)) → (n : ℕ) → Rows pieces 0 (rows f n)
  rows_sound f sound zero = tt
  rows_sound f sound (suc n) = let e = length_rows f n in let z : n ≡ 0 + length (rows f n) = omega arith in rows_more (rows f n) 0 (f n) (rows_sound f sound n) (subst (λ (q : ℕ). Row pieces q (f n)) z (sound n))

pub built_sound : (setting : ℕ) (pieces : List (List ℕ)) (word : List ℕ) → Rows (length pieces) 0 (lattice setting pieces word)
built_sound setting pieces word =
    rows_sound (length pieces) (ending setting pieces word)
    (λ end. starting_sound (length pieces) (edge_id setting pieces word end) (λ s k e. (found pieces _ k (within setting pieces word end s k e).1).inside) end)
    (suc (length word))
