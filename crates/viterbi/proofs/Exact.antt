-- Exact slices of a lattice are well formed: those of a built lattice, and those that a caller cuts out of a cache at a word's span. Assumes nothing.
use mathlib.Core.Path.{◌≡◌, refl, ap, ◌∙◌}
use mathlib.Core.List.{List, [], ◌∷◌, map}
use Prim.Native.Nat.{ℕ, suc, ◌+◌, ◌≤◌}
use native.Mathlib.Nat.{le_trans}
use native.Mathlib.Omega.{arith}
use lib.ListN.{length, length-map}
use lib.Seq.{slice, take-length, take_all}
use lib.Ieee.{Float}
use Rattle.lattice.specs.Lattice.{Edge, ending, lattice}
use Rattle.lattice.specs.Layout.{joined, offsets}
use Rattle.lattice.proofs.Joined.{offsets_long}
use Rattle.formed.specs.declared.Span.{Span}
use Rattle.formed.specs.Formed.{Formed}
use Rattle.formed.specs.Held.{Row, Rows}
use Rattle.formed.proofs.Built.{length_rows, built_sound}
use Rattle.formed.proofs.Theorems.{read_back, well_formed_holds, holds_well_formed}
use Rattle.formed.specs.Word.{whole}
use Rattle.viterbi.specs.Slices.{WellFormed}

module _ {offs starts ids : List ℕ} {scores : List Float} {n : ℕ} (rows : List (List Edge)) (starts_are : starts ≡ map (λ e. e.start) (joined rows)) (ids_are : ids ≡ map (λ e. e.id) (joined rows)) (offsets_are : offs ≡ offsets rows) where
  pub exact : length rows ≡ n + 1 → Rows (length scores) 0 rows → WellFormed offs starts ids scores n
  exact ends sound =
      let c = ap length offsets_are ∙ offsets_long 0 rows in
      let a = ap length starts_are ∙ length-map (joined rows) (λ (e : Edge). e.start) in
      let b = ap length ids_are ∙ length-map (joined rows) (λ (e : Edge). e.id) in
      let equal : length starts ≡ length ids = omega arith in
      record {
        word = record {
          many = omega arith;
          formed = holds_well_formed starts ids offs (length scores) (whole starts n) rows (record {
            inside = record { equally_many = equal; from_to = omega arith; edges_in = omega arith; offsets_in = omega arith };
            ends_are = ends;
            starts_are = take-length starts ∙ starts_are;
            ids_are = take_all (length starts) ids (omega arith) ∙ ids_are;
            offsets_are = take_all (0 + n + 2) offs (omega arith) ∙ offsets_are;
            rows = sound;
          });
        };
      }

-- ---- a word's slices, cut out of a cache at its span
pub span_well_formed : (starts ids ends : List ℕ) (scores : List Float) (span : Span) → Formed starts ids ends (length scores) span
    → WellFormed (slice span.at (span.at + span.n + 2) ends) (slice span.from span.to starts) (slice span.from span.to ids) scores span.n
span_well_formed starts ids ends scores span formed =
    let held = well_formed_holds starts ids ends (length scores) span formed in
    exact (read_back starts ids ends (length scores) span) held.starts_are held.ids_are held.offsets_are held.ends_are held.rows

-- ---- the slices of a built lattice
-- an id that has a score still has one where more are lent
row_named : {m n : ℕ} → m ≤ n → (end : ℕ) (row : List Edge) → Row m end row → Row n end row
row_named h end [] r = tt
row_named h end (e ∷ es) (start, id, after, r) = (start, le_trans id h, after, row_named h end es r)

rows_named : {m n : ℕ} → m ≤ n → (end : ℕ) (rows : List (List Edge)) → Rows m end rows → Rows n end rows
rows_named h end [] r = tt
rows_named h end (row ∷ rows) (first, others) = (row_named h end row first, rows_named h (suc end) rows others)

pub built_exact : (setting : ℕ) (pieces : List (List ℕ)) (word : List ℕ) (scores : List Float) → length pieces ≤ length scores
    → WellFormed (offsets (lattice setting pieces word)) (map (λ e. e.start) (joined (lattice setting pieces word))) (map (λ e. e.id) (joined (lattice setting pieces word))) scores (length word)
built_exact setting pieces word scores many =
    let rows = lattice setting pieces word in
    let ends = length_rows (ending setting pieces word) (suc (length word)) in
    exact rows refl refl refl (omega arith) (rows_named many 0 rows (built_sound setting pieces word))
