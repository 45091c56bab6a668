-- What it means that a lattice is well formed: its slices hold a lattice, row by row, and hold no other. Every lattice that
-- is built from pieces passes once it is laid out. Assumes nothing.
use mathlib.Core.Path.{◌≡◌, refl, sym, ap, ap₂, ◌∙◌, subst}
use mathlib.Core.Bool.{Bool, true, false}
use mathlib.Core.List.{List, map}
use Prim.Native.Nat.{ℕ, suc, ◌+◌, ◌-◌, ◌≤◌}
use native.Mathlib.Numerals.{add-one}
use native.Mathlib.Omega.{arith}
use lib.ListN.{length, get_or}
use lib.Seq.{slice}
use Rattle.lattice.specs.Lattice.{Edge, lattice}
use Rattle.lattice.specs.Layout.{joined, offsets_from, offsets}
use Rattle.formed.specs.declared.Span.{Span}
use Rattle.laws.specs.Tests.{Says}
use Rattle.formed.specs.Formed.{Inside, Formed, offset}
use Rattle.formed.specs.Held.{Held}
use Rattle.formed.proofs.Readback.{edges_at, rows_at, Rising, length_rows, rows_joined, rows_offsets, edges_slice}
use Rattle.formed.proofs.Sound.{rows}
use Rattle.formed.proofs.Unique.{Stand, same_rows}
use Rattle.formed.proofs.Converse.{held_formed}
use Rattle.formed.proofs.Built.{built_sound}

-- the test gives one answer
pub one_answer : (P : Type 0) (r s : Bool) → Says r P → Says s P → r ≡ s
one_answer P true true p q = refl
one_answer P true false p q = absurd (q p)
one_answer P false true p q = absurd (p q)
one_answer P false false p q = refl

module _ (starts ids ends : List ℕ) (pieces : ℕ) (span : Span) where
  -- the lattice that the slices hold
  abbrev pub read_back : List (List Edge)
  read_back = rows_at starts ids span.from (offset ends span) 0 (suc span.n)

  rising : Formed starts ids ends pieces span → Rising starts ids span.from (offset ends span) 0 (suc span.n)
  rising formed q a b = rw add-one at (formed.ending q (omega arith)).rises

  all_edges : Formed starts ids ends pieces span → joined read_back ≡ edges_at starts ids span.from (span.to - span.from)
  all_edges formed =
      let nought = formed.from_nought in
      let past = rw add-one at formed.to_count in
      let begin : span.from + offset ends span 0 ≡ span.from = omega arith in
      let count : offset ends span (suc span.n) - offset ends span 0 ≡ span.to - span.from = omega arith in
      rows_joined starts ids span.from (offset ends span) (suc span.n) 0 (suc span.n) (omega arith) (rising formed) ∙ ap₂ (edges_at starts ids) begin count

  -- all the edges, by start or by id, are what the slice xs holds
  in_slice : Formed starts ids ends pieces span → (f : Edge → ℕ) (xs : List ℕ) → ((k : ℕ) → f (record { start = get_or starts k 0; id = get_or ids k 0 }) ≡ get_or xs k 0) → length starts ≡ length xs → slice span.from span.to xs ≡ map f (joined read_back)
  in_slice formed f xs is same =
      let inside = formed.inside in
      sym (ap (map f) (all_edges formed) ∙ edges_slice starts ids f xs is (span.to - span.from) span.from span.to (omega arith) (omega arith))

  -- slices that are well formed hold a lattice
  pub well_formed_holds : Formed starts ids ends pieces span → Held starts ids ends pieces span read_back
  well_formed_holds formed =
      let there = rows_offsets starts ids span.from (offset ends span) ends span.at (λ q. refl) (suc span.n) 0 span.at (span.at + span.n + 2) (omega arith) (omega arith) formed.inside.offsets_in (rising formed) in
      record {
        inside = formed.inside;
        ends_are = length_rows starts ids span.from (offset ends span) (suc span.n) 0 ∙ sym (add-one span.n);
        starts_are = in_slice formed (λ e. e.start) starts (λ k. refl) refl;
        ids_are = in_slice formed (λ e. e.id) ids (λ k. refl) formed.inside.equally_many;
        offsets_are = sym (ap (λ (a : ℕ). offsets_from a read_back) (sym formed.from_nought) ∙ there);
        rows = rows starts ids pieces ends span (suc span.n) 0 (λ q a b. formed.ending q (omega arith));
      }

  -- they hold no other
  pub holds_one : (rows : List (List Edge)) → Held starts ids ends pieces span rows → rows ≡ read_back
  holds_one rows held =
      let inside = held.inside in
      let in_ids : span.to ≤ length ids = omega arith in
      let begin : span.from ≡ span.from + 0 = omega arith in
      let stand : Stand starts ids span.to inside.edges_in in_ids (joined rows) span.from = record { by_start = sym held.starts_are; by_id = sym held.ids_are } in
      same_rows starts ids span.to inside.edges_in in_ids span.from ends span.at rows 0 0 span.at (span.at + span.n + 2) (omega arith) inside.offsets_in (sym held.offsets_are)
      (subst (Stand starts ids span.to inside.edges_in in_ids (joined rows)) begin stand)
      ∙ ap (rows_at starts ids span.from (offset ends span) 0) (held.ends_are ∙ add-one span.n)

  -- and slices that hold a lattice are well formed
  pub holds_well_formed : (rows : List (List Edge)) → Held starts ids ends pieces span rows → Formed starts ids ends pieces span
  holds_well_formed rows held = held_formed starts ids pieces ends span (subst (Held starts ids ends pieces span) (holds_one rows held) held)

-- a lattice that is built from pieces is well formed wherever it is laid out
pub built_well_formed : (starts ids ends : List ℕ) (span : Span) (setting : ℕ) (pieces : List (List ℕ)) (word : List ℕ) → Inside starts ids ends span → length (lattice setting pieces word) ≡ span.n + 1
    → slice span.from span.to starts ≡ map (λ e. e.start) (joined (lattice setting pieces word))
    → slice span.from span.to ids ≡ map (λ e. e.id) (joined (lattice setting pieces word))
    → slice span.at (span.at + span.n + 2) ends ≡ offsets (lattice setting pieces word)
    → Formed starts ids ends (length pieces) span
built_well_formed starts ids ends span setting pieces word inside n s i o =
    holds_well_formed starts ids ends (length pieces) span (lattice setting pieces word) (record { inside = inside; ends_are = n; starts_are = s; ids_are = i; offsets_are = o; rows = built_sound setting pieces word })
