-- What the functions of a pass are given, and what each step does to the slices. Definitions only.
use Rattle.std.specs.Prelude.{◌≡◌, ℕ, ◌+◌, ◌<◌, ◌≤◌, List, [], length, get_or, slice_index, slice_index_or, Float}
use Rattle.std.proofs.Math.Seq.{slice}
use Rattle.lattice.specs.Lattice.{Edge}
use Rattle.lattice.specs.Layout.{edge_count, char_count}
use Rattle.formed.specs.declared.Span.{Span}
use Rattle.formed.specs.Formed.{Formed}
use Rattle.cached.specs.Cached.{span_at, Present}
use Rattle.cached.specs.Held.{Held}
use Rattle.em.specs.Em.{add_word}

-- "A word has 0 to 255 bytes", and so at most 255 characters, each the end of at most 32 edges
pub record Small (lattice : List (List Edge)) : Type 0 where
  pub chars : char_count lattice ≤ 255
  pub edges : edge_count lattice ≤ 8160

-- the slices hold the lattices of so many words, each piece id has a score, and each word has a frequency
pub record Given (offsets starts ids spans frequencies : List ℕ) (words pieces : ℕ) : Type 0 where
  pub lattices : List (List (List Edge))
  pub held : Held starts ids offsets spans pieces words lattices
  pub equally_many : length starts ≡ length ids
  pub small : (word : ℕ) → word < words → Small (slice_index_or lattices word [])
  pub frequent : words ≤ length frequencies

-- ---- the steps
-- an edge has an entry, and its piece a count
pub record Counted (ids : List ℕ) (emitted pieces k : ℕ) : Type 0 where
  pub in_ids : k < length ids
  pub in_emitted : k < emitted
  pub id_in : get_or ids k 0 < pieces

-- each edge
pub record AllCounted (ids : List ℕ) (emitted pieces : ℕ) : Type 0 where
  pub entries : length ids ≤ emitted
  pub named : (k : ℕ) → k < length ids → slice_index ids k < pieces

-- a word's lattice stands at its span, is well formed and small, and it has a frequency
pub record WordAt (offsets starts ids spans frequencies : List ℕ) (pieces word : ℕ) : Type 0 where
  pub present : Present spans word
  pub formed : Formed starts ids offsets pieces (span_at spans word)
  pub chars : (span_at spans word).n ≤ 255
  pub edges : (span_at spans word).to ≤ (span_at spans word).from + 8160
  pub frequent : word < length frequencies

-- what the word at a span adds
abbrev pub add_span : List ℕ → List ℕ → List ℕ → Span → List Float → ℕ → List Float → List Float
add_span offsets starts ids span scores frequency expected =
    add_word (slice span.at (span.at + span.n + 2) offsets) (slice span.from span.to starts) (slice span.from span.to ids) span.n scores frequency expected
