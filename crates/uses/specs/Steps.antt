-- What the functions are given, and what each step does to the slices. Definitions only.
use Rattle.std.specs.Prelude.{◌≡◌, ℕ, ◌+◌, ◌<◌, ◌≤◌, List, [], ◌∷◌, length, slice_index_or, Float}
use Rattle.std.proofs.Math.Seq.{slice}
use Rattle.lattice.specs.Lattice.{Edge}
use Rattle.lattice.specs.Layout.{char_count}
use Rattle.formed.specs.declared.Span.{Span}
use Rattle.formed.specs.Formed.{Formed}
use Rattle.cached.specs.Cached.{span_at, Present}
use Rattle.cached.specs.Held.{Held}
use Rattle.viterbi.specs.Slices.{WellFormed}
use Rattle.uses.specs.Uses.{add_word}

-- the slices hold the lattices of so many words, each piece id has a score, and each word a frequency and at most 255 characters
pub record Given (offsets starts ids spans frequencies : List ℕ) (words : ℕ) (scores : List Float) : Type 0 where
  pub lattices : List (List (List Edge))
  pub held : Held starts ids offsets spans (length scores) words lattices
  pub equally_many : length starts ≡ length ids
  pub short : (word : ℕ) → word < words → char_count (slice_index_or lattices word []) ≤ 255
  pub frequent : words ≤ length frequencies

-- ---- the steps
-- each id is one of so many pieces
abbrev pub Named : ℕ → List ℕ → Type 0
Named pieces [] = Unit
Named pieces (id ∷ ids) = (id < pieces) × Named pieces ids

-- a word's own slices
pub record Cuttable (offsets starts ids : List ℕ) (scores : List Float) (n : ℕ) : Type 0 where
  pub well_formed : WellFormed offsets starts ids scores n
  pub short : n ≤ 255

-- a word's lattice stands at its span, and it has a frequency
pub record WordAt (offsets starts ids spans frequencies : List ℕ) (scores : List Float) (word : ℕ) : Type 0 where
  pub present : Present spans word
  pub formed : Formed starts ids offsets (length scores) (span_at spans word)
  pub short : (span_at spans word).n ≤ 255
  pub frequent : word < length frequencies

-- what the word at a span adds
abbrev pub add_span : List ℕ → List ℕ → List ℕ → Span → List Float → ℕ → List Float → List Float
add_span offsets starts ids span scores frequency uses =
    add_word (slice span.at (span.at + span.n + 2) offsets) (slice span.from span.to starts) (slice span.from span.to ids) span.n scores frequency uses
