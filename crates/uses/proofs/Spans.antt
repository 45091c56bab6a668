-- A word of a cache: where its lattice stands, and what a word more adds. Assumes nothing.
use Rattle.std.proofs.Common.{◌≡◌, ℕ, ◌+◌, ◌<◌, List, [], length, get_or, sym, ap, ◌∙◌, add-one, arith}
use lib.Seq.{slice}
use lib.Ieee.{Float}
use Rattle.lattice.specs.Lattice.{Edge}
use Rattle.formed.specs.declared.Span.{Span}
use Rattle.cached.specs.Cached.{span_at}
use Rattle.cached.specs.Held.{Held}
use Rattle.cached.proofs.Theorems.{holds_well_formed}
use Rattle.cached.proofs.Words.{own_span, at_span}
use Rattle.viterbi.proofs.Exact.{span_well_formed}
use Rattle.uses.specs.Uses.{add_word, add_lattice, uses_to}
use Rattle.uses.specs.Steps.{Given, Cuttable, WordAt, add_span}

module _ {starts ids ends' spans : List ℕ} {pieces words : ℕ} (lattices : List (List (List Edge))) (held : Held starts ids ends' spans pieces words lattices) (w : ℕ) (l : w < words) where
  -- what the slices at a word's span add is what its lattice adds
  adds_lattice : (scores : List Float) (frequency : ℕ) (uses : List Float) → add_span ends' starts ids (span_at spans w) scores frequency uses ≡ add_lattice (get_or lattices w []) scores frequency uses
  adds_lattice scores frequency uses = at_span lattices held w l (λ o s i n. add_word o s i n scores frequency uses)

-- ---- what `add_word` asks of a word
pub word_at : {offs starts ids spans frequencies : List ℕ} {words : ℕ} {scores : List Float} (given : Given offs starts ids spans frequencies words scores) (w : ℕ) → w < words → WordAt offs starts ids spans frequencies scores w
word_at {offs} {starts} {ids} {spans} {frequencies} {words} {scores} given w l =
    let good = holds_well_formed starts ids offs spans (length scores) words given.lattices given.equally_many given.held w l in
    let n = ap (λ (s : Span). s.n) (own_span given.lattices given.held w l) in
    let short = given.short w l in
    let many = given.frequent in
    record { present = good.present; formed = good.formed; short = omega arith; frequent = omega arith }

-- ---- what `add_lattice` asks of the lattice at a word's span
pub cuttable : {offs starts ids spans frequencies : List ℕ} {scores : List Float} {w : ℕ} → WordAt offs starts ids spans frequencies scores w
    → let s = span_at spans w in Cuttable (slice s.at (s.at + s.n + 2) offs) (slice s.from s.to starts) (slice s.from s.to ids) scores s.n
cuttable {offs} {starts} {ids} {spans} {scores = scores} {w = w} at = record { well_formed = span_well_formed starts ids offs scores (span_at spans w) at.formed; short = at.short }

-- ---- words, one after the other
module _ (offs starts ids spans frequencies : List ℕ) (words : ℕ) (scores : List Float) where
  -- the uses after the words so far, whatever lattices the slices hold
  pub record Used (word : ℕ) (uses : List Float) : Type 0 where
    pub long : length uses ≡ length scores
    pub is : (lattices : List (List (List Edge))) → Held starts ids offs spans (length scores) words lattices → uses ≡ uses_to lattices frequencies scores word

  pub used_more : {word : ℕ} {uses next : List Float} → word < words → Used word uses → length next ≡ length uses
      → next ≡ add_span offs starts ids (span_at spans word) scores (get_or frequencies word 0) uses → Used (word + 1) next
  used_more {word} {uses} l x n e =
      record {
        long = n ∙ x.long;
        is = λ lattices held.
            e ∙ adds_lattice lattices held word l scores (get_or frequencies word 0) uses
            ∙ ap (add_lattice (get_or lattices word []) scores (get_or frequencies word 0)) (x.is lattices held)
            ∙ ap (uses_to lattices frequencies scores) (sym (add-one word));
      }
