-- A word of a cache: where its lattice stands, and what a word more adds. Assumes nothing.
use Rattle.std.proofs.Common.{◌≡◌, ℕ, ◌+◌, ◌<◌, ◌≤◌, List, [], length, get_or, replicate, sym, ap, ◌∙◌, arith}
use lib.Seq.{slice, length-slice}
use lib.Ieee.{Float}
use Rattle.math.specs.Steps.{zero as nought}
use Rattle.lattice.specs.Lattice.{Edge}
use Rattle.formed.specs.Word.{WordFormed}
use Rattle.cached.specs.Cached.{span_at}
use Rattle.cached.specs.Held.{Held}
use Rattle.cached.proofs.Theorems.{holds_well_formed}
use Rattle.cached.proofs.Words.{own_span, at_span}
use Rattle.viterbi.proofs.Exact.{span_well_formed}
use Rattle.expectations.specs.Edges.{over}
use Rattle.expectations.proofs.InTurn.{over_more}
use Rattle.em.specs.Em.{add_word, add_lattice, add_next}
use Rattle.em.specs.Steps.{Given, WordAt, add_span}

module _ {starts ids ends' spans : List ℕ} {pieces words : ℕ} (lattices : List (List (List Edge))) (held : Held starts ids ends' spans pieces words lattices) (w : ℕ) (l : w < words) where
  -- what the slices at a word's span add is what its lattice adds
  adds_lattice : (scores : List Float) (frequency : ℕ) (expected : List Float) → add_span ends' starts ids (span_at spans w) scores frequency expected ≡ add_lattice (get_or lattices w []) scores frequency expected
  adds_lattice scores frequency expected = at_span lattices held w l (λ o s i n. add_word o s i n scores frequency expected)

-- ---- what `add_word` asks of a word
pub word_at : {offs starts ids spans frequencies : List ℕ} {words pieces : ℕ} (given : Given offs starts ids spans frequencies words pieces) (w : ℕ) → w < words → WordAt offs starts ids spans frequencies pieces w
word_at {offs} {starts} {ids} {spans} {frequencies} {words} {pieces} given w l =
    let good = holds_well_formed starts ids offs spans pieces words given.lattices given.equally_many given.held w l in
    let own = own_span given.lattices given.held w l in
    let small = given.small w l in
    let chars = small.chars in
    let edges = small.edges in
    let f = ap (λ s. s.from) own in
    let t = ap (λ s. s.to) own in
    let n = ap (λ s. s.n) own in
    let many = given.frequent in
    record { present = good.present; formed = good.formed; chars = omega arith; edges = omega arith; frequent = omega arith }

-- ---- what `add_lattice` asks of the lattice at a word's span
pub lattice_formed : {offs starts ids spans frequencies : List ℕ} (scores : List Float) {w : ℕ} → WordAt offs starts ids spans frequencies (length scores) w
    → let s = span_at spans w in WordFormed (slice s.at (s.at + s.n + 2) offs) (slice s.from s.to starts) (slice s.from s.to ids) (length scores) s.n × (s.n ≤ 255) × (length (slice s.from s.to starts) ≤ 8160)
lattice_formed {offs} {starts} {ids} {spans} scores {w} at =
    let s = span_at spans w in
    let m = at.edges in
    let many = length-slice s.from s.to starts at.formed.inside.edges_in in
    ((span_well_formed starts ids offs scores s at.formed).word, at.chars, omega arith)

-- ---- words, one after the other
module _ (offs starts ids spans frequencies : List ℕ) (words : ℕ) (scores : List Float) where
  -- what is expected after the words so far, whatever lattices the slices hold
  pub record Expected (word : ℕ) (expected : List Float) : Type 0 where
    pub long : length expected ≡ length scores
    pub is : (lattices : List (List (List Edge))) → Held starts ids offs spans (length scores) words lattices → expected ≡ over (add_next lattices frequencies scores) (replicate (length scores) nought) 0 word

  pub expected_more : {word : ℕ} {expected next : List Float} → word < words → Expected word expected → length next ≡ length expected
      → next ≡ add_span offs starts ids (span_at spans word) scores (get_or frequencies word 0) expected → Expected (word + 1) next
  expected_more {word} {expected} l x n e =
      record {
        long = n ∙ x.long;
        is = λ lattices held.
            e ∙ adds_lattice lattices held word l scores (get_or frequencies word 0) expected
            ∙ ap (add_lattice (get_or lattices word []) scores (get_or frequencies word 0)) (x.is lattices held)
            ∙ sym (over_more (add_next lattices frequencies scores) (replicate (length scores) nought) 0 word (omega arith));
      }
