-- Every word of a well-formed cache is seen, where its span says, and its view is a well-formed lattice. A view that is refused is empty. Assumes nothing.
use mathlib.Core.Path.{◌≡◌, refl, ap, subst, sym}
use mathlib.Core.Bool.{true, false}
use mathlib.Core.List.{List}
use Prim.Native.Nat.{ℕ, ◌+◌, ◌*◌, ◌≤◌, ◌<◌}
use native.Mathlib.Omega.{arith}
use lib.ListN.{length, get_or}
use lib.Ieee.{Float}
use borrow.Author.Tests.{le-leb}
use Rattle.formed.specs.Formed.{Inside}
use Rattle.formed.specs.Word.{WordFormed}
use Rattle.formed.specs.declared.Span.{Span}
use Rattle.cached.specs.Cached.{span_at, CacheFormed}
use Rattle.cached.proofs.Words.{cut_is}
use Rattle.viterbi.proofs.Exact.{span_well_formed}
use Rattle.cut.specs.Cut.{Formed}
use Rattle.view.specs.Located.{inside, whole, located}
use Rattle.view.specs.View.{parted, viewed, nothing, lent_of}
use Rattle.view.proofs.Seeing.{no_span, outside, all_inside}

is_inside : (starts ids offsets : List ℕ) (span : Span) → Inside starts ids offsets span → inside starts ids offsets span.from span.to span.at span.n ≡ true
is_inside starts ids offsets span i =
    let same = i.equally_many in
    let edges = i.edges_in in
    rw (le-leb span.from span.to i.from_to, le-leb span.to (length starts) edges, le-leb span.to (length ids) (omega arith), le-leb (span.at + span.n + 2) (length offsets) i.offsets_in) refl

pub formed_located : (starts ids offsets spans : List ℕ) (pieces words index : ℕ) → CacheFormed starts ids offsets spans pieces words → index < words
    → located starts ids offsets spans index ≡ whole (span_at spans index).from (span_at spans index).to (span_at spans index).at (span_at spans index).n
formed_located starts ids offsets spans pieces words index formed h =
    let w = formed index h in
    all_inside starts ids offsets spans index w.present refl refl refl refl (is_inside starts ids offsets (span_at spans index) w.formed.inside)

-- so no call on such a view is BadLattice
pub formed_viewed : (starts ids offsets spans : List ℕ) (scores : List Float) (words index : ℕ) → CacheFormed starts ids offsets spans (length scores) words → index < words
    → Formed (lent_of (viewed starts ids offsets spans index) scores)
formed_viewed starts ids offsets spans scores words index formed h =
    subst (λ word. Formed (lent_of (parted starts ids offsets word) scores)) (sym (formed_located starts ids offsets spans (length scores) words index formed h))
    (subst (λ (X : Type 0). X) (sym (cut_is offsets starts ids spans index (span_at spans index) refl (λ o s i n. WordFormed o s i (length scores) n)))
    (span_well_formed starts ids offsets scores (span_at spans index) (formed index h).formed).word)

-- "`view` of an absent index, or of a span outside its slices, is BadLattice at it, with n 0 and empty slices"
module _ (starts ids offsets spans : List ℕ) (index : ℕ) where
  pub absent_viewed : length spans < 4 * index + 4 → viewed starts ids offsets spans index ≡ nothing index
  absent_viewed h = ap (parted starts ids offsets) (no_span starts ids offsets spans index h)

  pub outside_viewed : 4 * index + 4 ≤ length spans → inside starts ids offsets (get_or spans (4 * index) 0) (get_or spans (4 * index + 1) 0) (get_or spans (4 * index + 2) 0) (get_or spans (4 * index + 3) 0) ≡ false
      → viewed starts ids offsets spans index ≡ nothing index
  outside_viewed h e = ap (parted starts ids offsets) (outside starts ids offsets spans index h refl refl refl refl e)

-- and no call takes such a view for a lattice
pub nothing_unformed : (index : ℕ) (scores : List Float) → Formed (lent_of (nothing index) scores) → ⊥
nothing_unformed index scores formed = let many = formed.many in omega arith
