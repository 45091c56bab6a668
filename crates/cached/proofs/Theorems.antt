-- What it means that a cache is well formed: its slices hold the lattices of its words, one after the other from slot 0.
-- Assumes nothing.
use mathlib.Core.Path.{◌≡◌, refl, sym, ap, ◌∙◌, subst}
use mathlib.Core.List.{List, [], ◌∷◌, map}
use Prim.Native.Nat.{ℕ, suc, ◌+◌, ◌*◌}
use native.Mathlib.Nat.{zero-add}
use native.Mathlib.Omega.{arith}
use native.Mathlib.Decide.{dec_lt}
use lib.ListN.{length, length-map}
use Rattle.lattice.specs.Lattice.{Edge, ending, lattice, cache}
use Rattle.lattice.specs.Layout.{joined, flat}
use Rattle.formed.specs.Held.{Rows}
use Rattle.formed.proofs.Built.{length_rows, built_sound}
use Rattle.std.specs.Prelude.{Result, Ok, Err}
use Rattle.cached.specs.Cached.{edges_before, offsets_before, CacheFormed, Answers}
use Rattle.cached.specs.Held.{Lattices, Begins, Held}
use Rattle.cached.proofs.Chains.{Chain, chain_begins}
use Rattle.cached.proofs.Fronts.{begins_front}
use Rattle.cached.proofs.Converse.{Rest, all_good, ends_long}
use Rattle.cached.proofs.Readback.{lattices_at, All, length_lattices, sound, part_of, edges_are, start_link, id_link, offsets_seen, ends_are, offset_link, four_of, spans_are, span_link}

-- the rows of each lattice that is built
pub built_lattices : (setting : ℕ) (pieces words : List (List ℕ)) → Lattices (length pieces) (cache setting pieces words)
built_lattices setting pieces [] = tt
built_lattices setting pieces (word ∷ words) = first (lattice setting pieces word) (cache setting pieces words) (length_rows (ending setting pieces word) (suc (length word))) (built_sound setting pieces word) (built_lattices setting pieces words)
  where
    first : (one : List (List Edge)) (others : List (List (List Edge))) → length one ≡ suc (length word) → Rows (length pieces) 0 one → Lattices (length pieces) others → Lattices (length pieces) (one ∷ others)
    first [] others e rows sound = let z : 0 ≡ suc (length word) = e in absurd (omega arith)
    first (row ∷ more) others e rows sound = (rows, sound)

module _ (starts ids ends spans : List ℕ) (pieces words : ℕ) where
  -- the lattices that the slices hold
  abbrev pub read_back : List (List (List Edge))
  read_back = lattices_at starts ids ends spans pieces 0 words

  edges_begin : (f : Edge → ℕ) (xs : List ℕ) → Chain xs (edges_before spans) (part_of starts ids ends spans pieces f) 0 words → Begins xs (map f (joined (joined read_back)))
  edges_begin f xs chain = subst (Begins xs) (sym (edges_are starts ids ends spans pieces f words 0)) (chain_begins xs (edges_before spans) (part_of starts ids ends spans pieces f) words refl chain)

  -- slices that are a well-formed cache hold a lattice for each word
  pub well_formed_holds : CacheFormed starts ids ends spans pieces words → Held starts ids ends spans pieces words read_back
  well_formed_holds formed =
      record {
        many = length_lattices starts ids ends spans pieces words 0;
        starts_are = edges_begin (λ e. e.start) starts (λ w a b. start_link starts ids ends spans pieces w (all w a b));
        ids_are = edges_begin (λ e. e.id) ids (λ w a b. id_link starts ids ends spans pieces w (all w a b));
        ends_are = subst (Begins ends) (sym (ends_are starts ids ends spans pieces words 0)) (chain_begins ends (offsets_before spans) (offsets_seen starts ids ends spans pieces) words refl (λ w a b. offset_link starts ids ends spans pieces w (all w a b)));
        spans_are = subst (Begins spans) (sym (spans_are starts ids ends spans pieces words 0 all)) (chain_begins spans (λ w. 4 * w) (four_of starts ids ends spans pieces) words refl (λ w a b. span_link starts ids ends spans pieces w (all w a b)));
        rows = sound starts ids ends spans pieces words 0 all;
      }
    where
      all : All starts ids ends spans pieces 0 words
      all w a b = formed w (omega arith)

  -- and slices that hold a lattice for each word are a well-formed cache
  module _ (lattices : List (List (List Edge))) (same : length starts ≡ length ids) (held : Held starts ids ends spans pieces words lattices) where
    rest : Rest starts ids ends spans pieces same lattices 0 0 0
    rest = record { edges_before_lem = refl; offsets_before_lem = refl; by_start = begins_front starts _ held.starts_are; by_id = begins_front ids _ held.ids_are; by_end = begins_front ends _ held.ends_are; by_span = begins_front spans _ held.spans_are }

    pub holds_well_formed : CacheFormed starts ids ends spans pieces words
    holds_well_formed w l = let many = held.many in all_good starts ids ends spans pieces same lattices 0 0 0 rest held.rows w (omega arith) (omega arith)

    -- its offsets end where those of its last word do
    pub offsets_used : offsets_before spans words ≡ length (flat lattices).ends
    offsets_used = let many : words ≡ 0 + length lattices = let m = held.many in omega arith in ap (offsets_before spans) many ∙ ends_long starts ids ends spans pieces same lattices 0 0 0 rest held.rows ∙ zero-add _

-- a cache that is built from pieces is well formed wherever it is laid out
pub built_well_formed : (starts ids ends spans : List ℕ) (setting : ℕ) (pieces words : List (List ℕ)) → length starts ≡ length ids → Begins starts (flat (cache setting pieces words)).starts → Begins ids (flat (cache setting pieces words)).ids
    → Begins ends (flat (cache setting pieces words)).ends → Begins spans (flat (cache setting pieces words)).spans → CacheFormed starts ids ends spans (length pieces) (length words)
built_well_formed starts ids ends spans setting pieces words same s i e p =
    holds_well_formed starts ids ends spans (length pieces) (length words) (cache setting pieces words) same
    (record { many = length-map words (lattice setting pieces); starts_are = s; ids_are = i; ends_are = e; spans_are = p; rows = built_lattices setting pieces words })

-- the test has one answer: a first bad word is the only first
pub one_answer : (starts ids ends spans : List ℕ) (pieces words : ℕ) (r s : Result (Unit {0}) ℕ) → Answers starts ids ends spans pieces words r → Answers starts ids ends spans pieces words s → r ≡ s
one_answer starts ids ends spans pieces words (Ok _) (Ok _) p q = refl
one_answer starts ids ends spans pieces words (Ok _) (Err w) p q = absurd (q.bad (p w q.within))
one_answer starts ids ends spans pieces words (Err w) (Ok _) p q = absurd (p.bad (q w p.within))
one_answer starts ids ends spans pieces words (Err w) (Err v) p q =
    elim (dec_lt w v) [
      | yes l ↦ absurd (p.bad (q.before w l))
      | no l ↦ elim (dec_lt v w) [ yes m ↦ absurd (q.bad (p.before v m)) | no m ↦ let e : w ≡ v = omega arith in ap Err e ]
    ]
