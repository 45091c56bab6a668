-- Lattices at the front of slices, as retain speaks of them and as EM does. Assumes nothing.
use mathlib.Core.Path.{◌≡◌, sym, ap, ◌∙◌, subst}
use mathlib.Core.List.{List, [], ◌++◌, append_assoc, append-nil}
use Prim.Native.Nat.{ℕ}
use lib.ListN.{length, take, drop, length-map}
use lib.Seq.{take-append_seam, drop-append_seam}
use Rattle.lattice.specs.Lattice.{lattice, cache}
use Rattle.lattice.specs.Layout.{flat}
use Rattle.lattice.specs.Written.{over, Begins}
use Rattle.retain.proofs.Held.{same_many}
use Rattle.cached.specs.Held.{Lattices, Held, Begins as Starts}
use Rattle.cached.proofs.Theorems.{built_lattices}

-- ---- one list
front_of : (front l : List ℕ) → l ≡ over front l → Starts l front
front_of front l e = ap (take (length front)) e ∙ take-append_seam front (drop (length front) l)

begins_by : (front l rest : List ℕ) → l ≡ front ++ rest → l ≡ over front l
begins_by front l rest e = e ∙ ap (λ (x : List ℕ). front ++ x) (sym (ap (drop (length front)) e ∙ drop-append_seam front rest))

-- cut right behind its front
pub cut_front : (front l : List ℕ) (n : ℕ) → n ≡ length front → l ≡ over front l → take n l ≡ over front (take n l)
cut_front front l n h e =
    begins_by front (take n l) [] (ap (λ (k : ℕ). take k l) h ∙ front_of front l e ∙ sym (append-nil front))

-- with more behind
pub longer_front : (front l rest : List ℕ) → l ≡ over front l → l ++ rest ≡ over front (l ++ rest)
longer_front front l rest e =
    begins_by front (l ++ rest) (drop (length front) l ++ rest)
    (ap (λ (x : List ℕ). x ++ rest) e ∙ append_assoc front (drop (length front) l) rest)

-- ---- the four slices of a cache
module _ (setting : ℕ) (pieces words : List (List ℕ)) (offsets starts ids spans : List ℕ) (b : Begins (cache setting pieces words) offsets starts ids spans) where
  -- as EM reads them
  pub held : (many count : ℕ) → length pieces ≡ count → length words ≡ many → Held starts ids offsets spans count many (cache setting pieces words)
  held many count p w =
      record {
        many = length-map words (lattice setting pieces) ∙ w;
        starts_are = front_of (flat (cache setting pieces words)).starts starts b.starts_begin;
        ids_are = front_of (flat (cache setting pieces words)).ids ids b.ids_begin;
        ends_are = front_of (flat (cache setting pieces words)).ends offsets b.offsets_begin;
        spans_are = front_of (flat (cache setting pieces words)).spans spans b.spans_begin;
        rows = subst (λ (k : ℕ). Lattices k (cache setting pieces words)) p (built_lattices setting pieces words);
      }

  -- edges' slices that are cut behind the last edge
  pub cut_begins : (edges : ℕ) → edges ≡ length (flat (cache setting pieces words)).ids → Begins (cache setting pieces words) offsets (take edges starts) (take edges ids) spans
  cut_begins edges e =
      record {
        offsets_begin = b.offsets_begin;
        starts_begin = cut_front (flat (cache setting pieces words)).starts starts edges (e ∙ same_many (cache setting pieces words)) b.starts_begin;
        ids_begin = cut_front (flat (cache setting pieces words)).ids ids edges e b.ids_begin;
        spans_begin = b.spans_begin;
      }

  -- and that have more behind
  pub longer_begins : (more others : List ℕ) → Begins (cache setting pieces words) offsets (starts ++ more) (ids ++ others) spans
  longer_begins more others =
      record {
        offsets_begin = b.offsets_begin;
        starts_begin = longer_front (flat (cache setting pieces words)).starts starts more b.starts_begin;
        ids_begin = longer_front (flat (cache setting pieces words)).ids ids others b.ids_begin;
        spans_begin = b.spans_begin;
      }
