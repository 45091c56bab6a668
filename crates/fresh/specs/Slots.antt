-- A cache's four slices: what they hold, and zeros behind it. Definitions only.
use Rattle.std.specs.Prelude.{◌≡◌, List, ◌++◌, ℕ, ◌-◌, ◌*◌, ◌≤◌, length, replicate}
use Rattle.lattice.specs.Lattice.{Edge}
use Rattle.lattice.specs.Layout.{flat}
use Rattle.retain.specs.Cleared.{cleared}

-- a list, and zeros behind it up to so many slots
abbrev pub filled : List ℕ → ℕ → List ℕ
filled front slots = front ++ replicate (slots - length front) 0

-- the slices hold these lattices, with zeros behind
pub record Holds (lattices : List (List (List Edge))) (offsets starts ids spans offsets' starts' ids' spans' : List ℕ) (count : ℕ) : Type 0 where
  pub edges : count ≡ length (flat lattices).ids
  pub offsets_are : offsets' ≡ filled (flat lattices).ends (length offsets)
  pub starts_are : starts' ≡ filled (flat lattices).starts (length starts)
  pub ids_are : ids' ≡ filled (flat lattices).ids (length ids)
  pub spans_are : spans' ≡ filled (flat lattices).spans (length spans)

-- the slots past those used, and zeros in them
pub record Room (offsets starts ids spans : List ℕ) (ends edges words : ℕ) : Type 0 where
  pub in_offsets : ends ≤ length offsets
  pub in_starts : edges ≤ length starts
  pub in_ids : edges ≤ length ids
  pub in_spans : 4 * words ≤ length spans

pub record Cleared (offsets starts ids spans : List ℕ) (ends edges words : ℕ) (offsets' starts' ids' spans' : List ℕ) : Type 0 where
  pub offsets_are : offsets' ≡ cleared ends offsets
  pub starts_are : starts' ≡ cleared edges starts
  pub ids_are : ids' ≡ cleared edges ids
  pub spans_are : spans' ≡ cleared (4 * words) spans

-- "A refusal changes no result slice, cache or path"
pub record Kept (offsets starts ids spans offsets' starts' ids' spans' : List ℕ) : Type 0 where
  pub offsets_kept : offsets' ≡ offsets
  pub starts_kept : starts' ≡ starts
  pub ids_kept : ids' ≡ ids
  pub spans_kept : spans' ≡ spans
