-- From a cache that was checked to the core that prunes it, and from what the core leaves to what retain promises.
-- Assumes nothing.
use mathlib.Core.Path.{◌≡◌, refl, sym, ◌∙◌}
use mathlib.Core.List.{List, [], ◌∷◌, map}
use Prim.Native.Nat.{ℕ, zero, suc, ◌*◌, ◌≤◌}
use native.Mathlib.Omega.{arith}
use lib.ListN.{length, length-map}
use Rattle.lattice.specs.Lattice.{Edge}
use Rattle.lattice.specs.Layout.{flat}
use Rattle.lattice.specs.Pruning.{sift, retained}
use Rattle.cached.specs.Cached.{CacheFormed, offsets_before}
use Rattle.cached.specs.Held.{Held}
use Rattle.cached.proofs.Theorems.{read_back, well_formed_holds, offsets_used}
use Rattle.lattice.specs.Written.{Written}
use Rattle.retain.specs.Retain.{Laid, Cached}
use Rattle.retain.proofs.Caches.{written_long}
use Rattle.retain.proofs.Checked.{held_laid}
use Rattle.lattice.proofs.Flat.{spans_long}
use Rattle.retain.proofs.Sifted.{ends_retained}
use Rattle.fresh.specs.Slots.{Holds, Room, Cleared}
use Rattle.cache.specs.Retain.{Pruned}
use Rattle.fresh.proofs.Filled.{written_room, written_holds}

module _ (words : ℕ) (remap offsets starts ids spans : List ℕ) where
  module _ (formed : CacheFormed starts ids offsets spans (length remap) words) where
    pub taken : Cached words remap offsets starts ids spans
    taken = (read_back starts ids offsets spans (length remap) words, held_laid remap (well_formed_holds starts ids offsets spans (length remap) words formed))

    -- where the offsets that are used end
    ends_are : (lattices : List (List (List Edge))) → Held starts ids offsets spans (length remap) words lattices → offsets_before spans words ≡ length (flat lattices).ends
    ends_are lattices held = go words lattices formed held
      where
        go : (words : ℕ) (lattices : List (List (List Edge))) → CacheFormed starts ids offsets spans (length remap) words → Held starts ids offsets spans (length remap) words lattices → offsets_before spans words ≡ length (flat lattices).ends
        go zero [] formed held = refl
        go zero (l ∷ ls) formed held = let many = held.many in absurd (omega arith)
        go (suc words) lattices formed held = offsets_used starts ids offsets spans (length remap) (suc words) lattices (formed 0 (omega arith)).formed.inside.equally_many held

module _ (words : ℕ) (remap offsets starts ids spans : List ℕ) (formed : CacheFormed starts ids offsets spans (length remap) words) (o s i p : List ℕ) (ends count : ℕ)
    (core : (lattices : List (List (List Edge))) → Laid words remap offsets starts ids spans lattices → Written (retained remap lattices) offsets starts ids spans o s i p count) (e : ends ≡ offsets_before spans words) where
  module _ (lattices : List (List (List Edge))) (held : Held starts ids offsets spans (length remap) words lattices) where
    stands : Laid words remap offsets starts ids spans lattices
    stands = held_laid remap held

    written : Written (retained remap lattices) offsets starts ids spans o s i p count
    written = core lattices stands

    ends_many : ends ≡ length (flat (retained remap lattices)).ends
    ends_many = e ∙ ends_are words remap offsets starts ids spans formed lattices held ∙ sym (ends_retained remap lattices)

    spans_many : 4 * words ≡ length (flat (retained remap lattices)).spans
    spans_many = let a = spans_long 0 0 (retained remap lattices) in let b = length-map lattices (map (sift remap)) in let c = held.many in omega arith

    room_of : Room o s i p ends count words
    room_of = written_room (retained remap lattices) offsets starts ids spans words written ends_many spans_many

    holds_of : (o' s' i' p' : List ℕ) → Cleared o s i p ends count words o' s' i' p' → Holds (retained remap lattices) offsets starts ids spans o' s' i' p' count
    holds_of o' s' i' p' clear =
        let long = written_long stands written in
        written_holds (retained remap lattices) offsets starts ids spans words written ends_many spans_many long.offsets_long long.starts_long long.ids_long long.spans_long clear

  pub has_room : Room o s i p ends count words
  has_room = room_of (read_back starts ids offsets spans (length remap) words) (well_formed_holds starts ids offsets spans (length remap) words formed)

  pub pruned : (o' s' i' p' : List ℕ) → Cleared o s i p ends count words o' s' i' p' → Pruned offsets starts ids spans words remap o' s' i' p' count
  pruned o' s' i' p' clear lattices held = holds_of lattices held o' s' i' p' clear

-- each word has its four numbers
pub spans_fit : (starts ids offsets spans : List ℕ) (pieces words : ℕ) → CacheFormed starts ids offsets spans pieces words → 4 * words ≤ length spans
spans_fit starts ids offsets spans pieces zero formed = omega arith
spans_fit starts ids offsets spans pieces (suc words) formed = let l = (formed words (omega arith)).present in omega arith
