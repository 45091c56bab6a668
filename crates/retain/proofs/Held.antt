-- What a call leaves, the slices then begin with, also after `clear`. Assumes nothing.
use mathlib.Core.Path.{◌≡◌, sym, ap, ap₂, ◌∙◌, subst}
use mathlib.Core.List.{List, ◌++◌}
use Prim.Native.Nat.{ℕ, ◌-◌}
use native.Mathlib.Omega.{arith}
use lib.ListN.{length, drop, replicate, length-append, length-map}
use Rattle.lattice.specs.Lattice.{Edge}
use Rattle.lattice.specs.Layout.{flat}
use Rattle.lattice.specs.Written.{over}
use Rattle.retain.specs.Cleared.{cleared}
use Rattle.retain.specs.Calls.{Slices, Holds, Leaves, cleared_at}
use Rattle.lattice.proofs.Fronts.{begins}
use Rattle.lattice.proofs.Flat.{edges}
use Rattle.retain.proofs.Cleared.{cleared_front, cleared_begins}

pub holds : {lattices : List (List (List Edge))} {x y : Slices} {count : ℕ} → Leaves lattices x y count → Holds lattices y
holds {lattices} {x} p =
    record {
      offsets_begin = subst (λ (l : List ℕ). l ≡ over (flat lattices).ends l) (sym p.offsets_are) (begins (flat lattices).ends x.offsets);
      starts_begin = subst (λ (l : List ℕ). l ≡ over (flat lattices).starts l) (sym p.starts_are) (begins (flat lattices).starts x.starts);
      ids_begin = subst (λ (l : List ℕ). l ≡ over (flat lattices).ids l) (sym p.ids_are) (begins (flat lattices).ids x.ids);
      spans_begin = subst (λ (l : List ℕ). l ≡ over (flat lattices).spans l) (sym p.spans_are) (begins (flat lattices).spans x.spans);
    }

-- one slice after `clear`
pub same_many : (lattices : List (List (List Edge))) → length (flat lattices).ids ≡ length (flat lattices).starts
same_many lattices = length-map (edges lattices) (λ e. e.id) ∙ sym (length-map (edges lattices) (λ e. e.start))

pub column : (front l : List ℕ) {l' : List ℕ} {count : ℕ} → count ≡ length front → l' ≡ over front l → length l' ≡ length l → cleared count l' ≡ front ++ replicate (length l - count) 0
column front l {l'} {count} c e n =
    let a = ap length e in
    let b = length-append front (drop (length front) l) in
    ap₂ cleared c e ∙ cleared_front front l (omega arith) ∙ ap (λ (k : ℕ). front ++ replicate (length l - k) 0) (sym c)

still : (front l : List ℕ) {l' : List ℕ} {count : ℕ} → count ≡ length front → l' ≡ over front l → cleared count l' ≡ over front (cleared count l')
still front l c e = let z = ap₂ cleared c e in subst (λ (k : List ℕ). k ≡ over front k) (sym z) (cleared_begins front l)

-- the cache is still there
pub cleared_holds : {lattices : List (List (List Edge))} {x y : Slices} {count : ℕ} → Leaves lattices x y count → Holds lattices (cleared_at count y)
cleared_holds {lattices} {x} p =
    let h = holds p in
    record {
      offsets_begin = h.offsets_begin;
      starts_begin = still (flat lattices).starts x.starts (p.edges ∙ same_many lattices) p.starts_are;
      ids_begin = still (flat lattices).ids x.ids p.edges p.ids_are;
      spans_begin = h.spans_begin;
    }
