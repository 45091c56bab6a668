-- What is proved of retain. `retain_core` promises: whatever lattices the slices hold (`Laid`), at exit the flat lists of
-- those lattices pruned stand over the slices' fronts (`Written (retained remap lattices)`). Assumes nothing.
use mathlib.Core.Path.{◌≡◌, refl, ◌∙◌, subst}
use mathlib.Core.Logic.{◌↔◌}
use mathlib.Core.List.{List, [], ◌∷◌, ◌++◌}
use Prim.Native.Nat.{ℕ, ◌-◌}
use lib.ListN.{length, replicate}
use Rattle.laws.proofs.Outcome.{one_outcome}
use Rattle.lattice.specs.Lattice.{Edge, cache}
use Rattle.lattice.specs.Pieces.{Distinct}
use Rattle.lattice.specs.Pruning.{gone, Remap, survivors, retained, Prunings, no_pruning, one_more, survivors_of}
use Rattle.lattice.specs.Layout.{flat}
use Rattle.lattice.proofs.Survivors.{still_distinct}
use Rattle.lattice.proofs.Theorems.{in_step_once}
use Rattle.cached.specs.Cached.{CacheFormed}
use Rattle.cached.proofs.Theorems.{read_back, well_formed_holds}
use Rattle.refusal.specs.declared.Refusal.TheVariants.{BadRemap}
use Rattle.refusal.specs.declared.Refusal.{Refusal}
use Rattle.std.specs.Prelude.{Result, Ok, Err}
use Rattle.retain.specs.Calls.{Slices, Holds, Takes, Leaves, Call, cleared_at, Calls, no_call, one_call, call_and_clear}
use Rattle.retain.specs.Remaps.{Lowest, checked}
use Rattle.retain.specs.Cleared.{cleared}
use Rattle.retain.proofs.Caches.{written_long}
use Rattle.retain.proofs.Built.{built}
use Rattle.retain.proofs.Checked.{held_laid}
use Rattle.retain.proofs.Held.{holds, same_many, column, cleared_holds}
use Rattle.retain.proofs.Refused.{fits_is, is_fits, refused_is, is_refused}

-- ---- retain takes every cache that was built
pub takes_built : (setting : ℕ) (pieces : List (List ℕ)) (words : List (List ℕ)) (remap : List ℕ) (x : Slices) → length remap ≡ length pieces → Holds (cache setting pieces words) x
    → Takes (length words) remap x (cache setting pieces words)
takes_built setting pieces words remap x l h = built setting pieces words l h

-- ---- and every lent cache that the crate `cached` finds well formed, each id with its remap entry
pub takes_formed : (words : ℕ) (remap : List ℕ) (x : Slices) → CacheFormed x.starts x.ids x.offsets x.spans (length remap) words
    → Takes words remap x (read_back x.starts x.ids x.offsets x.spans (length remap) words)
takes_formed words remap x f = held_laid remap (well_formed_holds x.starts x.ids x.offsets x.spans (length remap) words f)

-- ---- what it leaves is the flat cache of the pruned lattices
pub leaves_pruned : {words : ℕ} {remap : List ℕ} {x y : Slices} {count : ℕ} {lattices : List (List (List Edge))} → Call words remap x y count → Takes words remap x lattices → Holds (retained remap lattices) y
leaves_pruned {words} {remap} {x} {y} {count} {lattices} call laid = holds (call lattices laid)

-- ---- and so of the lattices built afresh from the survivors, edge for edge and offset for offset; what stands behind is as it was
module _ (setting : ℕ) {remap : List ℕ} {pieces : List (List ℕ)} (r : Remap 0 remap) (d : Distinct pieces) (l : length remap ≡ length pieces) (words : List (List ℕ)) {x y : Slices} {count : ℕ} where
  pub afresh : Call (length words) remap x y count → Holds (cache setting pieces words) x → Leaves (cache setting (survivors remap pieces) words) x y count
  afresh call h = subst (λ (ls : List (List (List Edge))). Leaves ls x y count) (in_step_once setting r d l words) (call (cache setting pieces words) (takes_built setting pieces words remap x l h))

-- ---- "Cache slots past the last used hold zeros": the edges' slots after `clear`, which follows a call with its count
pub edges_cleared : {words : ℕ} {remap : List ℕ} {x y : Slices} {count : ℕ} {lattices : List (List (List Edge))} → Takes words remap x lattices → Call words remap x y count
    → ((cleared_at count y).starts ≡ (flat (retained remap lattices)).starts ++ replicate (length x.starts - count) 0) × ((cleared_at count y).ids ≡ (flat (retained remap lattices)).ids ++ replicate (length x.ids - count) 0)
edges_cleared {remap = remap} {x = x} {y = y} {lattices = lattices} laid call =
    let p = call lattices laid in
    let long = written_long laid p in (
      column (flat (retained remap lattices)).starts x.starts (p.edges ∙ same_many (retained remap lattices)) p.starts_are long.starts_long,
      column (flat (retained remap lattices)).ids x.ids p.edges p.ids_are long.ids_long,
    )

-- ---- "after each of any number of prunings (survivors keep their order) the kept lattices are, edge for edge and offset for offset, those built afresh from the survivors"
-- The first calls of a list of calls are a list of calls too, so it holds after each.
pub in_step_always : (setting : ℕ) {pieces remaps : List (List ℕ)} → Distinct pieces → Prunings pieces remaps → (words : List (List ℕ)) {x y : Slices} → Calls (length words) remaps x y
    → Holds (cache setting pieces words) x → Holds (cache setting (survivors_of remaps pieces) words) y
in_step_always setting d no_pruning words no_call h = h
in_step_always setting d (one_more {pieces} {remap} {remaps} r l s) words (one_call call calls) h =
    in_step_always setting (still_distinct remap d) s words calls (holds (afresh setting r d l words call h))
in_step_always setting d (one_more {pieces} {remap} {remaps} r l s) words (call_and_clear call calls) h =
    in_step_always setting (still_distinct remap d) s words calls (cleared_holds (afresh setting r d l words call h))

-- ---- no second outcome
pub no_second : {words : ℕ} {remap : List ℕ} {x y z : Slices} {c d : ℕ} {lattices : List (List (List Edge))} → Takes words remap x lattices → Call words remap x y c → Call words remap x z d → (y ≡ z) × (c ≡ d)
no_second {lattices = lattices} laid p q =
    let a = p lattices laid in
    let b = q lattices laid in
    let o = one_outcome a.offsets_are b.offsets_are in
    let s = one_outcome a.starts_are b.starts_are in
    let i = one_outcome a.ids_are b.ids_are in
    let t = one_outcome a.spans_are b.spans_are in
    (λ j. record { offsets = o j; starts = s j; ids = i j; spans = t j }, one_outcome a.edges b.edges)

-- ---- the check of a remap: 13 "exactly when", at the lowest place
pub remap_fits : (remap : List ℕ) → (checked remap ≡ Ok tt) ↔ Remap 0 remap
remap_fits remap = (fits_is remap, is_fits remap)

pub remap_refused : (remap : List ℕ) (entry : ℕ) → (checked remap ≡ Err (BadRemap entry)) ↔ Lowest 0 remap entry
remap_refused remap entry = (refused_is remap entry, is_refused remap entry)

-- ---- no second outcome of the check or of clearing
pub no_second_check : (remap : List ℕ) {a b : Result Unit Refusal} → a ≡ checked remap → b ≡ checked remap → a ≡ b
no_second_check remap p q = one_outcome p q

pub no_second_clear : (from : ℕ) (slots : List ℕ) {a b : List ℕ} → a ≡ cleared from slots → b ≡ cleared from slots → a ≡ b
no_second_clear from slots p q = one_outcome p q

-- ---- document 01's example, b pruned of pieces a, b, ab, ba (a and b as 97 and 98) for the word aba, with a slot to spare in each slice
abbrev four : List (List ℕ)
four = (97 ∷ []) ∷ (98 ∷ []) ∷ (97 ∷ 98 ∷ []) ∷ (98 ∷ 97 ∷ []) ∷ []

abbrev before : Slices
before = record { offsets = 0 ∷ 0 ∷ 1 ∷ 3 ∷ 5 ∷ 7 ∷ []; starts = 0 ∷ 0 ∷ 1 ∷ 1 ∷ 2 ∷ 7 ∷ []; ids = 0 ∷ 2 ∷ 1 ∷ 3 ∷ 0 ∷ 7 ∷ []; spans = 0 ∷ 5 ∷ 0 ∷ 3 ∷ 7 ∷ [] }

abbrev after : Slices
after = record { offsets = 0 ∷ 0 ∷ 1 ∷ 2 ∷ 4 ∷ 7 ∷ []; starts = 0 ∷ 0 ∷ 1 ∷ 2 ∷ 2 ∷ 7 ∷ []; ids = 0 ∷ 1 ∷ 2 ∷ 0 ∷ 0 ∷ 7 ∷ []; spans = 0 ∷ 4 ∷ 0 ∷ 3 ∷ 7 ∷ [] }

abbrev example : List (List (List Edge))
example = cache 16 four ((97 ∷ 98 ∷ 97 ∷ []) ∷ [])

pub example_holds : Holds example before
example_holds = record { offsets_begin = refl; starts_begin = refl; ids_begin = refl; spans_begin = refl }

pub example_pruned : Leaves (retained (0 ∷ gone ∷ 1 ∷ 2 ∷ []) example) before after 4
example_pruned = record { edges = refl; offsets_are = refl; starts_are = refl; ids_are = refl; spans_are = refl }

-- the second 1 is neither `u32::MAX` nor 2, the count of survivors before it
pub example_refused : checked (0 ∷ gone ∷ 1 ∷ 1 ∷ 7 ∷ []) ≡ Err (BadRemap 3)
example_refused = refl
