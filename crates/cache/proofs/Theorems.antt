-- Demand 3, first part, of the function that callers call: after each of any number of prunings the kept lattices are, edge
-- for edge and offset for offset, those built afresh from the survivors. And no second outcome fits. Assumes nothing.
use Rattle.std.specs.Prelude.{Result, Ok, Err}
use mathlib.Core.Path.{◌≡◌, refl, sym, ap, ap₂, ◌∙◌, subst}
use mathlib.Core.Bool.{true≢false}
use mathlib.Core.List.{List, [], ◌∷◌}
use Prim.Native.Nat.{ℕ, ◌+◌, ◌-◌}
use native.Mathlib.Omega.{arith}
use lib.ListN.{length, take, replicate, length-append, length-map, length-replicate}
use lib.Seq.{take-append_seam}
use Rattle.laws.proofs.Outcome.{one_outcome}
use Rattle.lattice.specs.Pieces.{Distinct}
use Rattle.lattice.specs.Lattice.{Edge, lattice, cache}
use Rattle.lattice.specs.Layout.{flat}
use Rattle.lattice.specs.Pruning.{Remap, survivors, Prunings, no_pruning, one_more, survivors_of}
use Rattle.lattice.proofs.Survivors.{still_distinct}
use Rattle.lattice.proofs.Theorems.{in_step_once}
use Rattle.refusal.specs.declared.Refusal.{Refusal}
use Rattle.refusal.specs.declared.Refusal.TheVariants.{BadLattice, BadRemap}
use Rattle.refusal.specs.Numbers.{place_of}
use Rattle.cached.specs.Cached.{CacheFormed}
use Rattle.cached.specs.Held.{Begins, Held}
use Rattle.cached.proofs.Theorems.{built_lattices, read_back, well_formed_holds, holds_well_formed, one_answer}
use Rattle.retain.specs.Remaps.{Lowest}
use Rattle.retain.proofs.Held.{same_many}
use Rattle.retain.proofs.Theorems.{remap_fits, remap_refused}
use Rattle.fresh.specs.Build.{Results}
use Rattle.fresh.specs.Slots.{filled, Holds}
use Rattle.cache.specs.Retain.{Why, bad_lattice, bad_remap, Answers}
use Rattle.cache.proofs.Refusing.{fitting, reason}

-- a call that takes x, answers r and leaves y, by the contract of `retain`
abbrev pub Call : ℕ → List ℕ → Results → Results → Result ℕ Refusal → Type 0
Call words remap x y r = Answers x.offsets x.starts x.ids x.spans words remap y.offsets y.starts y.ids y.spans r

-- the slices hold the cache that is built from these pieces
pub record Built (setting : ℕ) (pieces words : List (List ℕ)) (x : Results) : Type 0 where
  pub equally_many : length x.starts ≡ length x.ids
  pub holds : Held x.starts x.ids x.offsets x.spans (length pieces) (length words) (cache setting pieces words)

-- ---- a remap of a pruning has no wrong entry
not_both : (remap : List ℕ) (entry : ℕ) → Remap 0 remap → Lowest 0 remap entry → ⊥
not_both remap entry r l = true≢false (ap fitting (sym ((remap_fits remap).1 r) ∙ (remap_refused remap entry).1 l))

-- ---- what was left is a cache again
filled_begins : (front : List ℕ) (n : ℕ) {xs : List ℕ} → xs ≡ filled front n → Begins xs front
filled_begins front n e = ap (take (length front)) e ∙ take-append_seam front (replicate (n - length front) 0)

filled_long : (front : List ℕ) (n : ℕ) {xs : List ℕ} → xs ≡ filled front n → length xs ≡ length front + (n - length front)
filled_long front n e = let a = length-replicate {A = ℕ} (n - length front) 0 in let b = length-append front (replicate (n - length front) 0) in let c = ap length e in omega arith

pub still_built : (setting : ℕ) (pieces words : List (List ℕ)) (x y : Results) (count : ℕ) → length x.starts ≡ length x.ids → Holds (cache setting pieces words) x.offsets x.starts x.ids x.spans y.offsets y.starts y.ids y.spans count → Built setting pieces words y
still_built setting pieces words x y count same h =
    let lattices = cache setting pieces words in
    let a = filled_long (flat lattices).starts (length x.starts) h.starts_are in
    let b = filled_long (flat lattices).ids (length x.ids) h.ids_are in
    let c = same_many lattices in
    record {
      equally_many = a ∙ ap₂ (λ (k n : ℕ). k + (n - k)) (sym c) same ∙ sym b;
      holds = record {
        many = length-map words (lattice setting pieces);
        starts_are = filled_begins (flat lattices).starts (length x.starts) h.starts_are;
        ids_are = filled_begins (flat lattices).ids (length x.ids) h.ids_are;
        ends_are = filled_begins (flat lattices).ends (length x.offsets) h.offsets_are;
        spans_are = filled_begins (flat lattices).spans (length x.spans) h.spans_are;
        rows = built_lattices setting pieces words;
      };
    }

-- ---- one pruning: it is not refused, and leaves the cache built afresh from the survivors, with zeros behind
pub record Pruned (setting : ℕ) (pieces words : List (List ℕ)) (x y : Results) (r : Result ℕ Refusal) : Type 0 where
  pub count : ℕ
  pub answer : r ≡ Ok count
  pub afresh : Holds (cache setting pieces words) x.offsets x.starts x.ids x.spans y.offsets y.starts y.ids y.spans count

module _ (setting : ℕ) {remap : List ℕ} {pieces : List (List ℕ)} (m : Remap 0 remap) (d : Distinct pieces) (l : length remap ≡ length pieces) (words : List (List ℕ)) {x : Results} (b : Built setting pieces words x) where
  held : Held x.starts x.ids x.offsets x.spans (length remap) (length words) (cache setting pieces words)
  held = subst (λ (n : ℕ). Held x.starts x.ids x.offsets x.spans n (length words) (cache setting pieces words)) (sym l) b.holds

  formed : CacheFormed x.starts x.ids x.offsets x.spans (length remap) (length words)
  formed = holds_well_formed x.starts x.ids x.offsets x.spans (length remap) (length words) (cache setting pieces words) b.equally_many held

  pub in_step : {y : Results} (r : Result ℕ Refusal) → Call (length words) remap x y r → Pruned setting (survivors remap pieces) words x y r
  in_step {y} (Ok count) call =
      record { count = count; answer = refl; afresh = subst (λ (ls : List (List (List Edge))). Holds ls x.offsets x.starts x.ids x.spans y.offsets y.starts y.ids y.spans count) (in_step_once setting m d l words) (call.2 (cache setting pieces words) held) }
  in_step {y} (Err r) call = absurd (never r call.0)
    where
      never : (r : Refusal) → Why x.offsets x.starts x.ids x.spans (length words) remap r → ⊥
      never r (bad_lattice bad) = bad.bad (formed _ bad.within)
      never r (bad_remap f low) = not_both remap _ m low

-- ---- "after each of any number of prunings (survivors keep their order)"
pub data Calls (words : ℕ) : List (List ℕ) → Results → Results → Type 0 where
  no_call : {x : Results} → Calls words [] x x
  one_call : {remap : List ℕ} {remaps : List (List ℕ)} {x y z : Results} (r : Result ℕ Refusal) → Call words remap x y r → Calls words remaps y z → Calls words (remap ∷ remaps) x z

pub in_step_always : (setting : ℕ) {pieces remaps : List (List ℕ)} → Distinct pieces → Prunings pieces remaps → (words : List (List ℕ)) {x y : Results} → Calls (length words) remaps x y
    → Built setting pieces words x → Built setting (survivors_of remaps pieces) words y
in_step_always setting d no_pruning words no_call b = b
in_step_always setting d (one_more {pieces} {remap} {remaps} m l s) words (one_call {x = x} {y = y} r call calls) b =
    let p = in_step setting m d l words b r call in
    in_step_always setting (still_distinct remap d) s words calls (still_built setting (survivors remap pieces) words x y p.count b.equally_many p.afresh)

-- ---- no second outcome
pub same_results : {y z : Results} → y.offsets ≡ z.offsets → y.starts ≡ z.starts → y.ids ≡ z.ids → y.spans ≡ z.spans → y ≡ z
same_results o s i p = λ j. record { offsets = o j; starts = s j; ids = i j; spans = p j }

lowest_one : (remap : List ℕ) (a b : ℕ) → Lowest 0 remap a → Lowest 0 remap b → a ≡ b
lowest_one remap a b p q = ap place (sym ((remap_refused remap a).1 p) ∙ (remap_refused remap b).1 q)
  where
    place : Result (Unit {0}) Refusal → ℕ
    place r = place_of (reason r)

module _ (words : ℕ) (remap : List ℕ) (x : Results) where
  one_why : (r s : Refusal) → Why x.offsets x.starts x.ids x.spans words remap r → Why x.offsets x.starts x.ids x.spans words remap s → r ≡ s
  one_why r s (bad_lattice {word = w} p) (bad_lattice {word = v} q) = ap word_of (one_answer x.starts x.ids x.offsets x.spans (length remap) words (Err w) (Err v) p q)
    where
      word_of : Result (Unit {0}) ℕ → Refusal
      word_of (Ok _) = BadLattice 0
      word_of (Err w) = BadLattice w
  one_why r s (bad_lattice p) (bad_remap f q) = absurd (p.bad (f _ p.within))
  one_why r s (bad_remap f p) (bad_lattice q) = absurd (q.bad (f _ q.within))
  one_why r s (bad_remap {entry = a} f p) (bad_remap {entry = b} g q) = ap BadRemap (lowest_one remap a b p q)

  well : (r : Refusal) → Why x.offsets x.starts x.ids x.spans words remap r → CacheFormed x.starts x.ids x.offsets x.spans (length remap) words → Remap 0 remap → ⊥
  well r (bad_lattice p) formed m = p.bad (formed _ p.within)
  well r (bad_remap f p) _ m = not_both remap _ m p

  pub no_second : {y z : Results} (r s : Result ℕ Refusal) → Call words remap x y r → Call words remap x z s → (y ≡ z) × (r ≡ s)
  no_second (Ok a) (Ok b) p q =
      let held = well_formed_holds x.starts x.ids x.offsets x.spans (length remap) words p.0 in
      let lattices = read_back x.starts x.ids x.offsets x.spans (length remap) words in
      let h = p.2 lattices held in
      let k = q.2 lattices held in
      (same_results (one_outcome h.offsets_are k.offsets_are) (one_outcome h.starts_are k.starts_are) (one_outcome h.ids_are k.ids_are) (one_outcome h.spans_are k.spans_are), ap (λ (n : ℕ). Ok n) (one_outcome h.edges k.edges))
  no_second (Ok a) (Err s) p q = absurd (well s q.0 p.0 p.1)
  no_second (Err r) (Ok b) p q = absurd (well r p.0 q.0 q.1)
  no_second (Err r) (Err s) p q =
      let h = p.1 in
      let k = q.1 in
      (same_results (one_outcome h.offsets_kept k.offsets_kept) (one_outcome h.starts_kept k.starts_kept) (one_outcome h.ids_kept k.ids_kept) (one_outcome h.spans_kept k.spans_kept), ap (λ (r : Refusal). Err r) (one_why r s p.0 q.0))
