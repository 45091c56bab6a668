-- What the two checks say of a call. Assumes nothing.
use Rattle.std.specs.Prelude.{Result, Ok, Err}
use mathlib.Core.Path.{◌≡◌, sym, ap, ◌∙◌, subst}
use mathlib.Core.Bool.{Bool, true, false, cond, true≢false}
use mathlib.Core.List.{List, [], ◌∷◌}
use Prim.Native.Nat.{ℕ, suc}
use lib.Dec.{eqb}
use lib.ListN.{length}
use Rattle.lattice.specs.Pruning.{gone, Remap}
use Rattle.refusal.specs.declared.Refusal.{Refusal}
use Rattle.refusal.specs.declared.Refusal.TheVariants.{NoPath, BadRemap}
use Rattle.cached.specs.Cached.{CacheFormed}
use Rattle.retain.specs.Remaps.{checked_from, checked}
use Rattle.retain.proofs.Theorems.{remap_fits, remap_refused}
use Rattle.cache.specs.Retain.{Why, bad_remap}

abbrev pub fitting : Result (Unit {0}) Refusal → Bool
fitting (Ok _) = true
fitting (Err r) = false

abbrev pub reason : Result (Unit {0}) Refusal → Refusal
reason (Ok _) = NoPath
reason (Err r) = r

-- a remap is refused with 13 alone
only_13 : (before entry : ℕ) (remap : List ℕ) (r : Refusal) → checked_from before entry remap ≡ Err r → (k : ℕ) × (r ≡ BadRemap k)
only_13 before entry [] r e = absurd (true≢false (ap fitting e))
only_13 before entry (id ∷ ids) r e = go (eqb id gone) (eqb id before) (only_13 before (suc entry) ids r) (only_13 (suc before) (suc entry) ids r) e
  where
    go : (b c : Bool) → (checked_from before (suc entry) ids ≡ Err r → (k : ℕ) × (r ≡ BadRemap k)) → (checked_from (suc before) (suc entry) ids ≡ Err r → (k : ℕ) × (r ≡ BadRemap k))
        → cond b (checked_from before (suc entry) ids) (cond c (checked_from (suc before) (suc entry) ids) (Err (BadRemap entry))) ≡ Err r → (k : ℕ) × (r ≡ BadRemap k)
    go true c f g e = f e
    go false true f g e = g e
    go false false f g e = (entry, sym (ap reason e))

pub why_remap : {offsets starts ids spans : List ℕ} {words : ℕ} {remap : List ℕ} (r : Refusal) → CacheFormed starts ids offsets spans (length remap) words → ◌≡◌ {A = Result (Unit {0}) Refusal} (Err r) (checked remap) → Why offsets starts ids spans words remap r
why_remap {offsets} {starts} {ids} {spans} {words} {remap} r formed is =
    let k = only_13 0 0 remap r (sym is) in
    subst (Why offsets starts ids spans words remap) (sym k.1) (bad_remap formed ((remap_refused remap k.0).0 (sym is ∙ ap (λ (x : Refusal). Err x) k.1)))

pub fits_remap : {remap : List ℕ} → ◌≡◌ {A = Result (Unit {0}) Refusal} (Ok tt) (checked remap) → Remap 0 remap
fits_remap {remap} is = (remap_fits remap).0 (sym is)
