-- Above minus infinity, and finite: floats as the best cut meets them. Assumes nothing.
use mathlib.Core.Path.{◌≡◌, refl, sym}
use mathlib.Core.Bool.{true, false, true≢false}
use lib.Ieee.{Float, nan, inf, fin, binary64, add, lt}
use lib.Ieee.Scale.{finite}

-- ---- minus infinity is above nothing, and so is its sum with any score: minus infinity or NaN
pub not_above_itself : lt (inf true) (inf true) ≡ true → ⊥
unfolding lt
not_above_itself h = true≢false (sym h)

pub above_before : (x s : Float) → lt (inf true) (add binary64 x s) ≡ true → lt (inf true) x ≡ true
unfolding add lt
above_before nan s h = h
above_before (inf true) nan h = h
above_before (inf true) (inf true) h = h
above_before (inf true) (inf false) h = h
above_before (inf true) (fin t m e) h = h
above_before (inf false) s h = refl
above_before (fin t m e) s h = refl

-- ---- what is finite is above it
pub finite_above : (x : Float) → finite x ≡ true → lt (inf true) x ≡ true
unfolding lt
finite_above nan h = h
finite_above (inf s) h = absurd (true≢false (sym h))
finite_above (fin s m e) h = refl
