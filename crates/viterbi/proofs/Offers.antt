-- What one edge offers: nothing, where it is of the excluded piece. Assumes nothing.
use mathlib.Core.Path.{◌≡◌, refl, sym, ap, ◌∙◌}
use mathlib.Core.Bool.{Bool, true, false}
use mathlib.Core.List.{List}
use Prim.Native.Nat.{ℕ, ◌<◌}
use native.Mathlib.Nat.{le_refl}
use lib.ListN.{length, get_or}
use lib.Seq.{set_out, get_or-set_same, get_or-set_other}
use lib.Ieee.{Float, nan, inf, fin, binary64, add, lt}
use Rattle.scores.specs.Table.{Pick, offered, taken, step}
use Rattle.scores.specs.Floats.{f64s}
use Rattle.viterbi.specs.Slices.{edges_of, without}

-- ---- minus infinity is above no sum
above_none : (t : Float) → lt t nan ≡ false
unfolding lt
above_none nan = refl
above_none (inf s) = refl
above_none (fin s m e) = refl

above_least : (t : Float) → lt t (inf true) ≡ false
unfolding lt
above_least nan = refl
above_least (inf true) = refl
above_least (inf false) = refl
above_least (fin s m e) = refl

no_more : (x t : Float) → lt t (add binary64 x (inf true)) ≡ false
unfolding add
no_more nan t = above_none t
no_more (inf true) t = above_least t
no_more (inf false) t = above_none t
no_more (fin s m e) t = above_least t

-- ---- the excluded piece's score is minus infinity, the others stay, and an id that no piece has takes none away
module _ (scores : List Float) where
  pub excluded_score : (excluded id : ℕ) → id < length scores → id ≡ excluded → get_or (without excluded scores) id nan ≡ inf true
  excluded_score excluded id h e = ap (λ (i : ℕ). get_or (without i scores) id nan) (sym e) ∙ get_or-set_same scores id (inf true) nan h

  pub other_stays : (excluded id : ℕ) → (id ≡ excluded → ⊥) → get_or (without excluded scores) id nan ≡ get_or scores id nan
  other_stays excluded id d = get_or-set_other scores excluded id (inf true) nan d

  pub without_none : without (length scores) scores ≡ scores
  without_none = set_out scores (length scores) (inf true) (le_refl (length scores))

-- ---- an edge of the excluded piece leaves the pick as it is
pub offers_nothing : (starts ids : List ℕ) (scores table : List Float) (excluded : ℕ) (pick : Pick Float) (k : ℕ) → get_or ids k 0 < length scores → get_or ids k 0 ≡ excluded
    → pick ≡ step f64s (edges_of starts ids (without excluded scores)) table pick k
offers_nothing starts ids scores table excluded pick k h e =
    let edges = edges_of starts ids (without excluded scores) in
    let here = get_or table (get_or starts k 0) nan in
    let none : lt pick.top (offered f64s edges table k) ≡ false = ap (λ (s : Float). lt pick.top (add binary64 here s)) (excluded_score scores excluded (get_or ids k 0) h e) ∙ no_more here pick.top in
    sym (ap (λ (b : Bool). taken f64s edges b pick (offered f64s edges table k) k) none)
