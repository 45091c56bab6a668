-- Zeros behind a front. Assumes nothing.
use mathlib.Core.Path.{◌≡◌, sym, ap, ◌∙◌}
use mathlib.Core.List.{List, ◌++◌}
use Prim.Native.Nat.{ℕ, ◌-◌, ◌≤◌}
use lib.ListN.{length, drop, replicate}
use lib.Seq.{take-append_seam, drop-append_seam}
use Rattle.lattice.specs.Written.{over}
use Rattle.retain.specs.Cleared.{cleared}
use Rattle.lattice.proofs.Fronts.{over_long}

pub cleared_front : (front l : List ℕ) → length front ≤ length l → cleared (length front) (over front l) ≡ front ++ replicate (length l - length front) 0
cleared_front front l h =
    ap (λ (x : List ℕ). x ++ replicate (length (over front l) - length front) 0) (take-append_seam front (drop (length front) l))
    ∙ ap (λ (n : ℕ). front ++ replicate (n - length front) 0) (over_long front l h)

pub cleared_begins : (front l : List ℕ) → cleared (length front) (over front l) ≡ over front (cleared (length front) (over front l))
cleared_begins front l =
    let zeros : List ℕ = replicate (length (over front l) - length front) 0 in
    let e : cleared (length front) (over front l) ≡ front ++ zeros = ap (λ (x : List ℕ). x ++ zeros) (take-append_seam front (drop (length front) l)) in
    e ∙ ap (λ (x : List ℕ). front ++ x) (sym (ap (drop (length front)) e ∙ drop-append_seam front zeros))
