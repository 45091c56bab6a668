-- The four numbers of a span, and a word behind those before it. Assumes nothing.
use mathlib.Core.Path.{◌≡◌, ap, ◌∙◌}
use mathlib.Core.List.{List, [], ◌∷◌}
use Prim.Native.Nat.{ℕ, suc, ◌+◌}
use native.Mathlib.Omega.{arith}
use lib.ListN.{set}
use lib.Seq.{sets}
use Rattle.builder.specs.declared.Sizes.{Sizes}
use Rattle.builder.specs.Lay.{Parted, Numbers, Word}
use Rattle.builder.proofs.Ends.{rows_few}

pub four_sets : (l : List ℕ) (p a b c d : ℕ) → set (set (set (set l p a) (p + 1) b) (p + 2) c) (p + 3) d ≡ sets l p (a ∷ b ∷ c ∷ d ∷ [])
four_sets l p a b c d =
    let e : p + 1 ≡ suc p = omega arith in
    let f : p + 2 ≡ suc (suc p) = omega arith in
    let g : p + 3 ≡ suc (suc (suc p)) = omega arith in
    ap (λ (i : ℕ). set (set (set (set l p a) i b) (p + 2) c) (p + 3) d) e
    ∙ ap (λ (i : ℕ). set (set (set (set l p a) (suc p) b) i c) (p + 3) d) f
    ∙ ap (λ (i : ℕ). set (set (set (set l p a) (suc p) b) (suc (suc p)) c) i d) g

-- the numbers of word k are small
pub word_numbers : {offs starts ids spans grid : List ℕ} {setting n k : ℕ} {so : Sizes} → Word offs starts ids spans grid setting n k so
    → {offs' starts' ids' : List ℕ} {next : ℕ} → Parted offs starts ids grid setting n so.ends so.edges offs' starts' ids' next → Numbers spans k so.edges next so.ends n
word_numbers {grid = grid} {setting = setting} {n = n} w p =
    let g = w.part.grid_is.few in
    let f = rows_few setting grid (suc n) (omega arith) in
    let c = p.edges.count in
    let e = w.few_edges in
    let d = w.few_ends in
    let k = w.few in
    record { in_spans = w.in_spans; small_from = omega arith; small_to = omega arith; small_at = omega arith; small_n = omega arith }
