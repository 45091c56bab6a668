-- A remap made from who lives is one in crate lattice's sense, and leaves as many items as live. Assumes nothing.
use mathlib.Core.Path.{◌≡◌, refl, sym, ap, ◌∙◌}
use mathlib.Core.Bool.{Bool, true, false, cond}
use mathlib.Core.List.{List, [], ◌∷◌}
use Prim.Native.Nat.{ℕ, suc, ◌+◌, ◌*◌, ◌≤◌}
use native.Mathlib.Omega.{arith}
use lib.Dec.{eqb}
use lib.ListN.{length, take, drop}
use lib.Seq.{take_at}
use borrow.Author.Tests.{ne_eqb}
use Rattle.lattice.specs.Pruning.{gone, Remap, no_entry, dropped, kept, survivors}
use Rattle.prune.specs.Prune.{remap_from}
use Rattle.prune.specs.Survive.{living}
use Rattle.prune.specs.Compact.{surviving, compacted, twice}

below : (next n : ℕ) → next + suc n ≤ gone → next ≡ gone → ⊥
below next n h e = omega arith

pub remap_from_lem : (next : ℕ) (l : List Bool) → next + length l ≤ gone → Remap next (remap_from next l)
remap_from_lem next [] h = no_entry
remap_from_lem next (true ∷ l) h = kept (below next (length l) h) (remap_from_lem (suc next) l (omega arith))
remap_from_lem next (false ∷ l) h = dropped (remap_from_lem next l (omega arith))

pub remap_long : (next : ℕ) (l : List Bool) → length (remap_from next l) ≡ length l
remap_long next [] = refl
remap_long next (true ∷ l) = ap suc (remap_long (suc next) l)
remap_long next (false ∷ l) = ap suc (remap_long next l)

pub left_long : {A : Type 0} (next : ℕ) (l : List Bool) (xs : List A) → next + length l ≤ gone → length xs ≡ length l
    → length (surviving (remap_from next l) xs) ≡ living l
left_long next [] xs h e = refl
left_long next (true ∷ l) [] h e = absurd (omega arith)
left_long next (false ∷ l) [] h e = absurd (omega arith)
left_long {A} next (true ∷ l) (x ∷ xs) h e =
    ap (λ (b : Bool). length (cond b (surviving (remap_from (suc next) l) xs) (x ∷ surviving (remap_from (suc next) l) xs)))
    (ne_eqb next gone (below next (length l) h))
    ∙ ap suc (left_long (suc next) l xs (omega arith) (omega arith))
left_long next (false ∷ l) (x ∷ xs) h e = left_long next l xs (omega arith) (omega arith)

-- of two numbers a piece, two as many
pub pairs_left_long : {A : Type 0} (remap pieces : List ℕ) (xs : List A) → 2 * length remap ≤ length pieces → length xs ≡ length remap
    → length (surviving (twice remap) pieces) ≡ 2 * length (surviving remap xs)
pairs_left_long [] pieces xs h e = refl
pairs_left_long (r ∷ rs) [] xs h e = absurd (omega arith)
pairs_left_long (r ∷ rs) (a ∷ []) xs h e = absurd (omega arith)
pairs_left_long (r ∷ rs) (a ∷ b ∷ l) [] h e = absurd (omega arith)
pairs_left_long {A} (r ∷ rs) (a ∷ b ∷ l) (x ∷ xs) h e = go (eqb r gone) (pairs_left_long rs l xs (omega arith) (omega arith))
  where
    go : (t : Bool) → length (surviving (twice rs) l) ≡ 2 * length (surviving rs xs)
        → length (cond t (cond t (surviving (twice rs) l) (b ∷ surviving (twice rs) l))
        (a ∷ cond t (surviving (twice rs) l) (b ∷ surviving (twice rs) l)))
        ≡ 2 * length (cond t (surviving rs xs) (x ∷ surviving rs xs))
    go true i = i
    go false i = omega arith

-- ---- the survivors of a list of pieces
pub surviving_is : (remap : List ℕ) (ps : List (List ℕ)) → surviving remap ps ≡ survivors remap ps
surviving_is [] ps = refl
surviving_is (r ∷ rs) [] = refl
surviving_is (r ∷ rs) (p ∷ ps) = ap (λ (l : List (List ℕ)). cond (eqb r gone) l (p ∷ l)) (surviving_is rs ps)

-- ---- the front of a list that is closed up
pub front : {A : Type 0} (remap : List ℕ) (l : List A) (n : ℕ) → n ≡ length (surviving remap l)
    → take n (compacted remap l) ≡ surviving remap l
front remap l n e = take_at (surviving remap l) (drop (length (surviving remap l)) l) n (sym e)
