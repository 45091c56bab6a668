-- The loop that marks the survivors, and what it leaves: an entry is marked exactly where its id is one of them.
-- Assumes nothing.
use mathlib.Core.Path.{◌≡◌, refl, sym, ap, ◌∙◌, subst}
use mathlib.Core.Bool.{Bool, true, false, cond, ◌||◌}
use mathlib.Core.List.{List, [], ◌∷◌, ◌++◌, map}
use Prim.Native.Nat.{ℕ, zero, suc, ◌+◌, ◌<◌}
use native.Mathlib.Numerals.{add-one}
use native.Mathlib.Omega.{arith}
use lib.Dec.{eqb}
use lib.ListN.{length, get_or, set, take, replicate, length-set, length-map, length-replicate, get_or-replicate}
use lib.Seq.{take-suc, get_or-set_same, get_or-set_other, ext_get_or}
use borrow.Author.Tests.{eqb-true, eqb-false}
use Rattle.lattice.specs.Pruning.{gone}
use Rattle.prune.specs.Prune.{ids, among}
use Rattle.prune.specs.Steps.{alive, marked}
use Rattle.prune.proofs.Ranks.{ids_long}

pub marked_long : (is remap : List ℕ) → length (marked is remap) ≡ length remap
marked_long [] remap = refl
marked_long (i ∷ is) remap = marked_long is (set remap i 0) ∙ length-set remap i 0

-- ---- the loop
pub marked_last : (is : List ℕ) (i : ℕ) (remap : List ℕ) → marked (is ++ (i ∷ [])) remap ≡ set (marked is remap) i 0
marked_last [] i remap = refl
marked_last (j ∷ is) i remap = marked_last is i (set remap j 0)

-- the first k of the survivors are marked
pub marked_more : (is remap : List ℕ) {now : List ℕ} (k : ℕ) → k < length is → now ≡ marked (take k is) remap
    → set now (get_or is k 0) 0 ≡ marked (take (k + 1) is) remap
marked_more is remap k h e =
    ap (λ (x : List ℕ). set x (get_or is k 0) 0) e
    ∙ sym (marked_last (take k is) (get_or is k 0) remap)
    ∙ ap (λ (x : List ℕ). marked x remap) (sym (take-suc is k 0 h))
    ∙ ap (λ (n : ℕ). marked (take n is) remap) (sym (add-one k))

-- ---- what an entry holds
abbrev here : Bool → ℕ → ℕ
here b v = cond b 0 v

here_or : (a b : Bool) (v : ℕ) → here b (here a v) ≡ here (a || b) v
here_or true true v = refl
here_or true false v = refl
here_or false b v = refl

entry : (is remap : List ℕ) (k : ℕ) → k < length remap → get_or (marked is remap) k 0 ≡ here (among is k) (get_or remap k 0)
entry [] remap k h = refl
entry (i ∷ is) remap k h =
    entry is (set remap i 0) k (omega (arith, length-set remap i 0))
    ∙ ap (here (among is k)) (one (eqb i k) refl)
    ∙ here_or (eqb i k) (among is k) (get_or remap k 0)
  where
    one : (b : Bool) → eqb i k ≡ b → get_or (set remap i 0) k 0 ≡ here b (get_or remap k 0)
    one true e =
        let s = eqb-true i k e in
        subst (λ (j : ℕ). get_or (set remap j 0) k 0 ≡ 0) (sym s) (get_or-set_same remap k 0 0 h)
    one false e = get_or-set_other remap i k 0 0 (λ s. eqb-false i k e (sym s))

alive_here : (b : Bool) → alive (here b gone) ≡ b
alive_here true = refl
alive_here false = refl

pub ids_at : (from n k : ℕ) → k < n → get_or (ids from n) k 0 ≡ from + k
ids_at from zero k h = absurd (nothing k h)
  where
    nothing : (k : ℕ) → k < 0 → ⊥
    nothing k h = omega arith
ids_at from (suc n) zero h = omega arith
ids_at from (suc n) (suc k) h = let e : suc from + k ≡ from + suc k = omega arith in ids_at (suc from) n k (omega arith) ∙ e

-- a value of a function at a slot
pub map_at : {A : Type 0} (f : ℕ → A) (l : List ℕ) (k : ℕ) (d : A) → k < length l → get_or (map f l) k d ≡ f (get_or l k 0)
map_at f [] k d h = absurd (nothing k h)
  where
    nothing : (k : ℕ) → k < 0 → ⊥
    nothing k h = omega arith
map_at f (x ∷ l) zero d h = refl
map_at f (x ∷ l) (suc k) d h = map_at f l k d (omega arith)

-- of all pieces, those marked live
pub marked_live : (is : List ℕ) (n : ℕ) → map alive (marked is (replicate n gone)) ≡ map (among is) (ids 0 n)
marked_live is n = ext_get_or false (map alive m) (map (among is) (ids 0 n)) (long ∙ sym long') same
  where
    m : List ℕ
    m = marked is (replicate n gone)

    m_long : length m ≡ n
    m_long = marked_long is (replicate n gone) ∙ length-replicate n gone

    long : length (map alive m) ≡ n
    long = length-map m alive ∙ m_long

    long' : length (map (among is) (ids 0 n)) ≡ n
    long' = length-map (ids 0 n) (among is) ∙ ids_long 0 n

    same : (k : ℕ) → k < length (map alive m) → get_or (map alive m) k false ≡ get_or (map (among is) (ids 0 n)) k false
    same k h =
        let g : k < n = omega (arith, long) in
        let z : k ≡ 0 + k = omega arith in
        map_at alive m k false (omega (arith, m_long))
        ∙ ap alive (entry is (replicate n gone) k (omega (arith, length-replicate n gone))
        ∙ ap (here (among is k)) (get_or-replicate n k gone 0 g))
        ∙ alive_here (among is k)
        ∙ ap (among is) (z ∙ sym (ids_at 0 n k g))
        ∙ sym (map_at (among is) (ids 0 n) k false (omega (arith, ids_long 0 n)))
