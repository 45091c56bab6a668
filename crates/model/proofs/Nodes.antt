-- Fewer pieces have no more prefixes, so that a trie of the survivors has room where one of the pieces had. Assumes nothing.
use mathlib.Core.Path.{◌≡◌, refl, sym, ap, ◌∙◌, subst}
use mathlib.Core.Logic.{inl, inr, ⊎_elim}
use mathlib.Core.Bool.{Bool, true, false, cond}
use mathlib.Core.List.{List, [], ◌∷◌}
use Prim.Native.Nat.{ℕ, zero, suc, ◌≤◌, ◌<◌}
use native.Mathlib.Decide.{dec_lt}
use native.Mathlib.Omega.{arith}
use lib.Dec.{eqb}
use lib.ListN.{length, get_or, get_or-append}
use lib.Seq.{get_or_at}
use Rattle.spans.specs.Spans.{first, many, chars_at, listed}
use Rattle.lattice.specs.Pruning.{gone, survivors}
use Rattle.trie.specs.Prefixes.{back, equal, has, prefixes_of}
use Rattle.trie.specs.Listed.{newest_of, newest, Begins, Once}
use Rattle.trie.proofs.Equal.{equal_true, equal_self, has_tail, split, contrary}
use Rattle.trie.proofs.Theorems.{prefixes_once, prefixes_begin, begins_prefix}
use Rattle.trie.proofs.Same.{length_first}
use Rattle.model.specs.Nodes.{nodes}

-- ---- prefixes that stand once, and all in a second list, are no more than it has
-- a list without the first that is p
abbrev without : List (List ℕ) → List ℕ → List (List ℕ)
without [] p = []
without (q ∷ qs) p = cond (equal q p) qs (q ∷ without qs p)

without_long : (qs : List (List ℕ)) (p : List ℕ) → has qs p ≡ true → suc (length (without qs p)) ≡ length qs
without_long [] p h = absurd (contrary h refl)
without_long (q ∷ qs) p h = go (equal q p) h (without_long qs p)
  where
    go : (b : Bool) → cond b true (has qs p) ≡ true → (has qs p ≡ true → suc (length (without qs p)) ≡ length qs) → suc (length (cond b qs (q ∷ without qs p))) ≡ suc (length qs)
    go true x ih = refl
    go false x ih = ap suc (ih x)

without_has : (qs : List (List ℕ)) (p q : List ℕ) → equal p q ≡ false → has qs q ≡ true → has (without qs p) q ≡ true
without_has [] p q n h = absurd (contrary h refl)
without_has (r ∷ qs) p q n h = go (equal r p) refl (equal r q) refl h (without_has qs p q n)
  where
    go : (b : Bool) → equal r p ≡ b → (c : Bool) → equal r q ≡ c → cond c true (has qs q) ≡ true → (has qs q ≡ true → has (without qs p) q ≡ true) → has (cond b qs (r ∷ without qs p)) q ≡ true
    go true e true f x ih = absurd (contrary (subst (λ (s : List ℕ). equal s q ≡ true) (equal_true r p e) f) n)
    go true e false f x ih = x
    go false e true f x ih = ap (λ (c : Bool). cond c true (has (without qs p) q)) f
    go false e false f x ih = ap (λ (c : Bool). cond c true (has (without qs p) q)) f ∙ ih x

pub no_more : (ps qs : List (List ℕ)) → Once ps → ((q : List ℕ) → has ps q ≡ true → has qs q ≡ true) → length ps ≤ length qs
no_more [] qs once all = omega arith
no_more (p ∷ ps) qs once all =
    let a : suc (length (without qs p)) ≡ length qs = without_long qs p (all p (ap (λ (b : Bool). cond b true (has ps p)) (equal_self p))) in
    let b : length ps ≤ length (without qs p) = no_more ps (without qs p) once.1 (λ q h. without_has qs p q (other q h) (all q (has_tail p q ps h))) in
    omega arith
  where
    other : (q : List ℕ) → has ps q ≡ true → equal p q ≡ false
    other q h = ⊎_elim (λ t. absurd (contrary (subst (λ (s : List ℕ). has ps s ≡ true) (sym (equal_true p q t)) h) once.0)) (λ f. f) (split (equal p q))

-- ---- a prefix of the first n is one of a piece by its position
abbrev BeginsAt : (ℕ → List ℕ) → ℕ → List ℕ → Type 0
BeginsAt f n q = (i : ℕ) × (i < n) × (k : ℕ) × (k < length (f i)) × (back (f i) (suc k) ≡ q)

begins_at : (f : ℕ → List ℕ) (n : ℕ) (q : List ℕ) → Begins (newest_of f n) q → BeginsAt f n q
begins_at f zero q b = absurd b
begins_at f (suc n) q b =
    ⊎_elim
    (λ (k, l, e). (n, omega arith, k, l, e))
    (λ x. let (i, l, k, m, e) = begins_at f n q x in (i, omega arith, k, m, e))
    b

at_begins : (f : ℕ → List ℕ) (n : ℕ) (q : List ℕ) → BeginsAt f n q → Begins (newest_of f n) q
at_begins f zero q (i, l, k, m, e) = omega arith
at_begins f (suc n) q (i, l, k, m, e) = elim (dec_lt i n) [
  | yes h ↦ inr (at_begins f n q (i, h, k, m, e))
  | no h ↦ let z : i ≡ n = omega arith in inl (subst (λ (j : ℕ). (k : ℕ) × (k < length (f j)) × (back (f j) (suc k) ≡ q)) z (k, m, e))
]

-- ---- a survivor is one of the pieces
abbrev Among : List (List ℕ) → List ℕ → Type 0
Among ps p = (j : ℕ) × (j < length ps) × (p ≡ get_or ps j [])

survivor_at : (remap : List ℕ) (ps : List (List ℕ)) (i : ℕ) → i < length (survivors remap ps) → Among ps (get_or (survivors remap ps) i [])
survivor_at [] ps i l = absurd (omega arith)
survivor_at (r ∷ rs) [] i l = absurd (omega arith)
survivor_at (r ∷ rs) (p ∷ ps) i l = go (eqb r gone) i l (survivor_at rs ps)
  where
    later : (q : List ℕ) → Among ps q → Among (p ∷ ps) q
    later q (j, m, e) = (suc j, omega arith, e)

    go : (b : Bool) (i : ℕ) → i < length (cond b (survivors rs ps) (p ∷ survivors rs ps)) → ((i : ℕ) → i < length (survivors rs ps) → Among ps (get_or (survivors rs ps) i []))
        → Among (p ∷ ps) (get_or (cond b (survivors rs ps) (p ∷ survivors rs ps)) i [])
    go true i l ih = later (get_or (survivors rs ps) i []) (ih i l)
    go false zero l ih = (0, omega arith, refl)
    go false (suc i) l ih = later (get_or (survivors rs ps) i []) (ih i (omega arith))

abbrev all : List (List ℕ) → List (List ℕ)
all pieces = newest_of (λ k. get_or pieces k []) (length pieces)

begins_still : (remap : List ℕ) (pieces : List (List ℕ)) (q : List ℕ) → Begins (all (survivors remap pieces)) q → Begins (all pieces) q
begins_still remap pieces q b = go (begins_at (λ k. get_or (survivors remap pieces) k []) (length (survivors remap pieces)) q b)
  where
    go : BeginsAt (λ k. get_or (survivors remap pieces) k []) (length (survivors remap pieces)) q → Begins (all pieces) q
    go (i, l, k, m, e) =
        let (j, n, s) = survivor_at remap pieces i l in
        at_begins (λ k. get_or pieces k []) (length pieces) q
        (j, n, k, subst (λ (p : List ℕ). k < length p) s m, subst (λ (p : List ℕ). back p (suc k) ≡ q) s e)

-- a pruning never asks for more of the trie
pub fewer_nodes : (remap : List ℕ) (pieces : List (List ℕ)) → nodes (survivors remap pieces) ≤ nodes pieces
fewer_nodes remap pieces =
    no_more (prefixes_of (all (survivors remap pieces))) (prefixes_of (all pieces)) (prefixes_once (all (survivors remap pieces)))
    (λ q h. begins_prefix (all pieces) q (begins_still remap pieces q (prefixes_begin (all (survivors remap pieces)) q h)))

-- ---- the pieces of a list as spans
pub first_at : {A : Type 0} (f : ℕ → A) (d : A) (n k : ℕ) → k < n → get_or (first f n) k d ≡ f k
first_at f d zero k l = absurd (omega arith)
first_at f d (suc n) k l = elim (dec_lt k n) [
  | yes h ↦ let e = length_first f n in get_or-append (first f n) (f n ∷ []) d k (omega arith) ∙ first_at f d n k h
  | no h ↦ let e = length_first f n in let z : k ≡ length (first f n) = omega arith in let y : n ≡ k = omega arith in
      ap (λ (j : ℕ). get_or (first f (suc n)) j d) z ∙ get_or_at (first f n) (f n) [] d (length (first f n)) refl ∙ ap f y
]

newest_same : {A : Type 0} (f g : ℕ → A) (n : ℕ) → ((k : ℕ) → k < n → f k ≡ g k) → newest_of f n ≡ newest_of g n
newest_same f g zero h = refl
newest_same f g (suc n) h = let a : f n ≡ g n = h n (omega arith) in let b = newest_same f g n (λ k l. h k (omega arith)) in cc

pub nodes_listed : (text pieces : List ℕ) → nodes (listed text pieces) ≡ length (prefixes_of (newest text pieces))
nodes_listed text pieces =
    ap (λ (n : ℕ). length (prefixes_of (newest_of (λ k. get_or (listed text pieces) k []) n))) (length_first (chars_at text pieces) (many pieces))
    ∙ ap (λ (l : List (List ℕ)). length (prefixes_of l)) (newest_same (λ k. get_or (listed text pieces) k []) (chars_at text pieces) (many pieces) (first_at (chars_at text pieces) [] (many pieces)))
