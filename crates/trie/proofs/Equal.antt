-- Prefixes that are equal, and lists that have a prefix.
-- Assumes nothing.
use Rattle.std.specs.Prelude.{Option, Some, None}
use mathlib.Core.Path.{◌≡◌, refl, ap, ◌∙◌, subst}
use mathlib.Core.Logic.{◌⊎◌, inl, inr}
use mathlib.Core.Bool.{Bool, true, false, cond}
use mathlib.Core.List.{List, [], ◌∷◌}
use Prim.Native.Nat.{ℕ, zero, suc, ◌+◌, ◌≤◌, ◌<◌}
use native.Mathlib.Omega.{arith}
use lib.Dec.{eqb}
use lib.ListN.{length, get_or}
use borrow.Author.Tests.{eq-eqb, eqb-true}
use Rattle.laws.proofs.Choices.{cond_cases}
use Rattle.trie.specs.Prefixes.{back, equal, has, with, joined, Small}

cons : {c d : ℕ} {q r : List ℕ} → c ≡ d → q ≡ r → c ∷ q ≡ d ∷ r
cons e f = cc

pub equal_true : (p q : List ℕ) → equal p q ≡ true → p ≡ q
equal_true [] [] e = refl
equal_true [] (d ∷ r) e = let z : ◌≡◌ {A = ℕ} 0 1 = cc in absurd (omega arith)
equal_true (c ∷ q) [] e = let z : ◌≡◌ {A = ℕ} 0 1 = cc in absurd (omega arith)
equal_true (c ∷ q) (d ∷ r) e = go (eqb c d) refl e (equal_true q r)
  where
    go : (b : Bool) → eqb c d ≡ b → cond b (equal q r) false ≡ true → (equal q r ≡ true → q ≡ r) → c ∷ q ≡ d ∷ r
    go true t x ih = cons (eqb-true c d t) (ih x)
    go false t x ih = let z : ◌≡◌ {A = ℕ} 0 1 = cc in absurd (omega arith)

pub equal_self : (p : List ℕ) → equal p p ≡ true
equal_self [] = refl
equal_self (c ∷ q) = ap (λ b. cond b (equal q q) false) (eq-eqb c c refl) ∙ equal_self q

pub equal_same : {p q : List ℕ} → p ≡ q → equal p q ≡ true
equal_same {p} {q} e = subst (λ (r : List ℕ). equal p r ≡ true) e (equal_self p)

pub has_head : (p : List ℕ) (ps : List (List ℕ)) → has (p ∷ ps) p ≡ true
has_head p ps = ap (λ b. cond b true (has ps p)) (equal_self p)

pub has_tail : (p q : List ℕ) (ps : List (List ℕ)) → has ps q ≡ true → has (p ∷ ps) q ≡ true
has_tail p q ps e = cond_cases (λ (b : Bool). b ≡ true) (equal p q) true (has ps q) (λ _. refl) (λ _. e)

-- a list without a prefix has it neither at its head nor in its tail
pub has_not : (p q : List ℕ) (ps : List (List ℕ)) → has (p ∷ ps) q ≡ false → (equal p q ≡ false) × (has ps q ≡ false)
has_not p q ps e = go (equal p q) refl e
  where
    go : (b : Bool) → equal p q ≡ b → cond b true (has ps q) ≡ false → (equal p q ≡ false) × (has ps q ≡ false)
    go true t x = let z : ◌≡◌ {A = ℕ} 0 1 = cc in absurd (omega arith)
    go false t x = (t, x)

pub split : (b : Bool) → (b ≡ true) ⊎ (b ≡ false)
split true = inl refl
split false = inr refl

pub either : (f : Option ℕ) → ((m : ℕ) × (f ≡ Some m)) ⊎ (f ≡ None)
either (Some m) = inl (m, refl)
either None = inr refl

pub distinct : {f : Option ℕ} {m : ℕ} → f ≡ Some m → f ≡ None → ⊥
distinct e n = let z : ◌≡◌ {A = ℕ} 0 1 = cc in omega arith

pub contrary : {b : Bool} → b ≡ true → b ≡ false → ⊥
contrary e n = let z : ◌≡◌ {A = ℕ} 0 1 = cc in omega arith

-- the characters of a prefix of a word whose characters are small
pub back_small : (w : List ℕ) (k : ℕ) → ((i : ℕ) → i < length w → get_or w i 0 < 4294967295) → k ≤ length w → Small (back w k)
back_small w zero h l = tt
back_small w (suc k) h l = (h k (omega arith), back_small w k h (omega arith))

-- a list with one prefix more has it, and is no shorter
pub with_has : (ps : List (List ℕ)) (q : List ℕ) → has (with ps q) q ≡ true
with_has ps q = cond_cases (λ (l : List (List ℕ)). has l q ≡ true) (has ps q) ps (q ∷ ps) (λ t. t) (λ _. has_head q ps)

with_longer : (ps : List (List ℕ)) (q : List ℕ) → length ps ≤ length (with ps q)
with_longer ps q = cond_cases (λ (l : List (List ℕ)). length ps ≤ length l) (has ps q) ps (q ∷ ps) (λ _. omega arith) (λ _. omega arith)

pub joined_longer : (ps : List (List ℕ)) (w : List ℕ) (k j : ℕ) → length (joined ps w k) ≤ length (joined ps w (j + k))
joined_longer ps w k zero = ap_le (joined ps w) (omega arith)
  where
    ap_le : (f : ℕ → List (List ℕ)) → k ≡ 0 + k → length (f k) ≤ length (f (0 + k))
    ap_le f e = let x : length (f k) ≡ length (f (0 + k)) = ap (λ (i : ℕ). length (f i)) e in omega arith
joined_longer ps w k (suc j) =
    let e : suc j + k ≡ suc (j + k) = omega arith in
    let x = joined_longer ps w k j in
    let y = with_longer (joined ps w (j + k)) (back w (suc (j + k))) in
    let z : length (joined ps w (suc j + k)) ≡ length (joined ps w (suc (j + k))) = ap (λ (i : ℕ). length (joined ps w i)) e in
    omega arith
