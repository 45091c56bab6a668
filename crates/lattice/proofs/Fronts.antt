-- Lists whose front is written over, a part more at each turn of a loop. Assumes nothing.
use mathlib.Core.Path.{◌≡◌, refl, sym, ap, ◌∙◌}
use mathlib.Core.List.{List, [], ◌∷◌, ◌++◌, append_assoc}
use Prim.Native.Nat.{ℕ, suc, ◌+◌, ◌-◌, ◌≤◌}
use native.Mathlib.Omega.{arith}
use lib.ListN.{length, get_or, take, drop, set, length-append, length-drop}
use lib.Seq.{sets, sets-eq, take-append_seam, drop-append_seam, drop-append-add, drop-drop, get_or-drop}
use Rattle.lattice.specs.Written.{over}

-- ---- what a list begins with
pub begin_long : (front l : List ℕ) → l ≡ over front l → length front ≤ length l
begin_long front l e = let a = ap length e in let b = length-append front (drop (length front) l) in omega arith

-- a list that begins with a, and then b
pub then : {l : List ℕ} (a b : List ℕ) → l ≡ over (a ++ b) l → drop (length a) l ≡ b ++ drop (length (a ++ b)) l
then {l} a b e =
    ap (drop (length a)) (e ∙ append_assoc a b (drop (length (a ++ b)) l))
    ∙ drop-append_seam a (b ++ drop (length (a ++ b)) l)

-- what is written over the front of a list is what it begins with then
pub begins : (front l : List ℕ) → over front l ≡ over front (over front l)
begins front l = ap (λ (x : List ℕ). front ++ x) (sym (drop-append_seam front (drop (length front) l)))

-- ---- what stands behind the front is as it was
pub over_long : (front l : List ℕ) → length front ≤ length l → length (over front l) ≡ length l
over_long front l h = let a = length-append front (drop (length front) l) in let b = length-drop (length front) l in omega arith

pub behind : (front l : List ℕ) (n : ℕ) → length front ≤ n → drop n (over front l) ≡ drop n l
behind front l n h =
    let e : length front + (n - length front) ≡ n = omega arith in
    ap (λ (k : ℕ). drop k (over front l)) (sym e)
    ∙ drop-append-add front (drop (length front) l) (n - length front)
    ∙ drop-drop (n - length front) (length front) l
    ∙ ap (λ (k : ℕ). drop k l) e

-- equal from n on, so equal at n + k
pub at_behind : (l l' : List ℕ) (n k : ℕ) → drop n l' ≡ drop n l → get_or l' (n + k) 0 ≡ get_or l (n + k) 0
at_behind l l' n k e = sym (get_or-drop n l' k 0) ∙ ap (λ (x : List ℕ). get_or x k 0) e ∙ get_or-drop n l k 0

-- ---- stores, one run after the other
pub sets_append : {A : Type 0} (l : List A) (i : ℕ) (xs ys : List A) → sets l i (xs ++ ys) ≡ sets (sets l i xs) (i + length xs) ys
sets_append l i [] ys = let e : i ≡ i + 0 = omega arith in ap (λ (k : ℕ). sets l k ys) e
sets_append l i (x ∷ xs) ys = let e : suc i + length xs ≡ i + suc (length xs) = omega arith in sets_append (set l i x) (suc i) xs ys ∙ ap (λ (k : ℕ). sets (sets (set l i x) (suc i) xs) k ys) e

-- ---- one part more
-- by stores
pub stored : (front values l : List ℕ) → length front + length values ≤ length l → sets (over front l) (length front) values ≡ over (front ++ values) l
stored front values l h =
    sets-eq values (over front l) (length front) (let a = over_long front l (omega arith) in omega arith)
    ∙ ap (λ (x : List ℕ). (x ++ values) ++ drop (length front + length values) (over front l)) (take-append_seam front (drop (length front) l))
    ∙ ap (λ (x : List ℕ). (front ++ values) ++ x) (behind front l (length front + length values) (omega arith))
    ∙ ap (λ (n : ℕ). (front ++ values) ++ drop n l) (sym (length-append front values))

-- by a part put in place
pub placed : (front part l : List ℕ) (n : ℕ) → n ≡ length (front ++ part) → take (length front) (over front l) ++ (part ++ drop n (over front l)) ≡ over (front ++ part) l
placed front part l n e =
    let a = length-append front part in
    ap (λ (x : List ℕ). x ++ (part ++ drop n (over front l))) (take-append_seam front (drop (length front) l))
    ∙ ap (λ (x : List ℕ). front ++ (part ++ x)) (behind front l n (omega arith))
    ∙ sym (append_assoc front part (drop n l))
    ∙ ap (λ (k : ℕ). (front ++ part) ++ drop k l) e

-- by two stores, where four numbers stand
set_two : (front : List ℕ) (a b x y : ℕ) (r : List ℕ) → set (set (front ++ a ∷ b ∷ r) (length front) x) (length front + 1) y ≡ front ++ x ∷ y ∷ r
set_two [] a b x y r = refl
set_two (c ∷ front) a b x y r =
    let e : suc (length front) + 1 ≡ suc (length front + 1) = omega arith in
    ap (λ (n : ℕ). set (c ∷ set (front ++ a ∷ b ∷ r) (length front) x) n y) e ∙ ap (λ (l : List ℕ). c ∷ l) (set_two front a b x y r)

pub renewed_span : (front l : List ℕ) (a b c d x y : ℕ) {r : List ℕ} → drop (length front) l ≡ a ∷ b ∷ c ∷ d ∷ r
    → set (set (over front l) (length front) x) (length front + 1) y ≡ over (front ++ x ∷ y ∷ c ∷ d ∷ []) l
renewed_span front l a b c d x y {r} e =
    let four = x ∷ y ∷ c ∷ d ∷ [] in
    let n : length (front ++ four) ≡ length front + 4 = length-append front four in
    ap (λ (z : List ℕ). set (set (front ++ z) (length front) x) (length front + 1) y) e
    ∙ set_two front a b x y (c ∷ d ∷ r)
    ∙ sym (append_assoc front four r)
    ∙ ap (λ (z : List ℕ). (front ++ four) ++ z) (sym (ap (drop 4) e) ∙ drop-drop 4 (length front) l ∙ ap (λ (k : ℕ). drop k l) (sym n))
