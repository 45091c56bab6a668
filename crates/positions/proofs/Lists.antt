-- Parts of lists, and lists by their places. Assumes nothing.
use mathlib.Core.Path.{◌≡◌, refl, sym, ap, ap₂, ◌∙◌}
use mathlib.Core.List.{List, [], ◌∷◌, ◌++◌, append_assoc, append-nil}
use Prim.Native.Nat.{ℕ, zero, suc, ◌+◌, ◌≤◌, ◌<◌, min}
use native.Mathlib.Decide.{dec_lt}
use native.Mathlib.Omega.{arith}
use lib.ListN.{length, take, drop}
use lib.Seq.{take-take, take_all}
use Rattle.spans.specs.Spans.{first}

-- a part that lies within the first n items is a part of those
pub within_take : {A : Type 0} (n p l : ℕ) (xs : List A) → p + l ≤ n → take l (drop p xs) ≡ take l (drop p (take n xs))
within_take n zero l xs h = sym (take-take l n xs (omega arith))
within_take zero (suc p) l xs h = absurd (omega arith)
within_take (suc n) (suc p) l [] h = refl
within_take (suc n) (suc p) l (x ∷ xs) h = within_take n p l xs (omega arith)

-- no more than there are
pub take_min : {A : Type 0} (m : ℕ) (xs : List A) → take (min m (length xs)) xs ≡ take m xs
take_min m xs = elim (dec_lt m (length xs)) [
  | yes h ↦ let e : min m (length xs) ≡ m = omega arith in ap (λ (k : ℕ). take k xs) e
  | no h ↦ take_all (min m (length xs)) xs (omega arith) ∙ sym (take_all m xs (omega arith))
]

-- ---- the first n values of a function
pub first_cons : {A : Type 0} (f : ℕ → A) (n : ℕ) → first f (suc n) ≡ f 0 ∷ first (λ i. f (suc i)) n
first_cons f zero = refl
first_cons {A} f (suc n) = ap (λ (l : List A). l ++ (f (suc n) ∷ [])) (first_cons f n)

pub first_add : {A : Type 0} (f : ℕ → A) (a b : ℕ) → first f (a + b) ≡ first f a ++ first (λ i. f (a + i)) b
first_add {A} f a zero = let e : a + 0 ≡ a = omega arith in ap (first f) e ∙ sym (append-nil (first f a))
first_add {A} f a (suc b) =
    let e : a + suc b ≡ suc (a + b) = omega arith in
    ap (first f) e
    ∙ ap (λ (l : List A). l ++ (f (a + b) ∷ [])) (first_add f a b)
    ∙ append_assoc (first f a) (first (λ i. f (a + i)) b) (f (a + b) ∷ [])

pub first_same : {A : Type 0} (f g : ℕ → A) (n : ℕ) → ((i : ℕ) → i < n → f i ≡ g i) → first f n ≡ first g n
first_same f g zero h = refl
first_same {A} f g (suc n) h = ap₂ (λ (l : List A) (x : A). l ++ (x ∷ [])) (first_same f g n (λ i l. h i (omega arith))) (h n (omega arith))
