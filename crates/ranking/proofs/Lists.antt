-- Items of lists that are joined or mapped, lists in order, and numbers in a row. Assumes nothing.
use mathlib.Core.Path.{◌≡◌, refl, sym, ap, ◌∙◌, subst}
use mathlib.Core.Bool.{Bool, true, false}
use mathlib.Core.List.{List, [], ◌∷◌, ◌++◌, map}
use mathlib.Core.Logic.{◌⊎◌, inl, inr, ⊎_elim}
use Prim.Native.Nat.{ℕ, zero, suc, ◌+◌, ◌≤◌, ◌<◌}
use native.Mathlib.Omega.{arith}
use lib.Dec.{leb}
use lib.ListN.{length, get_or, take}
use borrow.Author.Tests.{leb-true, leb-false}
use Rattle.order.specs.Sort.{Order, ins, sort, In, Sorted}
use Rattle.order.proofs.Laws.{sort_in, sum, sum_sort}
use Rattle.ranking.specs.Counting.{span}

-- ---- two lists one after the other
pub in_join : {A : Type 0} (z : A) (a b : List A) → In z (a ++ b) → In z a ⊎ In z b
in_join z [] b i = inr i
in_join z (x ∷ a) b (inl e) = inl (inl e)
in_join z (x ∷ a) b (inr i) = ⊎_elim (λ j. inl (inr j)) (λ j. inr j) (in_join z a b i)

pub in_left : {A : Type 0} (z : A) (a b : List A) → In z a → In z (a ++ b)
in_left z (x ∷ a) b (inl e) = inl e
in_left z (x ∷ a) b (inr i) = inr (in_left z a b i)
in_left z [] b i = absurd i

pub in_right : {A : Type 0} (z : A) (a b : List A) → In z b → In z (a ++ b)
in_right z [] b i = i
in_right z (x ∷ a) b i = inr (in_right z a b i)

pub sorted_join : {A : Type 0} (R : A → A → Type 0) (a b : List A) → Sorted R a → Sorted R b
    → ((x y : A) → In x a → In y b → R x y) → Sorted R (a ++ b)
sorted_join R [] b s t f = t
sorted_join R (x ∷ a) b s t f = (
  λ y i. ⊎_elim (λ j. s.0 y j) (λ j. f x y (inl refl) j) (in_join y a b i),
  sorted_join R a b s.1 t (λ u v i j. f u v (inr i) j),
)

-- ---- a list mapped
pub of_map : {A B : Type 0} (f : A → B) (y : B) (l : List A) → In y (map f l) → (a : A) × (In a l × (y ≡ f a))
of_map f y (x ∷ l) (inl e) = (x, (inl refl, e))
of_map f y (x ∷ l) (inr i) = let h = of_map f y l i in (h.0, (inr h.1.0, h.1.1))
of_map f y [] i = absurd i

pub to_map : {A B : Type 0} (f : A → B) (a : A) (l : List A) → In a l → In (f a) (map f l)
to_map f a (x ∷ l) (inl e) = inl (ap f e)
to_map f a (x ∷ l) (inr i) = inr (to_map f a l i)
to_map f a [] i = absurd i

pub sorted_map : {A B : Type 0} (R : B → B → Type 0) (f : A → B) (l : List A) → Sorted (λ a b. R (f a) (f b)) l
    → Sorted R (map f l)
sorted_map R f [] s = tt
sorted_map R f (x ∷ l) s =
    (λ y i. let h = of_map f y l i in subst (λ z. R (f x) z) (sym h.1.1) (s.0 h.0 h.1.0), sorted_map R f l s.1)

pub map_sorted : {A B : Type 0} (R : B → B → Type 0) (f : A → B) (l : List A) → Sorted R (map f l)
    → Sorted (λ a b. R (f a) (f b)) l
map_sorted R f [] s = tt
map_sorted R f (x ∷ l) s = (λ y i. s.0 (f y) (to_map f y l i), map_sorted R f l s.1)

-- an order that follows for the items of the list
pub sorted_as : {A : Type 0} (R S : A → A → Type 0) (l : List A) → ((a b : A) → In a l → In b l → R a b → S a b) → Sorted R l
    → Sorted S l
sorted_as R S [] f s = tt
sorted_as R S (x ∷ l) f s =
    (λ y i. f x y (inl refl) (inr i) (s.0 y i), sorted_as R S l (λ a b i j. f a b (inr i) (inr j)) s.1)

pub sorted_any : {A : Type 0} (l : List A) → Sorted (λ a b. Unit {0}) l
sorted_any [] = tt
sorted_any (x ∷ l) = (λ y i. tt, sorted_any l)

pub map_as : {A B : Type 0} (f g : A → B) (l : List A) → ((a : A) → In a l → f a ≡ g a) → map f l ≡ map g l
map_as f g [] h = refl
map_as f g (x ∷ l) h = let e = h x (inl refl) in let d = map_as f g l (λ a i. h a (inr i)) in cc

pub map_map : {A B C : Type 0} (g : B → C) (f : A → B) (l : List A) → map g (map f l) ≡ map (λ a. g (f a)) l
map_map g f [] = refl
map_map g f (x ∷ l) = ap (λ m. g (f x) ∷ m) (map_map g f l)

pub map_join : {A B : Type 0} (f : A → B) (xs ys : List A) → map f (xs ++ ys) ≡ map f xs ++ map f ys
map_join f [] ys = refl
map_join f (x ∷ xs) ys = ap (λ l. f x ∷ l) (map_join f xs ys)

map_take : {A B : Type 0} (f : A → B) (n : ℕ) (xs : List A) → map f (take n xs) ≡ take n (map f xs)
map_take f zero xs = refl
map_take f (suc n) [] = refl
map_take f (suc n) (x ∷ xs) = ap (λ l. f x ∷ l) (map_take f n xs)

pub map_cut : {A B : Type 0} (f : A → B) (n : ℕ) (xs ys : List A) → map f (xs ++ take n ys) ≡ map f xs ++ take n (map f ys)
map_cut f n xs ys = map_join f xs (take n ys) ∙ ap (λ l. map f xs ++ l) (map_take f n ys)

-- ---- numbers in a row
pub in_span : (n m k : ℕ) → In n (span m k) → (m ≤ n) × (n < m + k)
in_span n m (suc k) (inl e) = (omega arith, omega arith)
in_span n m (suc k) (inr i) = let h = in_span n (suc m) k i in (omega arith, omega arith)
in_span n m zero i = absurd i

pub span_in : (n m k : ℕ) → m ≤ n → n < m + k → In n (span m k)
span_in n m zero h g = absurd (omega arith)
span_in n m (suc k) h g = by n m k h g (leb n m) refl (span_in n (suc m) k)
  where
    by : (n m k : ℕ) → m ≤ n → n < m + suc k → (t : Bool) → leb n m ≡ t → (suc m ≤ n → n < suc m + k → In n (span (suc m) k))
        → In n (span m (suc k))
    by n m k h g true e f = inl (let d = leb-true n m e in omega arith)
    by n m k h g false e f = let d = leb-false n m e in inr (f (omega arith) (omega arith))

pub span_length : (m k : ℕ) → length (span m k) ≡ k
span_length m zero = refl
span_length m (suc k) = ap suc (span_length (suc m) k)

pub span_join : (m a b : ℕ) → span m (a + b) ≡ span m a ++ span (m + a) b
span_join m zero b = let e : m + 0 ≡ m = omega arith in let f : 0 + b ≡ b = omega arith in rw (e, f)
span_join m (suc a) b =
    let e : m + suc a ≡ suc m + a = omega arith in
    let f : suc a + b ≡ suc (a + b) = omega arith in
    rw (e, f) (ap (λ (l : List ℕ). m ∷ l) (span_join (suc m) a b))

-- the items of a list by number are the list
pub by_number : {A : Type 0} (l : List A) (d : A) (f : ℕ → A) (m : ℕ) → ((i : ℕ) → i < length l → f (m + i) ≡ get_or l i d)
    → map f (span m (length l)) ≡ l
by_number [] d f m h = refl
by_number (x ∷ l) d f m h =
    let z : m + 0 ≡ m = omega arith in
    let e : f m ≡ x = subst (λ (k : ℕ). f k ≡ x) z (h 0 (omega arith)) in
    let r =
    by_number l d f (suc m)
    (λ i g. let w : m + suc i ≡ suc m + i = omega arith in subst (λ (k : ℕ). f k ≡ get_or l i d) w (h (suc i) (omega arith))) in
    cc

-- ---- two orders that agree on the items of a list sort it alike
ins_as : (by by' : Order) (x : ℕ) (l : List ℕ) → ((y : ℕ) → In y l → by x y ≡ by' x y) → ins by x l ≡ ins by' x l
ins_as by by' x [] f = refl
ins_as by by' x (y ∷ l) f = rw (f y (inl refl), ins_as by by' x l (λ z i. f z (inr i)))

pub sort_as : (by by' : Order) (l : List ℕ) → ((x y : ℕ) → In x l → In y l → by x y ≡ by' x y) → sort by l ≡ sort by' l
sort_as by by' [] f = refl
sort_as by by' (x ∷ l) f =
    ap (ins by x) (sort_as by by' l (λ a b i j. f a b (inr i) (inr j)))
    ∙ ins_as by by' x (sort by' l) (λ y i. f x y (inl refl) (inr (sort_in by' y l i)))

-- ---- a sorted list is as long
ones : (l : List ℕ) → sum (λ x. 1) l ≡ length l
ones [] = refl
ones (x ∷ l) = omega (arith, ones l)

pub sort_length : (by : Order) (l : List ℕ) → length (sort by l) ≡ length l
sort_length by l = sym (ones (sort by l)) ∙ sum_sort (λ x. 1) by l ∙ ones l
