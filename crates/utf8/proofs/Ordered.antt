-- The order of code points is the order of their bytes, of one and of a list of them.
-- Assumes nothing.
use Prim.Native.Nat.{ℕ, ◌+◌, ◌/◌, ◌%◌, ◌≤◌, ◌<◌}
use mathlib.Core.Path.{◌≡◌, refl, sym, subst, subst₂}
use mathlib.Core.Logic.{◌⊎◌, inl, inr}
use mathlib.Core.List.{List, [], ◌∷◌, ◌++◌}
use native.Mathlib.Nat.{eq-or-lt_of_le}
use native.Mathlib.Omega.{arith}
use Rattle.utf8.specs.Encode.{encode, spelling}
use Rattle.utf8.specs.Order.{Before, shorter, here, later}
use Rattle.utf8.proofs.Encoded.{split, encode1, encode2, encode3, encode4}

-- Two lists part at a byte, the first with the smaller one. So neither is the other's front, and what follows does not matter.
data Below : List ℕ → List ℕ → Type 0 where
  now : {x y : ℕ} {xs ys : List ℕ} → x < y → Below (x ∷ xs) (y ∷ ys)
  after : {x : ℕ} {xs ys : List ℕ} → Below xs ys → Below (x ∷ xs) (x ∷ ys)

below_before : {xs ys : List ℕ} → Below xs ys → (s t : List ℕ) → Before (xs ++ s) (ys ++ t)
below_before (now h) s t = here h
below_before (after b) s t = later (below_before b s t)

-- a byte that is at most the other decides, or leaves it to what follows
byte : (a b : ℕ) (s t : List ℕ) → a ≤ b → (a ≡ b → Below s t) → Below (a ∷ s) (b ∷ t)
byte a b s t h f = go (eq-or-lt_of_le h)
  where
    go : (a ≡ b) ⊎ (a < b) → Below (a ∷ s) (b ∷ t)
    go (inl e) = subst (λ (x : ℕ). Below (a ∷ s) (x ∷ t)) e (after (f e))
    go (inr l) = now l

-- Two code points of one row of the table: the most significant bits first.
quotient : (c d : ℕ) → 0xF0 + c / 262144 ≡ 0xF0 + d / 262144 → 0x80 + c / 4096 % 64 ≡ 0x80 + d / 4096 % 64 → c / 4096 ≡ d / 4096
quotient c d e f = omega arith

module _ (c d : ℕ) (h : c < d) where
  same2 : Below ((0xC0 + c / 64) ∷ (0x80 + c % 64) ∷ []) ((0xC0 + d / 64) ∷ (0x80 + d % 64) ∷ [])
  same2 = byte _ _ _ _ (omega arith) (λ e. now (omega arith))

  tails : c / 4096 ≡ d / 4096 → Below ((0x80 + c / 64 % 64) ∷ (0x80 + c % 64) ∷ []) ((0x80 + d / 64 % 64) ∷ (0x80 + d % 64) ∷ [])
  tails e = byte _ _ _ _ (omega arith) (λ f. now (omega arith))

  same3 : Below ((0xE0 + c / 4096) ∷ (0x80 + c / 64 % 64) ∷ (0x80 + c % 64) ∷ []) ((0xE0 + d / 4096) ∷ (0x80 + d / 64 % 64) ∷ (0x80 + d % 64) ∷ [])
  same3 = byte _ _ _ _ (omega arith) (λ e. tails (omega arith))

  same4 : Below ((0xF0 + c / 262144) ∷ (0x80 + c / 4096 % 64) ∷ (0x80 + c / 64 % 64) ∷ (0x80 + c % 64) ∷ []) ((0xF0 + d / 262144) ∷ (0x80 + d / 4096 % 64) ∷ (0x80 + d / 64 % 64) ∷ (0x80 + d % 64) ∷ [])
  same4 = byte _ _ _ _ (omega arith) (λ e. byte _ _ _ _ (omega arith) (λ f. tails (quotient c d e f)))

-- a smaller first byte decides
lead : (a b : ℕ) (s t : List ℕ) → a < b → Below (a ∷ s) (b ∷ t)
lead a b s t h = now h

-- The row of the first, and of the second from there on. Where the rows differ, the first byte decides.
from1 : (c d : ℕ) → c < d → c ≤ 0x7F → Below (encode c) (encode d)
from1 c d h r =
    subst (λ (s : List ℕ). Below s (encode d)) (sym (encode1 c r))
    (split d 0x7F (λ l. rw (encode1 d l) (now h))
    (λ g. split d 0x7FF (λ l. rw (encode2 d g l) (lead _ _ _ _ (omega arith)))
    (λ g. split d 0xFFFF (λ l. rw (encode3 d g l) (lead _ _ _ _ (omega arith))) (λ g. rw (encode4 d g) (lead _ _ _ _ (omega arith))))))

from2 : (c d : ℕ) → c < d → 0x7F < c → c ≤ 0x7FF → Below (encode c) (encode d)
from2 c d h q r =
    subst (λ (s : List ℕ). Below s (encode d)) (sym (encode2 c q r))
    (split d 0x7FF (λ l. rw (encode2 d (omega arith) l) (same2 c d h))
    (λ g. split d 0xFFFF (λ l. rw (encode3 d g l) (lead _ _ _ _ (omega arith))) (λ g. rw (encode4 d g) (lead _ _ _ _ (omega arith)))))

from3 : (c d : ℕ) → c < d → 0x7FF < c → c ≤ 0xFFFF → Below (encode c) (encode d)
from3 c d h q r =
    subst (λ (s : List ℕ). Below s (encode d)) (sym (encode3 c q r))
    (split d 0xFFFF (λ l. rw (encode3 d (omega arith) l) (same3 c d h)) (λ g. rw (encode4 d g) (lead _ _ _ _ (omega arith))))

from4 : (c d : ℕ) → c < d → 0xFFFF < c → Below (encode c) (encode d)
from4 c d h q = subst (λ (s : List ℕ). Below s (encode d)) (sym (encode4 c q)) (rw (encode4 d (omega arith)) (same4 c d h))

parts : (c d : ℕ) → c < d → Below (encode c) (encode d)
parts c d h =
    split c 0x7F (λ l. from1 c d h l)
    (λ g. split c 0x7FF (λ l. from2 c d h g l) (λ g. split c 0xFFFF (λ l. from3 c d h g l) (λ g. from4 c d h g)))

-- a smaller code point's bytes come first, whatever follows either
pub ahead : (c d : ℕ) → c < d → (s t : List ℕ) → Before (encode c ++ s) (encode d ++ t)
ahead c d h s t = below_before (parts c d h) s t

-- what the order says of two lists, by how they begin
abbrev Begun : List ℕ → List ℕ → Type 0
Begun xs [] = ⊥
Begun [] (y ∷ ys) = Unit
Begun (x ∷ xs) (y ∷ ys) = (x < y) ⊎ ((x ≡ y) × Before xs ys)

begun : {xs ys : List ℕ} → Before xs ys → Begun xs ys
begun shorter = tt
begun (here h) = inl h
begun (later b) = inr (refl, b)

apart : (xs ys : List ℕ) → Before xs ys → Before ys xs → ⊥
apart xs [] b d = begun b
apart [] (y ∷ ys) b d = begun d
apart (x ∷ xs) (y ∷ ys) b d = go (begun b) (begun d) (λ (e : Before xs ys) (f : Before ys xs). apart xs ys e f)
  where
    go : (x < y) ⊎ ((x ≡ y) × Before xs ys) → (y < x) ⊎ ((y ≡ x) × Before ys xs) → (Before xs ys → Before ys xs → ⊥) → ⊥
    go (inl h) (inl k) f = omega arith
    go (inl h) (inr (k, e)) f = omega (arith, k)
    go (inr (h, e)) (inl k) f = omega (arith, h)
    go (inr (h, e)) (inr (k, d)) f = f e d

-- the order is strict
pub not_both : {xs ys : List ℕ} → Before xs ys → Before ys xs → ⊥
not_both {xs} {ys} h k = apart xs ys h k

pub not_itself : {xs ys : List ℕ} → Before xs ys → xs ≡ ys → ⊥
not_itself {xs} {ys} b e = not_both b (subst₂ Before e (sym e) b)

-- and total
pub which : (xs ys : List ℕ) → Before xs ys ⊎ ((xs ≡ ys) ⊎ Before ys xs)
which [] [] = inr (inl refl)
which [] (y ∷ ys) = inl shorter
which (x ∷ xs) [] = inr (inr shorter)
which (x ∷ xs) (y ∷ ys) = split x y (λ l. go (eq-or-lt_of_le l) (which xs ys)) (λ l. inr (inr (here l)))
  where
    go : (x ≡ y) ⊎ (x < y) → Before xs ys ⊎ ((xs ≡ ys) ⊎ Before ys xs) → Before (x ∷ xs) (y ∷ ys) ⊎ ((x ∷ xs ≡ y ∷ ys) ⊎ Before (y ∷ ys) (x ∷ xs))
    go (inr l) r = inl (here l)
    go (inl e) (inl b) = inl (subst (λ (z : ℕ). Before (x ∷ xs) (z ∷ ys)) e (later b))
    go (inl e) (inr (inl p)) = inr (inl (cc))
    go (inl e) (inr (inr b)) = inr (inr (subst (λ (z : ℕ). Before (z ∷ ys) (x ∷ xs)) e (later b)))

-- one front for both
behind : (p : List ℕ) {s t : List ℕ} → Before s t → Before (p ++ s) (p ++ t)
behind [] b = b
behind (x ∷ p) b = later (behind p b)

-- an encoding has a byte
first_byte : (c : ℕ) (s : List ℕ) → Before [] (encode c ++ s)
first_byte c s =
    split c 0x7F (λ l. rw (encode1 c l) shorter)
    (λ g. split c 0x7FF (λ l. rw (encode2 c g l) shorter)
    (λ g. split c 0xFFFF (λ l. rw (encode3 c g l) shorter) (λ g. rw (encode4 c g) shorter)))

-- lists of code points, and their bytes
pub spelt_before : {cs ds : List ℕ} → Before cs ds → Before (spelling cs) (spelling ds)
unfolding spelling
spelt_before (shorter {y} {ys}) = first_byte y (spelling ys)
spelt_before (here {x} {y} {xs} {ys} h) = ahead x y h (spelling xs) (spelling ys)
spelt_before (later {x} {xs} {ys} b) = behind (encode x) (spelt_before b)
