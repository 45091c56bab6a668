-- What was written is read back, and what is read has no other spelling.
-- Assumes nothing.
use Prim.Native.Nat.{ℕ, zero, suc, ◌+◌, ◌*◌, ◌/◌, ◌%◌, ◌^◌, ◌≤◌, ◌<◌}
use mathlib.Core.Path.{◌≡◌, refl, ◌∙◌, sym, ap, subst}
use mathlib.Core.Bool.{Bool, true, false, cond}
use mathlib.Core.List.{List, [], ◌∷◌, ◌++◌, append_assoc, append-nil}
use native.Mathlib.Nat.{pow-suc, mul_assoc, div-lt_iff_lt-mul}
use native.Mathlib.Omega.{arith}
use lib.Dec.{lit<, leb}
use lib.ListN.{length, take, drop, get_or, length-drop}
use lib.Seq.{sets, sets-eq, length-sets, take_at, drop_at, length-take-le, take-suc, take_all}
use borrow.Author.Tests.{le-leb, leb-true}
use Rattle.std.specs.Prelude.{Option, Some, None}
use Rattle.hexadecimal.specs.Digits.{digit_of, value_of, digits_of, then, numeral}
use Rattle.hexadecimal.specs.Frames.{read_at, write_at}
use Rattle.hexadecimal.proofs.Valued.{value_digit, digit_below, digit_made}
use Rattle.hexadecimal.proofs.Writing.{length_digits}

-- one digit more
digit_read : (v w : ℕ) (s : List ℕ) → v < 16 → numeral (digit_of v ∷ s) w ≡ numeral s (w * 16 + v)
unfolding numeral then
digit_read v w s h = rw (value_digit v h)

-- the digits of a number, after those that made v and before s
digits_read : (n x v : ℕ) (s : List ℕ) → x < 16 ^ n → numeral (digits_of n x ++ s) v ≡ numeral s (v * 16 ^ n + x)
unfolding digits_of
digits_read zero x v s h = ap (numeral s) (omega arith)
digits_read (suc n) x v s h =
    let p : 16 ^ suc n ≡ 16 ^ n * 16 = pow-suc 16 n in
    let q : x / 16 < 16 ^ n = (div-lt_iff_lt-mul (lit< tt)).1 (subst (λ (k : ℕ). x < k) p h) in
    let m : v * 16 ^ suc n ≡ v * 16 ^ n * 16 = ap (λ (k : ℕ). v * k) p ∙ sym (mul_assoc v (16 ^ n) 16) in
    ap (λ (l : List ℕ). numeral l v) (append_assoc (digits_of n (x / 16)) (digit_of (x % 16) ∷ []) s)
    ∙ digits_read n (x / 16) v (digit_of (x % 16) ∷ s) q
    ∙ digit_read (x % 16) (v * 16 ^ n + x / 16) s (omega arith)
    ∙ ap (numeral s) (omega arith)

-- what stands where a run was stored is the run
run : (out vs : List ℕ) (at n : ℕ) → length vs ≡ n → at + n ≤ length out → take n (drop at (sets out at vs)) ≡ vs
run out vs at n e h =
    let l : at + length vs ≤ length out = omega arith in
    let f : length (take at out) ≡ at = length-take-le at out (omega arith) in
    ap (λ (s : List ℕ). take n (drop at s)) (sets-eq vs out at l ∙ append_assoc (take at out) vs (drop (at + length vs) out))
    ∙ ap (take n) (drop_at (take at out) (vs ++ drop (at + length vs) out) at f)
    ∙ take_at vs (drop (at + length vs) out) n e

-- Where there is room for n digits, 16 at the most, a number that n digits hold is read as it was written.
pub read_written : (out : List ℕ) (at n x : ℕ) → at + n ≤ length out → n ≤ 16 → x < 16 ^ n → read_at (write_at out at n x) at n ≡ Some x
unfolding read_at write_at numeral
read_written out at n x h g l =
    let w : at + n ≤ length (sets out at (digits_of n x)) = rw (length-sets out at (digits_of n x)) h in
    rw (
      le-leb (at + n) (length out) h,
      le-leb n 16 g,
      le-leb (at + n) (length (sets out at (digits_of n x))) w,
      run out (digits_of n x) at n (length_digits n x) h,
    )
    (ap (λ (s : List ℕ). numeral s 0) (sym (append-nil (digits_of n x))) ∙ digits_read n x 0 [] l ∙ ap Some (omega arith))

-- the last digit of a number that was read
module _ (b x : ℕ) where
  abbrev Last : List ℕ → ℕ → Type 0
  Last s v = (y : ℕ) × (d : ℕ) × (numeral s v ≡ Some y) × (value_of b ≡ Some d) × (x ≡ y * 16 + d)

  last : (s : List ℕ) (v : ℕ) → numeral (s ++ b ∷ []) v ≡ Some x → Last s v
  unfolding numeral then
  last [] v e = go (value_of b) refl e
    where
      go : (k : Option ℕ) → value_of b ≡ k → then k v (λ w. Some w) ≡ Some x → Last [] v
      go (Some d) p q = (v, d, refl, p, cc)
      go None p q = let z : ◌≡◌ {A = ℕ} 0 1 = cc in absurd (omega arith)
  last (a ∷ s) v e = go (value_of a) refl e (λ w. last s w)
    where
      go : (k : Option ℕ) → value_of a ≡ k → then k v (λ w. numeral (s ++ b ∷ []) w) ≡ Some x
          → ((w : ℕ) → numeral (s ++ b ∷ []) w ≡ Some x → Last s w) → Last (a ∷ s) v
      go (Some d) p q ih = let (y, c, f, g, h) = ih (v * 16 + d) q in (y, c, rw p f, g, h)
      go None p q ih = let z : ◌≡◌ {A = ℕ} 0 1 = cc in absurd (omega arith)

snoc : {s t : List ℕ} {a b : ℕ} → s ≡ t → a ≡ b → s ++ a ∷ [] ≡ t ++ b ∷ []
snoc p q = cc

-- n bytes that are a number are its n digits
spelt : (n : ℕ) (s : List ℕ) (x : ℕ) → length s ≡ n → numeral s 0 ≡ Some x → s ≡ digits_of n x
unfolding digits_of
spelt zero [] x l e = refl
spelt zero (b ∷ s) x l e = absurd (omega arith)
spelt (suc n) s x l e =
    let f : take n s ++ get_or s n 0 ∷ [] ≡ s = sym (take-suc s n 0 (omega arith)) ∙ take_all (suc n) s (omega arith) in
    let (y, d, p, q, r) = last (get_or s n 0) x (take n s) 0 (ap (λ (t : List ℕ). numeral t 0) f ∙ e) in
    let k : d < 16 = digit_below (get_or s n 0) q in
    let u : x / 16 ≡ y = omega arith in
    let w : x % 16 ≡ d = omega arith in
    let t : take n s ≡ digits_of n y = spelt n (take n s) y (length-take-le n s (omega arith)) p in
    sym f ∙ snoc (t ∙ ap (digits_of n) (sym u)) (digit_made (get_or s n 0) q ∙ ap digit_of (sym w))

-- The bytes that are read as a number are the ones that `write` would write.
pub one_spelling : (text : List ℕ) (at n x : ℕ) → read_at text at n ≡ Some x → take n (drop at text) ≡ digits_of n x
unfolding read_at
one_spelling text at n x e = few (leb n 16) e
  where
    inside : (b : Bool) → leb (at + n) (length text) ≡ b → cond b (numeral (take n (drop at text)) 0) None ≡ Some x → take n (drop at text) ≡ digits_of n x
    inside true t p =
        let h : at + n ≤ length text = leb-true (at + n) (length text) t in
        spelt n (take n (drop at text)) x (length-take-le n (drop at text) (simp length-drop (omega arith))) p
    inside false t p = let z : ◌≡◌ {A = ℕ} 0 1 = cc in absurd (omega arith)

    few : (b : Bool) → cond b (cond (leb (at + n) (length text)) (numeral (take n (drop at text)) 0) None) None ≡ Some x → take n (drop at text) ≡ digits_of n x
    few true p = inside (leb (at + n) (length text)) refl p
    few false p = let z : ◌≡◌ {A = ℕ} 0 1 = cc in absurd (omega arith)
