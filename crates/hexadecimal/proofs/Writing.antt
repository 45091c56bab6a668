-- How far the loop of `write` has come.
-- Assumes nothing.
use Prim.Native.Nat.{ℕ, zero, suc, ◌+◌, ◌-◌, ◌/◌, ◌%◌, ◌≤◌, ◌<◌}
use mathlib.Core.Path.{◌≡◌, refl, ◌∙◌, sym, ap}
use mathlib.Core.List.{List, [], ◌∷◌, ◌++◌}
use native.Mathlib.Nat.{add-suc, suc-add, add-zero}
use native.Mathlib.Numerals.{add-one}
use native.Mathlib.Omega.{arith}
use lib.ListN.{length, set, length-set, length-append}
use lib.Seq.{sets, set_comm}
use borrow.Author.Tests.{le-leb}
use Rattle.hexadecimal.specs.Digits.{digit_of, digits_of}
use Rattle.hexadecimal.specs.Frames.{write_at}

pub length_digits : (n x : ℕ) → length (digits_of n x) ≡ n
unfolding digits_of
length_digits zero x = refl
length_digits (suc n) x = length-append (digits_of n (x / 16)) (digit_of (x % 16) ∷ []) ∙ rw (length_digits n (x / 16), add-one n)

-- the last of a run of stores may come first
last_first : (vs l : List ℕ) (i d : ℕ) → sets l i (vs ++ d ∷ []) ≡ sets (set l (i + length vs) d) i vs
last_first [] l i d = rw (add-zero i)
last_first (v ∷ vs) l i d =
    last_first vs (set l i v) (suc i) d
    ∙ ap (λ (m : List ℕ). sets m (suc i) vs)
    (set_comm l i (suc i + length vs) v d (omega arith) ∙ ap (λ (k : ℕ). set (set l k d) i v) (suc-add i (length vs) ∙ sym (add-suc i (length vs))))

-- the last digit first, and then those of the quotient
last_digit : (out : List ℕ) (at k x : ℕ) → sets out at (digits_of (suc k) x) ≡ sets (set out (at + k) (digit_of (x % 16))) at (digits_of k (x / 16))
unfolding digits_of
last_digit out at k x =
    last_first (digits_of k (x / 16)) out at (digit_of (x % 16))
    ∙ ap (λ (j : ℕ). sets (set out (at + j) (digit_of (x % 16))) at (digits_of k (x / 16))) (length_digits k (x / 16))

-- the digits from k on are written, and those of `left` are still to come
pub record Writing (before out : List ℕ) (at n x left k : ℕ) : Type 0 where
  pub upto : k ≤ n
  pub inside : at + n ≤ length before
  pub size : length out ≡ length before
  pub same : sets out at (digits_of k left) ≡ sets before at (digits_of n x)

module _ {before out : List ℕ} {at n x left k : ℕ} (w : Writing before out at n x left k) where
  pub writing_more : 0 < k → (d : ℕ) → d ≡ digit_of (left % 16 % 16) → Writing before (set out (at + (k - 1)) d) at n x (left / 16) (k - 1)
  writing_more h d e =
      let s : k ≡ suc (k - 1) = omega arith in
      let m : left % 16 % 16 ≡ left % 16 = omega arith in
      record {
        upto = omega (arith, w.upto);
        inside = w.inside;
        size = length-set out (at + (k - 1)) d ∙ w.size;
        same =
            ap (λ (v : ℕ). sets (set out (at + (k - 1)) v) at (digits_of (k - 1) (left / 16))) (e ∙ ap digit_of m)
            ∙ sym (last_digit out at (k - 1) left) ∙ ap (λ (j : ℕ). sets out at (digits_of j left)) (sym s) ∙ w.same;
      }

  pub writing_end : k ≤ 0 → out ≡ write_at before at n x
  unfolding write_at digits_of
  writing_end h =
      let z : k ≡ 0 = omega arith in
      let o : out ≡ sets before at (digits_of n x) = ap (λ (j : ℕ). sets out at (digits_of j left)) (sym z) ∙ w.same in
      rw (le-leb (at + n) (length before) w.inside) o
