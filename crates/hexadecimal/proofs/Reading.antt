-- How far the loop of `read` has come, among the bytes of its number.
-- Assumes nothing.
use Prim.Native.Nat.{ℕ, suc, ◌+◌, ◌-◌, ◌*◌, ◌^◌, ◌≤◌, ◌<◌}
use mathlib.Core.Path.{◌≡◌, ◌∙◌, sym, ap, subst}
use mathlib.Core.List.{List, ◌∷◌}
use native.Mathlib.Nat.{pow-suc, pow-le-pow_right}
use native.Mathlib.Omega.{arith}
use lib.Dec.{lit<}
use lib.ListN.{length, take, drop, get_or}
use lib.Seq.{drop-cons}
use borrow.Author.Tests.{le-leb}
use Rattle.std.specs.Prelude.{Some, None}
use Rattle.hexadecimal.specs.Digits.{value_of, then, numeral}
use Rattle.hexadecimal.specs.Frames.{read_at}
use Rattle.hexadecimal.proofs.Valued.{digit_below}

-- the first k bytes of the number made `sum`, and the others are still to come
pub record Reading (number : List ℕ) (k sum : ℕ) : Type 0 where
  pub few : length number ≤ 16
  pub upto : k ≤ length number
  pub small : sum < 16 ^ k
  pub same : numeral number 0 ≡ numeral (drop k number) sum

-- one digit more makes at most a u64
room : (k s d : ℕ) → k < 16 → s < 16 ^ k → d < 16 → (s * 16 + d < 16 ^ suc k) × (s * 16 + d < 2 ^ 64)
room k s d h l m =
    let p : 16 ^ suc k ≡ 16 ^ k * 16 = pow-suc 16 k in
    let q : 16 ^ suc k ≤ 16 ^ 16 = pow-le-pow_right (lit< tt) h in
    omega arith

module _ {number : List ℕ} {k sum : ℕ} (r : Reading number k sum) where
  module _ (h : k < length number) where
    next_left : numeral number 0 ≡ numeral (get_or number k 0 ∷ drop (suc k) number) sum
    next_left = r.same ∙ ap (λ (s : List ℕ). numeral s sum) (drop-cons number k 0 h)

    pub reading_shift : sum * 16 < 2 ^ 64
    reading_shift = omega (arith, room k sum 0 (omega (arith, r.few)) r.small (lit< tt))

    pub reading_bad : None ≡ value_of (get_or number k 0) → None ≡ numeral number 0
    unfolding numeral then
    reading_bad e = sym (next_left ∙ rw (sym e))

    module _ {d : ℕ} (e : Some d ≡ value_of (get_or number k 0)) where
      pub reading_room : (sum * 16 + d < 16 ^ suc k) × (sum * 16 + d < 2 ^ 64)
      reading_room = room k sum d (omega (arith, r.few)) r.small (digit_below (get_or number k 0) (sym e))

      pub reading_more : Reading number (k + 1) (sum * 16 + d)
      unfolding numeral then
      reading_more =
          let j : suc k ≡ k + 1 = omega arith in
          record {
            few = r.few;
            upto = omega arith;
            small = subst (λ (i : ℕ). sum * 16 + d < 16 ^ i) j reading_room.0;
            same = next_left ∙ rw (sym e) (ap (λ (i : ℕ). numeral (drop i number) (sum * 16 + d)) j);
          }

-- what the bytes make is the number at their position
module _ (text : List ℕ) (at n : ℕ) where
  few_bytes : take (at + n - at) (drop at text) ≡ take n (drop at text)
  few_bytes = ap (λ (i : ℕ). take i (drop at text)) (omega arith)

  pub made : n ≤ 16 → at + n ≤ length text → numeral (take (at + n - at) (drop at text)) 0 ≡ read_at text at n
  unfolding read_at
  made g h = ap (λ (s : List ℕ). numeral s 0) few_bytes ∙ sym (rw (le-leb n 16 g, le-leb (at + n) (length text) h))
