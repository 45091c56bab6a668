-- Whether a line is all digits, and how far the loop of `pairs` has come.
-- Assumes nothing.
use Prim.Native.Nat.{ℕ, zero, suc, ◌+◌, ◌/◌, ◌≤◌, ◌<◌}
use mathlib.Core.Path.{◌≡◌, refl, ◌∙◌, sym, ap}
use mathlib.Core.Bool.{Bool, true, false, cond}
use mathlib.Core.List.{List, [], ◌∷◌, ◌++◌, append_assoc}
use native.Mathlib.Numerals.{add-one}
use native.Mathlib.Omega.{arith}
use lib.ListN.{length, drop, get_or, set, length-set, length-append}
use lib.Seq.{drop-cons, set_at}
use Rattle.std.specs.Bool.{MatchBool}
use Rattle.std.specs.List.{AllWithin, HoldsAt}
use Rattle.laws.proofs.Choices.{cond_cases}
use Rattle.frames.specs.Bytes.{is_digit, digits_only, byte_at, bytes_upto, bytes_of}

-- a line is all digits where each byte is one, and not where one is none
all_digits : (line : List ℕ) → AllWithin (λ b. is_digit b ≡ true) line 0 (length line) → true ≡ digits_only line
unfolding digits_only
all_digits [] h = refl
all_digits (b ∷ line) h =
    all_digits line (λ k d m n. h (suc k) d (omega arith) (omega arith))
    ∙ sym (ap (λ (t : Bool). cond t (digits_only line) false) (h 0 0 (omega arith) (omega arith)))

no_digit : (line : List ℕ) (k : ℕ) → k < length line → HoldsAt (λ b. is_digit b ≡ false) line k → false ≡ digits_only line
unfolding digits_only
no_digit [] k l h = absurd (omega arith)
no_digit (b ∷ line) zero l h = sym (ap (λ (t : Bool). cond t (digits_only line) false) (h 0))
no_digit (b ∷ line) (suc k) l h =
    cond_cases (λ (t : Bool). false ≡ t) (is_digit b) (digits_only line) false (λ e. no_digit line k (omega arith) h) (λ e. refl)

pub digits_decided : (line : List ℕ) (all : Bool)
    → MatchBool all (AllWithin (λ b. is_digit b ≡ true) line 0 (length line)) ((k : ℕ) × (k < length line) × HoldsAt (λ b. is_digit b ≡ false) line k) → all ≡ digits_only line
digits_decided line true h = all_digits line h
digits_decided line false (k, l, h) = no_digit line k l h

pub length_bytes : (line : List ℕ) (n : ℕ) → length (bytes_upto line n) ≡ n
unfolding bytes_upto
length_bytes line zero = refl
length_bytes line (suc n) = length-append (bytes_upto line n) (byte_at line n ∷ []) ∙ rw (length_bytes line n, add-one n)

-- the bytes of so many pairs are written
pub record Pairs (line before bytes : List ℕ) (i : ℕ) : Type 0 where
  pub near : i ≤ length line / 2
  pub room : length line / 2 ≤ length before
  pub long : length bytes ≡ length before
  pub is : bytes ≡ bytes_upto line i ++ drop i before

pub pairs_none : (line before : List ℕ) → length line / 2 ≤ length before → Pairs line before before 0
unfolding bytes_upto
pairs_none line before h = record { near = omega arith; room = h; long = refl; is = refl }

store : (line before : List ℕ) (i v : ℕ) → i < length before → v ≡ byte_at line i
    → set (bytes_upto line i ++ drop i before) i v ≡ bytes_upto line (suc i) ++ drop (suc i) before
unfolding bytes_upto
store line before i v h e =
    ap (λ (l : List ℕ). set (bytes_upto line i ++ l) i v) (drop-cons before i 0 h)
    ∙ set_at (bytes_upto line i) (get_or before i 0) (drop (suc i) before) v i (length_bytes line i)
    ∙ ap (λ (b : ℕ). bytes_upto line i ++ b ∷ drop (suc i) before) e
    ∙ sym (append_assoc (bytes_upto line i) (byte_at line i ∷ []) (drop (suc i) before))

module _ {line before bytes : List ℕ} {i : ℕ} (p : Pairs line before bytes i) where
  pub pairs_more : (v : ℕ) → i < length line / 2 → v ≡ byte_at line i → Pairs line before (set bytes i v) (i + 1)
  pairs_more v h e = record {
    near = omega arith;
    room = p.room;
    long = length-set bytes i v ∙ p.long;
    is =
        ap (λ (l : List ℕ). set l i v) p.is ∙ store line before i v (omega (arith, p.room)) e
        ∙ ap (λ (j : ℕ). bytes_upto line j ++ drop j before) (sym (add-one i));
  }

  pub pairs_end : length line / 2 ≤ i → bytes ≡ bytes_of line ++ drop (length line / 2) before
  pairs_end h =
      let e : i ≡ length line / 2 = omega (arith, p.near) in
      p.is ∙ ap (λ (j : ℕ). bytes_upto line j ++ drop j before) e
