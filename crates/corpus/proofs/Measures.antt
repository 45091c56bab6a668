-- What the measure of a word's bytes says: whether it is UTF-8, and how many characters it can have. Assumes nothing.
use Rattle.std.specs.Prelude.{Result, Ok, Err, is_ok}
use mathlib.Core.Path.{◌≡◌, refl, sym}
use mathlib.Core.List.{List}
use Prim.Native.Nat.{ℕ}
use native.Mathlib.Omega.{arith}
use lib.ListN.{length}
use Rattle.laws.specs.Tests.{Says}
use Rattle.utf8.specs.Encode.{Spells}
use Rattle.utf8.specs.Chars.{chars_of, measured}
use Rattle.utf8.proofs.Theorems.{spells, measures_chars}
use Rattle.utf8.proofs.Whole.{valid_whole}

-- ---- UTF-8 or not
pub yes_utf8 : (s : List ℕ) {n : ℕ} → measured s ≡ Ok n → Spells s (chars_of s)
yes_utf8 s e = (spells s).1 (sym (valid_whole s (sym e)))

pub measure_utf8 : (s : List ℕ) → Spells s (chars_of s) → measured s ≡ Ok (length (chars_of s))
measure_utf8 s p = (measures_chars s (length (chars_of s))).1 (chars_of s, p, refl)

pub no_utf8 : (s : List ℕ) {b : ℕ} → measured s ≡ Err b → Spells s (chars_of s) → ⊥
no_utf8 s {b} e p =
    let o : measured s ≡ Ok (length (chars_of s)) = measure_utf8 s p in
    let z : ◌≡◌ {A = ℕ} 0 1 = cc in
    omega arith

pub says_utf8 : (s : List ℕ) {r : Result ℕ ℕ} → r ≡ measured s → Says (is_ok r) (Spells s (chars_of s))
says_utf8 s {r = Ok n} e = yes_utf8 s (sym e)
says_utf8 s {r = Err b} e = no_utf8 s (sym e)

-- ---- the number of characters
pub chars_are : (s : List ℕ) {n : ℕ} → measured s ≡ Ok n → length (chars_of s) ≡ n
chars_are s {n} e =
    let o : measured s ≡ Ok (length (chars_of s)) = measure_utf8 s (yes_utf8 s e) in
    cc
