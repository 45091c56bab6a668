-- What `measure` says of the bytes of a span. Assumes nothing.
use mathlib.Core.Path.{◌≡◌, refl, sym, ◌∙◌}
use mathlib.Core.List.{List}
use Prim.Native.Nat.{ℕ, ◌≤◌}
use native.Mathlib.Omega.{arith}
use lib.ListN.{length}
use Rattle.utf8.specs.Chars.{chars_of, measured}
use Rattle.std.specs.Prelude.{Result, Ok, Err, is_ok}
use Rattle.laws.specs.Tests.{Says}
use Rattle.utf8.proofs.Theorems.{spells, measures_chars}
use Rattle.utf8.proofs.Whole.{valid_whole}
use Rattle.spans.specs.Spans.{bytes, Inside, octets}
use Rattle.spans.specs.Check.{Good}

module _ (text spans : List ℕ) (most k : ℕ) (i : Inside text spans k) (s : bytes spans k ≤ most) where
  judged_good : {n : ℕ} → measured (octets text spans k) ≡ Ok n → Good text spans most k
  judged_good e = record { inside = i; short = s; utf8 = (spells (octets text spans k)).1 (sym (valid_whole (octets text spans k) (sym e))) }

  judged_bad : {n : ℕ} → measured (octets text spans k) ≡ Err n → Good text spans most k → ⊥
  judged_bad {n} e g =
      let o : measured (octets text spans k) ≡ Ok (length (chars_of (octets text spans k))) = (measures_chars (octets text spans k) (length (chars_of (octets text spans k)))).1 (chars_of (octets text spans k), g.utf8, refl) in
      let x : ◌≡◌ {A = Result ℕ ℕ} (Err n) (Ok (length (chars_of (octets text spans k)))) = sym e ∙ o in
      let z : ◌≡◌ {A = ℕ} 0 1 = cc in
      omega arith

  pub judged : (r : Result ℕ ℕ) → r ≡ measured (octets text spans k) → Says (is_ok r) (Good text spans most k)
  judged (Ok n) e = judged_good (sym e)
  judged (Err n) e = judged_bad (sym e)
