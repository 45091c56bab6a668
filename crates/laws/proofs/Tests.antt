-- What a test's answer says. Assumes nothing.
use mathlib.Core.Path.{◌≡◌, refl, sym}
use mathlib.Core.Bool.{Bool, true, false, true≢false}
use Prim.Native.Nat.{ℕ, ◌≤◌}
use native.Mathlib.Omega.{arith}
use lib.Dec.{leb}
use borrow.Author.Tests.{leb-true, leb-false}
use Rattle.laws.specs.Tests.{Says}

pub said_yes : {P : Type 0} (b : Bool) → b ≡ true → Says b P → P
said_yes true e s = s
said_yes false e s = absurd (true≢false (sym e))

pub said_no : {P : Type 0} (b : Bool) → b ≡ false → Says b P → P → ⊥
said_no true e s = absurd (true≢false e)
said_no false e s = s

-- a test of two numbers
pub says_le : {P : Type 0} (a b : ℕ) → (a ≤ b → P) → (P → a ≤ b) → Says (leb a b) P
says_le {P} a b there back = go (leb a b) refl
  where
    contrary : leb a b ≡ false → a ≤ b → ⊥
    contrary t h = let l = leb-false a b t in omega arith

    go : (t : Bool) → leb a b ≡ t → Says t P
    go true e = there (leb-true a b e)
    go false e = λ p. contrary e (back p)

-- a test of P that says as much of Q
pub says_with : {P Q : Type 0} (b : Bool) → (P → Q) → (Q → P) → Says b P → Says b Q
says_with true there back s = there s
says_with false there back s = λ q. s (back q)

-- a test that holds answers yes
pub says_true : {P : Type 0} (b : Bool) → Says b P → P → b ≡ true
says_true true s p = refl
says_true false s p = absurd (s p)
