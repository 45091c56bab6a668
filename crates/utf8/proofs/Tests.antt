-- The test of a range, and what it says.
-- Assumes nothing.
use Prim.Native.Nat.{ℕ}
use mathlib.Core.Path.{◌≡◌, sym, refl}
use mathlib.Core.Bool.{Bool, true, false, ◌&&◌}
use lib.Dec.{leb}
use native.Mathlib.Omega.{arith}
use borrow.Author.Tests.{le-leb, leb-true}
use Rattle.utf8.specs.Grammar.{Range}
use Rattle.utf8.specs.Decode.{within}

-- a byte of a range passes the range's test
pub in_range : {low high x : ℕ} → Range low high x → within low high x ≡ true
in_range {low} {high} {x} r = simp (le-leb low x r.from, le-leb x high r.upto)

-- and what passes is of the range
range_of : (low high x : ℕ) (b : Bool) → leb low x ≡ b → b && leb x high ≡ true → Range low high x
range_of low high x true e t = record { from = leb-true low x e; upto = leb-true x high t }
range_of low high x false e t = let z : ◌≡◌ {A = Bool} true false = sym t in absurd (no z)
  where
    no : true ≡ false → ⊥
    no z = let w : ◌≡◌ {A = ℕ} 0 1 = cc in omega arith

pub range : {low high x : ℕ} → within low high x ≡ true → Range low high x
range {low} {high} {x} t = range_of low high x (leb low x) refl t
