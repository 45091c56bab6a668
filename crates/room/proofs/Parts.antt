-- The part of a slice that was filled. Assumes nothing.
use mathlib.Core.Path.{◌≡◌, refl, sym, ap, ◌∙◌, subst}
use mathlib.Core.Bool.{Bool, true, false}
use mathlib.Core.List.{List}
use Prim.Native.Nat.{ℕ, min}
use native.Mathlib.Omega.{arith}
use lib.Dec.{leb}
use lib.ListN.{length, take}
use lib.Seq.{take_all}
use borrow.Author.Tests.{leb-true, leb-false}
use Rattle.settings.specs.declared.Settings.{Settings}
use Rattle.listing.specs.Start.{Lent}
use Rattle.room.specs.Room.{asked}

module _ {A : Type 0} (n r : ℕ) (l : List A) (e : r ≡ min n (length l)) where
  -- as many as there are, or as are asked for
  pub part : take r l ≡ take n l
  part = go (leb n (length l)) refl
    where
      go : (b : Bool) → leb n (length l) ≡ b → take r l ≡ take n l
      go true t = let h = leb-true n (length l) t in let k : r ≡ n = omega arith in ap (λ (i : ℕ). take i l) k
      go false t = let h = leb-false n (length l) t in take_all r l (omega arith) ∙ sym (take_all n l (omega arith))

-- what is asked goes by what is lent
pub lent_same : (P : Lent → Type 0) (s : Settings) {a a' b b' c c' d d' e e' : List ℕ} → a ≡ a' → b ≡ b' → c ≡ c' → d ≡ d' → e ≡ e'
    → P (asked s a b c d e) → P (asked s a' b' c' d' e')
lent_same P s {a} {a'} {b} {b'} {c} {c'} {d} {d'} {e} {e'} p q r t u x =
    subst (λ (y : List ℕ). P (asked s a' b' c' d' y)) u
    (subst (λ (y : List ℕ). P (asked s a' b' c' y e)) t
    (subst (λ (y : List ℕ). P (asked s a' b' y d e)) r
    (subst (λ (y : List ℕ). P (asked s a' y c d e)) q
    (subst (λ (y : List ℕ). P (asked s y b c d e)) p x))))
