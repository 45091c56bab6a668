-- A list that stands in another from a place on. Assumes nothing.
use mathlib.Core.Path.{◌≡◌, refl, sym, ap, ◌∙◌, subst}
use mathlib.Core.List.{List, ◌++◌}
use Prim.Native.Nat.{ℕ, ◌+◌, ◌≤◌}
use native.Mathlib.Nat.{zero-add}
use native.Mathlib.Omega.{arith}
use lib.ListN.{length, take, drop, length-append, length-take}
use lib.Seq.{slice, length-slice, take_at, drop_at}
use Rattle.cached.specs.Held.{Begins}
use Rattle.cached.proofs.Chains.{follow}

pub record Front (xs : List ℕ) (k : ℕ) (front : List ℕ) : Type 0 where
  pub fits : k + length front ≤ length xs
  pub is : slice k (k + length front) xs ≡ front

pub begins_front : (xs front : List ℕ) → Begins xs front → Front xs 0 front
begins_front xs front b =
    let long = sym (ap length b) ∙ length-take (length front) xs in
    record { fits = omega arith; is = ap (λ (k : ℕ). take k xs) (zero-add (length front)) ∙ b }

module _ (xs : List ℕ) (k : ℕ) (a b : List ℕ) (f : Front xs k (a ++ b)) where
  long : length (a ++ b) ≡ length a + length b
  long = length-append a b

  both : slice k (k + length a) xs ++ slice (k + length a) (k + length (a ++ b)) xs ≡ a ++ b
  both = let l = f.fits in let m = long in follow xs (length a) k (k + length a) (k + length (a ++ b)) refl (omega arith) (omega arith) ∙ f.is

  first_long : length (slice k (k + length a) xs) ≡ length a
  first_long = let l = f.fits in let m = long in let n = length-slice k (k + length a) xs (omega arith) in omega arith

  pub first_front : Front xs k a
  first_front =
      let l = f.fits in
      let m = long in
      record { fits = omega arith; is = sym (take_at (slice k (k + length a) xs) _ (length a) first_long) ∙ ap (take (length a)) both ∙ take_at a b (length a) refl }

  pub next_front : (past : ℕ) → k + length a ≡ past → Front xs past b
  next_front past e =
      let l = f.fits in
      let m = long in
      let whole : k + length (a ++ b) ≡ k + length a + length b = omega arith in
      let here : slice (k + length a) (k + length (a ++ b)) xs ≡ b = sym (drop_at (slice k (k + length a) xs) _ (length a) first_long) ∙ ap (drop (length a)) both ∙ drop_at a b (length a) refl in
      subst (λ (p : ℕ). Front xs p b) e (record { fits = omega arith; is = ap (λ (p : ℕ). slice (k + length a) p xs) (sym whole) ∙ here })
