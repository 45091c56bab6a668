-- A walk over a list, slot by slot: what is done so far, and then what is left to do, is the whole. Assumes nothing.
use mathlib.Core.Path.{◌≡◌, sym, ap, ◌∙◌}
use mathlib.Core.List.{List, [], ◌∷◌, ◌++◌, append-nil}
use Prim.Native.Nat.{ℕ, ◌+◌, ◌≤◌, ◌<◌}
use native.Mathlib.Numerals.{add-one}
use lib.ListN.{length, get_or, set, take}
use lib.Seq.{take_all, take-suc, take-suc-set, append_snoc}

module _ {A : Type 0} (l : List A) (k : ℕ) where
  -- slot k is stored
  pub stored : (v : A) {rest rest' whole : List A} → k < length l → rest ≡ v ∷ rest' → take k l ++ rest ≡ whole
      → take (k + 1) (set l k v) ++ rest' ≡ whole
  stored v {rest} {rest'} h r w =
      ap (λ (n : ℕ). take n (set l k v) ++ rest') (add-one k)
      ∙ ap (λ (x : List A). x ++ rest') (take-suc-set l k v h)
      ∙ append_snoc (take k l) v rest'
      ∙ ap (λ (x : List A). take k l ++ x) (sym r)
      ∙ w

  -- slot k stays as it is
  pub passed : (d : A) {rest rest' whole : List A} → k < length l → rest ≡ get_or l k d ∷ rest' → take k l ++ rest ≡ whole
      → take (k + 1) l ++ rest' ≡ whole
  passed d {rest} {rest'} h r w =
      ap (λ (n : ℕ). take n l ++ rest') (add-one k)
      ∙ ap (λ (x : List A). x ++ rest') (take-suc l k d h)
      ∙ append_snoc (take k l) (get_or l k d) rest'
      ∙ ap (λ (x : List A). take k l ++ x) (sym r)
      ∙ w

  -- no slot is left
  pub walked : {rest whole : List A} → length l ≤ k → rest ≡ [] → take k l ++ rest ≡ whole → l ≡ whole
  walked {rest} h r w =
      sym (take_all k l h) ∙ sym (append-nil (take k l)) ∙ ap (λ (x : List A). take k l ++ x) (sym r) ∙ w
