-- The loop that closes up a list: what is left moves to the front. Assumes nothing.
use mathlib.Core.Path.{◌≡◌, refl, sym, ap, ap₂, ◌∙◌}
use mathlib.Core.Bool.{Bool, true, false, cond}
use mathlib.Core.List.{List, ◌∷◌, ◌++◌, append-nil}
use Prim.Native.Nat.{ℕ, suc, ◌+◌, ◌-◌, ◌≤◌, ◌<◌}
use native.Mathlib.Numerals.{add-one}
use native.Mathlib.Omega.{arith}
use lib.Dec.{eqb}
use lib.ListN.{length, get_or, set, take, drop, length-set, take-append-drop, drop_of_length-le}
use lib.Seq.{drop-cons, drop-drop, drop-set-lt, length-take-le}
use Rattle.lattice.specs.Pruning.{gone}
use Rattle.prune.specs.Compact.{surviving, compacted}
use Rattle.prune.proofs.Walks.{stored}

-- the items up to k have moved, and stand before `write`; from there on all is as it was
pub record Closing {A : Type 0} (remap : List ℕ) (l₀ l : List A) (write k : ℕ) : Type 0 where
  pub long : length l ≡ length l₀
  pub room : length remap ≤ length l₀
  pub behind : write ≤ k
  pub upto : k ≤ length remap
  pub rest : drop write l ≡ drop write l₀
  pub so_far : take write l ++ surviving (drop k remap) (drop k l) ≡ surviving remap l₀

pub closing_none : {A : Type 0} (remap : List ℕ) (l : List A) → length remap ≤ length l → Closing remap l l 0 0
closing_none remap l h = record { long = refl; room = h; behind = omega arith; upto = omega arith; rest = refl; so_far = refl }

-- lists that are the same from one slot on are the same from a later one on
further : {A : Type 0} (l l' : List A) (m n : ℕ) → m ≤ n → drop m l ≡ drop m l' → drop n l ≡ drop n l'
further l l' m n h e =
    let s : m + (n - m) ≡ n = omega arith in
    ap (λ (i : ℕ). drop i l) (sym s)
    ∙ sym (drop-drop (n - m) m l)
    ∙ ap (drop (n - m)) e
    ∙ drop-drop (n - m) m l'
    ∙ ap (λ (i : ℕ). drop i l') s

module _ {A : Type 0} {remap : List ℕ} {l₀ l : List A} {write k : ℕ} (c : Closing remap l₀ l write k) where
  front_is : length remap ≤ k → take write l ≡ surviving remap l₀
  front_is h =
      sym (append-nil (take write l))
      ∙ ap (λ (x : List ℕ). take write l ++ surviving x (drop k l)) (sym (drop_of_length-le remap h))
      ∙ c.so_far

  pub closing_count : length remap ≤ k → write ≡ length (surviving remap l₀)
  closing_count h =
      sym (length-take-le write l (omega (arith, c.behind, c.upto, c.room, c.long))) ∙ ap length (front_is h)

  pub closing_all : length remap ≤ k → l ≡ compacted remap l₀
  closing_all h =
      sym (take-append-drop write l)
      ∙ ap₂ (λ (a b : List A). a ++ b) (front_is h) c.rest
      ∙ ap (λ (n : ℕ). surviving remap l₀ ++ drop n l₀) (closing_count h)

  module _ (d : A) (h : k < length remap) where
    in_list : k < length l
    in_list = omega (arith, c.room, c.long)

    next_item : (b : Bool) → eqb (get_or remap k 0) gone ≡ b
        → surviving (drop k remap) (drop k l)
        ≡ cond b (surviving (drop (suc k) remap) (drop (suc k) l))
        (get_or l k d ∷ surviving (drop (suc k) remap) (drop (suc k) l))
    next_item b e =
        ap₂ (λ (x : List ℕ) (y : List A). surviving x y) (drop-cons remap k 0 h) (drop-cons l k d in_list)
        ∙ ap (λ (t : Bool). cond t (surviving (drop (suc k) remap) (drop (suc k) l))
        (get_or l k d ∷ surviving (drop (suc k) remap) (drop (suc k) l))) e

    pub closing_by : (b : Bool) → eqb (get_or remap k 0) gone ≡ b
        → Closing remap l₀ (cond b l (set l write (get_or l k d))) (cond b write (write + 1)) (k + 1)
    closing_by true e =
        record {
          long = c.long;
          room = c.room;
          behind = omega (arith, c.behind);
          upto = omega arith;
          rest = c.rest;
          so_far =
              ap (λ (n : ℕ). take write l ++ surviving (drop n remap) (drop n l)) (add-one k)
              ∙ ap (λ (x : List A). take write l ++ x) (sym (next_item true e))
              ∙ c.so_far;
        }
    closing_by false e =
        let v = get_or l k d in
        let w : write < length l = omega (arith, c.behind, in_list) in
        let u : k + 1 ≡ suc k = omega arith in
        record {
          long = length-set l write v ∙ c.long;
          room = c.room;
          behind = omega (arith, c.behind);
          upto = omega arith;
          rest =
              drop-set-lt (write + 1) l write v (omega arith)
              ∙ further l l₀ write (write + 1) (omega arith) c.rest;
          so_far =
              ap (λ (n : ℕ). take (write + 1) (set l write v) ++ surviving (drop n remap) (drop n (set l write v))) u
              ∙ ap (λ (x : List A). take (write + 1) (set l write v) ++ surviving (drop (suc k) remap) x)
              (drop-set-lt (suc k) l write v (omega (arith, c.behind)))
              ∙ stored l write v w (next_item false e) c.so_far;
        }
