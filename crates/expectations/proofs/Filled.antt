-- A slice that a loop fills from the front, one element a turn. Assumes nothing.
use mathlib.Core.Path.{◌≡◌, refl, sym, ap, ◌∙◌}
use mathlib.Core.List.{List, [], ◌∷◌, ◌++◌, append_assoc}
use Prim.Native.Nat.{ℕ, suc, ◌+◌, ◌<◌}
use native.Mathlib.Nat.{lt_irrefl}
use native.Mathlib.Numerals.{add-one}
use lib.ListN.{length, get_or, take, drop, set, length-set}
use lib.Seq.{drop-cons, set_at, take_at}
use lib.Ieee.{Float}

-- `l` holds `front`, k long, and then what `base` has there
pub record Filled (front base : List Float) (k : ℕ) (l : List Float) : Type 0 where
  pub is : l ≡ front ++ drop k base
  pub long : length l ≡ length base

pub filled_none : (l : List Float) → Filled [] l 0 l
filled_none l = record { is = refl; long = refl }

pub filled_more : {front base l : List Float} {k : ℕ} (v : Float) → length front ≡ k → k < length base → Filled front base k l → Filled (front ++ (v ∷ [])) base (k + 1) (set l k v)
filled_more {front} {base} {l} {k} v e h f =
    record {
      is = ap (λ (x : List Float). set x k v) (f.is ∙ ap (λ (x : List Float). front ++ x) (drop-cons base k v h))
          ∙ set_at front (get_or base k v) (drop (suc k) base) v k e
          ∙ sym (append_assoc front (v ∷ []) (drop (suc k) base))
          ∙ ap (λ (n : ℕ). (front ++ (v ∷ [])) ++ drop n base) (sym (add-one k));
      long = length-set l k v ∙ f.long;
    }

-- the first element alone
pub filled_one : (l : List Float) (v : Float) → 0 < length l → Filled (v ∷ []) (set l 0 v) 1 (set l 0 v)
filled_one [] v h = absurd (lt_irrefl 0 h)
filled_one (x ∷ l) v h = record { is = refl; long = refl }

pub filled_part : {front base l : List Float} {k : ℕ} → length front ≡ k → Filled front base k l → take k l ≡ front
filled_part {front} {base} {l} {k} e f = ap (take k) f.is ∙ take_at front (drop k base) k e
