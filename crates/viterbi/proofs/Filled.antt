-- A slice that a loop fills from the front, one element a turn. Assumes nothing.
use mathlib.Core.Path.{◌≡◌, refl, sym, ap, ◌∙◌}
use mathlib.Core.List.{List, [], ◌∷◌, ◌++◌, append_assoc}
use Prim.Native.Nat.{ℕ, suc, ◌+◌, ◌<◌}
use native.Mathlib.Nat.{lt_irrefl}
use native.Mathlib.Numerals.{add-one}
use lib.ListN.{length, get_or, take, drop, set, length-set}
use lib.Seq.{drop-cons, set_at, take_at}

-- `l` holds `front` up to q, and then what `base` has there
pub record Filled (A : Type 0) (front base : List A) (q : ℕ) (l : List A) : Type 0 where
  pub is : l ≡ front ++ drop (q + 1) base
  pub long : length l ≡ length base

pub filled_one : {A : Type 0} (l : List A) (v : A) → 0 < length l → Filled A (v ∷ []) (set l 0 v) 0 (set l 0 v)
filled_one [] v h = absurd (lt_irrefl 0 h)
filled_one (x ∷ l) v h = record { is = refl; long = refl }

pub filled_more : {A : Type 0} {front base l : List A} {q : ℕ} (v : A) → length front ≡ q + 1 → q + 1 < length base → Filled A front base q l → Filled A (front ++ (v ∷ [])) base (q + 1) (set l (q + 1) v)
filled_more {A} {front} {base} {l} {q} v e h f =
    record {
      is = ap (λ (x : List A). set x (q + 1) v) (f.is ∙ ap (λ (x : List A). front ++ x) (drop-cons base (q + 1) v h))
          ∙ set_at front (get_or base (q + 1) v) (drop (suc (q + 1)) base) v (q + 1) e
          ∙ sym (append_assoc front (v ∷ []) (drop (suc (q + 1)) base))
          ∙ ap (λ (n : ℕ). (front ++ (v ∷ [])) ++ drop n base) (sym (add-one (q + 1)));
      long = length-set l (q + 1) v ∙ f.long;
    }

pub filled_part : {A : Type 0} {front base l : List A} {q : ℕ} → length front ≡ q + 1 → Filled A front base q l → take (q + 1) l ≡ front
filled_part {A} {front} {base} {l} {q} e f = ap (take (q + 1)) f.is ∙ take_at front (drop (q + 1) base) (q + 1) e
