-- A position's sum to n is settled before its own edges are added: later ends add nothing to it. So the backward pass adds with the final sums. Assumes nothing.
use mathlib.Core.Path.{◌≡◌, refl, sym, ap, ◌∙◌}
use mathlib.Core.Bool.{cond}
use mathlib.Core.List.{List}
use Prim.Native.Nat.{ℕ, zero, suc, ◌+◌, ◌-◌, ◌≤◌, ◌<◌}
use native.Mathlib.Omega.{arith}
use borrow.Author.Tests.{ne_eqb}
use lib.Dec.{eqb}
use lib.ListN.{length, get_or}
use lib.Ieee.{Float}
use Rattle.math.specs.Steps.{◌⊕◌}
use Rattle.formed.specs.Word.{WordFormed}
use Rattle.connected.specs.Word.{low, high}
use Rattle.connected.proofs.Word.{starting}
use Rattle.expectations.specs.LogAdd.{log_add}
use Rattle.expectations.specs.Edges.{in_turn}
use Rattle.expectations.specs.Sums.{score, backward_sum, beta_by, beta_at}

module _ (starts ids : List ℕ) (scores : List Float) (p : ℕ) (onward : Float) where
  abbrev step : Float → ℕ → Float
  step sum k = cond (eqb (get_or starts k 0) p) (log_add sum (score starts ids scores k ⊕ onward)) sum

  -- edges that start elsewhere
  elsewhere : (sum : Float) (k n : ℕ) → ((j : ℕ) → k ≤ j → j < k + n → get_or starts j 0 ≡ p → ⊥) → in_turn step sum k n ≡ sum
  elsewhere sum k zero f = refl
  elsewhere sum k (suc n) f =
      ap (λ t. cond t (log_add (in_turn step sum k n) (score starts ids scores (k + n) ⊕ onward)) (in_turn step sum k n)) (ne_eqb (get_or starts (k + n) 0) p (f (k + n) (omega arith) (omega arith)))
      ∙ elsewhere sum k n (λ j a b. f j a (omega arith))

module _ {offsets starts ids : List ℕ} (scores : List Float) {n : ℕ} (w : WordFormed offsets starts ids (length scores) n) where
  abbrev by : ℕ → ℕ → Float
  by d p = beta_by offsets starts ids scores n d p

  later : (d p : ℕ) → n - d ≤ p → by (suc d) p ≡ by d p
  later d p l =
      let s = starting w (n - d) (omega arith) in
      elsewhere starts ids scores p (by d (n - d)) (by d p) (low offsets (n - d)) (high offsets (n - d) - low offsets (n - d))
      (λ j a b e. apart j (s.before j a (let r = s.rises in omega arith)) e)
    where
      apart : (j : ℕ) → get_or starts j 0 < n - d → get_or starts j 0 ≡ p → ⊥
      apart j a e = omega arith

  stays : (j d p : ℕ) → n - d ≤ p → by (j + d) p ≡ by d p
  stays zero d p l = let z : 0 + d ≡ d = omega arith in ap (λ (k : ℕ). by k p) z
  stays (suc j) d p l = let z : suc j + d ≡ suc (j + d) = omega arith in ap (λ (k : ℕ). by k p) z ∙ later (j + d) p (omega arith) ∙ stays j d p l

  pub settled : (d : ℕ) → d ≤ n → by d (n - d) ≡ beta_at offsets starts ids scores n (n - d)
  settled d l = let all : n - d + d ≡ n = omega arith in sym (stays (n - d) d (n - d) (omega arith)) ∙ ap (λ (k : ℕ). by k (n - d)) all

  -- one end more, by the final sum at that end
  pub by_final : (d p : ℕ) → d < n → by (suc d) p ≡ backward_sum starts ids scores p (beta_at offsets starts ids scores n (n - d)) (by d p) (low offsets (n - d)) (high offsets (n - d))
  by_final d p l = ap (λ (x : Float). backward_sum starts ids scores p x (by d p) (low offsets (n - d)) (high offsets (n - d))) (settled d (omega arith))
