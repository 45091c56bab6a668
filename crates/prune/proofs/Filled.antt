-- The loops that turn the losses and that write the ids. Assumes nothing.
use mathlib.Core.Path.{◌≡◌, ap, ◌∙◌}
use mathlib.Core.List.{List, ◌∷◌, ◌++◌, map}
use Prim.Native.Nat.{ℕ, suc, ◌+◌, ◌-◌, ◌<◌}
use native.Mathlib.Omega.{arith}
use lib.ListN.{length, set, take, drop, length-set}
use Rattle.prune.specs.Prune.{ids}
use Rattle.prune.specs.Steps.{turned}
use Rattle.prune.proofs.Walks.{stored}

-- ---- the losses up to id are turned
pub record Turning (losses₀ losses : List ℕ) (id : ℕ) : Type 0 where
  pub long : length losses ≡ length losses₀
  pub so_far : take id losses ++ map turned (drop id losses) ≡ map turned losses₀

-- ---- the slots up to id hold their numbers
pub record Numbering (slots₀ slots : List ℕ) (id : ℕ) : Type 0 where
  pub long : length slots ≡ length slots₀
  pub so_far : take id slots ++ ids id (length slots₀ - id) ≡ ids 0 (length slots₀)

module _ {slots₀ slots : List ℕ} {id : ℕ} (n : Numbering slots₀ slots id) where
  next_id : id < length slots₀ → ids id (length slots₀ - id) ≡ id ∷ ids (id + 1) (length slots₀ - (id + 1))
  next_id h =
      let e : length slots₀ - id ≡ suc (length slots₀ - (id + 1)) = omega arith in
      let u : suc id ≡ id + 1 = omega arith in
      ap (ids id) e ∙ ap (λ (k : ℕ). id ∷ ids k (length slots₀ - (id + 1))) u

  pub numbering_more : id < length slots → Numbering slots₀ (set slots id id) (id + 1)
  numbering_more h =
      record {
        long = length-set slots id id ∙ n.long;
        so_far = stored slots id id h (next_id (omega (arith, n.long))) n.so_far;
      }
