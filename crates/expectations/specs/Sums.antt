-- The sums over a word's cuts: document 01's port order 6, "Order of every sum as in 000: ends rising, starts rising, backward pass ends falling". Definitions only.
use Rattle.std.specs.Prelude.{◌≡◌, true, cond, List, [], ◌∷◌, ◌++◌, ℕ, zero, suc, ◌-◌, ◌≤◌, ◌<◌, eqb, length, get_or, replicate, Float}
use Rattle.std.specs.Float.{nan, inf}
use Rattle.std.specs.Float.Ieee.Scale.{finite}
use Rattle.math.specs.Steps.{exp_steps, ◌⊕◌, ◌⊖◌, zero as nought}
use Rattle.connected.specs.Word.{low, high}
use Rattle.expectations.specs.LogAdd.{log_add}
use Rattle.expectations.specs.Edges.{over}

-- "non-finite marginals are skipped": +0 "where none is emitted"
abbrev pub share : Float → Float
share marginal = cond (finite marginal) (exp_steps marginal) nought

-- ---- the edges from `from` up to, not with, `to`, which end at one position
module _ (starts ids : List ℕ) (scores : List Float) where
  abbrev pub score : ℕ → Float
  score k = get_or scores (get_or ids k 0) nan

  -- the way from position 0 over edge k, where h holds the sums at the positions before its end
  abbrev pub until : List Float → ℕ → Float
  until h k = get_or h (get_or starts k 0) nan ⊕ score k

  abbrev pub forward_sum : List Float → ℕ → ℕ → Float
  forward_sum h from to = over (λ sum k. log_add sum (until h k)) (inf true) from to

  -- what these edges add to a sum at position p, where `onward` is the sum at their end
  abbrev pub backward_sum : ℕ → Float → Float → ℕ → ℕ → Float
  backward_sum p onward sum from to = over (λ sum k. cond (eqb (get_or starts k 0) p) (log_add sum (score k ⊕ onward)) sum) sum from to

  -- the share of each
  abbrev pub shares : List Float → Float → Float → ℕ → ℕ → List Float
  shares h onward z from to = over (λ told k. told ++ (share (until h k ⊕ onward ⊖ z) ∷ [])) [] from to

-- ---- a word of n characters
module _ (offsets starts ids : List ℕ) (scores : List Float) where
  -- alpha: the sums at positions 0 .. p over the chains of edges from position 0, ends rising
  abbrev pub alphas : ℕ → List Float
  alphas zero = nought ∷ []
  alphas (suc p) = alphas p ++ (forward_sum starts ids scores (alphas p) (low offsets (suc p)) (high offsets (suc p)) ∷ [])

  -- z: the sum over all cuts
  abbrev pub sum_of : ℕ → Float
  sum_of n = get_or (alphas n) n nan

  -- the sum at position p over the chains of edges to n that start with an edge to one of the last d ends, those ends falling from n
  abbrev pub beta_by : ℕ → ℕ → ℕ → Float
  beta_by n zero p = cond (eqb p n) nought (inf true)
  beta_by n (suc d) p = backward_sum starts ids scores p (beta_by n d (n - d)) (beta_by n d p) (low offsets (n - d)) (high offsets (n - d))

  -- beta: over all ends
  abbrev pub beta_at : ℕ → ℕ → Float
  beta_at n p = beta_by n n p

  -- the shares of the edges to the ends below p, "an entry an edge in edge order"
  abbrev pub shares_to : List Float → (ℕ → Float) → Float → ℕ → List Float
  shares_to h beta z zero = []
  shares_to h beta z (suc p) = shares_to h beta z p ++ shares starts ids scores h (beta p) z (low offsets p) (high offsets p)

  -- "Non-finite z returns minus infinity and emits nothing"
  unfoldable pub expected_sum : ℕ → Float
  expected_sum n = cond (finite (sum_of n)) (sum_of n) (inf true)

  unfoldable pub expected_shares : ℕ → List Float
  expected_shares n = cond (finite (sum_of n)) (shares_to (alphas n) (beta_at n) (sum_of n) (suc n)) (replicate (length starts) nought)

-- ---- what the backward pass leaves in its slice
-- after the edges from `from` up to `to`
pub record Added (starts ids : List ℕ) (scores : List Float) (onward : Float) (from to : ℕ) (before after : List Float) : Type 0 where
  pub each : (p : ℕ) → p < length before → get_or after p nan ≡ backward_sum starts ids scores p onward (get_or before p nan) from to

-- after d ends
pub record Holds (offsets starts ids : List ℕ) (scores : List Float) (n d : ℕ) (slice : List Float) : Type 0 where
  pub each : (p : ℕ) → p ≤ n → get_or slice p nan ≡ beta_by offsets starts ids scores n d p
