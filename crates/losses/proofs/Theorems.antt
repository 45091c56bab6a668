-- What is proved of losses. `losses` promises one equation, so that no second outcome fits. An alternative is the best score of the
-- cuts without the piece. Losses are no NaN and not below zero, and their bits order as they do. Assumes nothing.
use mathlib.Core.Path.{◌≡◌, refl, sym, ap, ap₂, ◌∙◌}
use mathlib.Core.Bool.{true, false}
use mathlib.Core.List.{List, map}
use Prim.Native.Nat.{ℕ, ◌≤◌, ◌<◌}
use lib.Dec.{T, ltb}
use lib.ListN.{length, get_or}
use lib.Ieee.{Float, nan, inf, binary64, lt, eq, to_bits}
use lib.Ieee.Scale.{finite}
use Rattle.laws.proofs.Outcome.{one_outcome}
use Rattle.rounding.specs.Units.{Is}
use Rattle.math.specs.Steps.{zero as nought}
use Rattle.spans.specs.Spans.{listed}
use Rattle.lattice.specs.Lattice.{lattice}
use Rattle.lattice.specs.Layout.{joined, offsets}
use Rattle.scores.specs.Table.{best}
use Rattle.scores.specs.Floats.{f64s}
use Rattle.viterbi.specs.Slices.{without, Scored}
use Rattle.viterbi.specs.Excluding.{BestWithout}
use Rattle.viterbi.proofs.Exact.{built_exact}
use Rattle.viterbi.proofs.Theorems.{excluding_is}
use Rattle.losses.specs.Losses.{scored_by, alternative, loss, loss_at, losses_of, bits_of}
use Rattle.losses.specs.Order.{from_nought, Uses}
use Rattle.losses.proofs.Patterns.{bits_order}
use Rattle.losses.proofs.Signs.{loss_sign, loss_fits, nothing_unused, without_alternative, whole_uses as counted}
use Rattle.losses.proofs.Filling.{bits_at}

-- ---- no second outcome
pub no_second : (text pieces : List ℕ) (setting : ℕ) (scores uses : List Float) (bits other : List ℕ)
    → bits ≡ bits_of (losses_of setting (listed text pieces) scores uses) → other ≡ bits_of (losses_of setting (listed text pieces) scores uses) → bits ≡ other
no_second text pieces setting scores uses bits other p q = one_outcome p q

-- ---- the alternative: the best score of the text's cuts without the piece, minus infinity where none has a finite sum
alternative_by : (setting : ℕ) (pieces : List (List ℕ)) (text : List ℕ) (scores : List Float) (id : ℕ)
    → alternative setting pieces text scores id ≡ best f64s (scored_by (lattice setting pieces text) (without id scores)) (length text)
unfolding alternative
alternative_by setting pieces text scores id = refl

pub alternative_is : (setting : ℕ) (pieces : List (List ℕ)) (text : List ℕ) (scores : List Float) (id : ℕ) → length pieces ≤ length scores → Scored scores
    → BestWithout (scored_by (lattice setting pieces text) scores) (map (λ e. e.id) (joined (lattice setting pieces text))) (length text) id (alternative setting pieces text scores id)
alternative_is setting pieces text scores id many scored =
    let rows = lattice setting pieces text in
    excluding_is (offsets rows) (map (λ e. e.start) (joined rows)) (map (λ e. e.id) (joined rows)) scores (length text) (built_exact setting pieces text scores many) scored id
    (alternative setting pieces text scores id) (alternative_by setting pieces text scores id)

-- ---- "plus infinity if there is no finite alternative; 0 unused"
pub unused : (used score other : Float) → eq used nought ≡ true → loss used score other ≡ nought
unused used score other e = nothing_unused used score other e

pub no_alternative : (used score other : Float) → Uses used → eq used nought ≡ false → finite other ≡ false → loss used score other ≡ inf false
no_alternative used score other u e f = without_alternative used score other u e f

-- ---- losses of pieces that are used finitely often, as those of crate `uses` are: a whole number of times (its `uses_are_whole`)
pub whole_uses : (x : Float) (v : ℕ) → Is x v → Uses x
whole_uses x v i = counted x v i

module _ (setting : ℕ) (pieces : List (List ℕ)) (scores uses : List Float) (used : (id : ℕ) → id < length pieces → Uses (get_or uses id nan)) where
  -- a loss is never NaN nor negative
  pub not_below : (id : ℕ) → id < length pieces → T (from_nought (loss_at setting pieces scores uses id))
  not_below id l = loss_sign (get_or uses id nan) (get_or scores id nan) _ (used id l)

  -- "so their bit patterns order as they do"
  pub in_order : (i j : ℕ) → i < length pieces → j < length pieces
      → lt (loss_at setting pieces scores uses i) (loss_at setting pieces scores uses j) ≡ ltb (to_bits binary64 (loss_at setting pieces scores uses i)) (to_bits binary64 (loss_at setting pieces scores uses j))
  in_order i j a b =
      bits_order (loss_at setting pieces scores uses i) (loss_at setting pieces scores uses j)
      (loss_fits (get_or uses i nan) (get_or scores i nan) _) (loss_fits (get_or uses j nan) (get_or scores j nan) _) (not_below i a) (not_below j b)

  -- the same of the slots that `losses` fills
  pub slots_in_order : (bits : List ℕ) → bits ≡ bits_of (losses_of setting pieces scores uses) → (i j : ℕ) → i < length pieces → j < length pieces
      → lt (loss_at setting pieces scores uses i) (loss_at setting pieces scores uses j) ≡ ltb (get_or bits i 0) (get_or bits j 0)
  slots_in_order bits e i j a b =
      let slot : (k : ℕ) → k < length pieces → get_or bits k 0 ≡ to_bits binary64 (loss_at setting pieces scores uses k) =
      λ k l. ap (λ (xs : List ℕ). get_or xs k 0) e ∙ bits_at (loss_at setting pieces scores uses) (length pieces) k l in
      in_order i j a b ∙ ap₂ ltb (sym (slot i a)) (sym (slot j b))
