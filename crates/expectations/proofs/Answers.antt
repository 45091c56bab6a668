-- What the passes together answer, for a finite sum and for any other. Assumes nothing.
use mathlib.Core.Path.{◌≡◌, refl, sym, ap, ap₂, ◌∙◌}
use mathlib.Core.Bool.{Bool, true, false, cond}
use mathlib.Core.List.{List, ◌++◌}
use Prim.Native.Nat.{ℕ, zero, suc, ◌+◌, ◌≤◌}
use native.Mathlib.Numerals.{add-one}
use native.Mathlib.Omega.{arith}
use lib.ListN.{length, get_or, take, drop, replicate, get_or-append}
use lib.Seq.{take_at}
use lib.Ieee.{Float, nan, inf}
use lib.Ieee.Scale.{finite}
use Rattle.math.specs.Steps.{zero as nought}
use Rattle.connected.specs.Word.{low, high}
use Rattle.expectations.specs.Sums.{shares, alphas, sum_of, beta_at, shares_to, expected_sum, expected_shares, Holds}
use Rattle.expectations.proofs.Ends.{length_alphas}

module _ (offsets starts ids : List ℕ) (scores : List Float) (n : ℕ) where
  -- ---- the definition, by whether the sum is finite
  sum_by : (t : Bool) → finite (sum_of offsets starts ids scores n) ≡ t → expected_sum offsets starts ids scores n ≡ cond t (sum_of offsets starts ids scores n) (inf true)
  unfolding expected_sum
  sum_by t e = ap (λ (b : Bool). cond b (sum_of offsets starts ids scores n) (inf true)) e

  abbrev told : List Float
  told = shares_to offsets starts ids scores (alphas offsets starts ids scores n) (beta_at offsets starts ids scores n) (sum_of offsets starts ids scores n) (suc n)

  shares_by : (t : Bool) → finite (sum_of offsets starts ids scores n) ≡ t → expected_shares offsets starts ids scores n ≡ cond t told (replicate (length starts) nought)
  unfolding expected_shares
  shares_by t e = ap (λ (b : Bool). cond b told (replicate (length starts) nought)) e

  -- shares by sums that are the same at the ends that count
  same_shares : (h : List Float) (z : Float) (b c : ℕ → Float) → ((p : ℕ) → p ≤ n → b p ≡ c p) → (p : ℕ) → p ≤ suc n → shares_to offsets starts ids scores h b z p ≡ shares_to offsets starts ids scores h c z p
  same_shares h z b c same zero l = refl
  same_shares h z b c same (suc p) l = ap₂ (λ (x : List Float) (y : Float). x ++ shares starts ids scores h y z (low offsets p) (high offsets p)) (same_shares h z b c same p (omega arith)) (same p (omega arith))

  -- ---- after the forward pass
  module _ (alpha a : List Float) (forward : a ≡ alphas offsets starts ids scores n ++ drop (n + 1) alpha) where
    sum_read : get_or a n nan ≡ sum_of offsets starts ids scores n
    sum_read = let l = length_alphas offsets starts ids scores n in ap (λ (x : List Float). get_or x n nan) forward ∙ get_or-append (alphas offsets starts ids scores n) (drop (n + 1) alpha) nan n (omega arith)

    sums_read : take (n + 1) a ≡ alphas offsets starts ids scores n
    sums_read = ap (take (n + 1)) forward ∙ take_at (alphas offsets starts ids scores n) (drop (n + 1) alpha) (n + 1) (length_alphas offsets starts ids scores n)

    tested : {t : Bool} (b : Bool) → t ≡ finite (get_or a n nan) → t ≡ b → finite (sum_of offsets starts ids scores n) ≡ b
    tested b t e = ap finite (sym sum_read) ∙ sym t ∙ e

    pub answer_none : (base : List Float) {t : Bool} {r : Float} {e : List Float} → t ≡ finite (get_or a n nan) → t ≡ false → r ≡ inf true → e ≡ replicate (length starts) nought ++ drop (length starts) base
        → (r ≡ expected_sum offsets starts ids scores n) × (e ≡ expected_shares offsets starts ids scores n ++ drop (length starts) base)
    answer_none base t f i e =
        (i ∙ sym (sum_by false (tested false t f)), e ∙ ap (λ (x : List Float). x ++ drop (length starts) base) (sym (shares_by false (tested false t f))))

    pub answer_some : (base : List Float) {t : Bool} {b e : List Float} → t ≡ finite (get_or a n nan) → t ≡ true → Holds offsets starts ids scores n n b
        → e ≡ shares_to offsets starts ids scores (take (n + 1) a) (λ p. get_or b p nan) (get_or a n nan) (n + 1) ++ drop (length starts) base
        → (get_or a n nan ≡ expected_sum offsets starts ids scores n) × (e ≡ expected_shares offsets starts ids scores n ++ drop (length starts) base)
    answer_some base {b = b} t f holds e =
        let by = tested true t f in
        let all : shares_to offsets starts ids scores (take (n + 1) a) (λ p. get_or b p nan) (get_or a n nan) (n + 1) ≡ told =
        ap₂ (λ (h : List Float) (z : Float). shares_to offsets starts ids scores h (λ p. get_or b p nan) z (n + 1)) sums_read sum_read
        ∙ ap (shares_to offsets starts ids scores (alphas offsets starts ids scores n) (λ p. get_or b p nan) (sum_of offsets starts ids scores n)) (add-one n)
        ∙ same_shares (alphas offsets starts ids scores n) (sum_of offsets starts ids scores n) (λ p. get_or b p nan) (beta_at offsets starts ids scores n) holds.each (suc n) (omega arith) in
        (sum_read ∙ sym (sum_by true by), e ∙ ap (λ (x : List Float). x ++ drop (length starts) base) (all ∙ sym (shares_by true by)))
