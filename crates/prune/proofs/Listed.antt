-- The pieces that the closed up numbers spell are the survivors. Assumes nothing.
use mathlib.Core.Path.{◌≡◌, refl, sym, ap, ap₂, ◌∙◌}
use mathlib.Core.Bool.{Bool, true, false, cond}
use mathlib.Core.List.{List, [], ◌∷◌}
use Prim.Native.Nat.{ℕ, suc, ◌+◌, ◌*◌, ◌/◌, ◌≤◌}
use native.Mathlib.Omega.{arith}
use lib.Dec.{eqb}
use lib.ListN.{length, get_or, take, drop}
use Rattle.utf8.specs.Chars.{chars_of}
use Rattle.spans.specs.Spans.{chars_at, first, listed}
use Rattle.positions.proofs.Lists.{first_cons, first_same}
use Rattle.lattice.specs.Pruning.{gone, survivors}
use Rattle.prune.specs.Compact.{surviving, twice}

module _ (text : List ℕ) where
  -- two numbers more are one piece more
  shifted : (a b : ℕ) (l : List ℕ) (k : ℕ) → chars_at text (a ∷ b ∷ l) (suc k) ≡ chars_at text l k
  shifted a b l k =
      let e : 2 * suc k ≡ suc (suc (2 * k)) = omega arith in
      let f : 2 * suc k + 1 ≡ suc (suc (2 * k + 1)) = omega arith in
      ap₂ (λ (m n : ℕ). chars_of (take (get_or (a ∷ b ∷ l) n 0) (drop (get_or (a ∷ b ∷ l) m 0) text))) e f

  one_more : (a b : ℕ) (l : List ℕ) → listed text (a ∷ b ∷ l) ≡ chars_of (take b (drop a text)) ∷ listed text l
  one_more a b l =
      let e : suc (suc (length l)) / 2 ≡ suc (length l / 2) = omega arith in
      ap (first (chars_at text (a ∷ b ∷ l))) e
      ∙ first_cons (chars_at text (a ∷ b ∷ l)) (length l / 2)
      ∙ ap (λ (x : List (List ℕ)). chars_of (take b (drop a text)) ∷ x)
      (first_same (λ k. chars_at text (a ∷ b ∷ l) (suc k)) (chars_at text l) (length l / 2) (λ k h. shifted a b l k))

  pub listed_left : (remap pieces : List ℕ) → 2 * length remap ≤ length pieces
      → listed text (surviving (twice remap) pieces) ≡ survivors remap (listed text pieces)
  listed_left [] pieces h = refl
  listed_left (r ∷ rs) [] h = absurd (omega arith)
  listed_left (r ∷ rs) (a ∷ []) h = absurd (omega arith)
  listed_left (r ∷ rs) (a ∷ b ∷ l) h = go (eqb r gone) (listed_left rs l (omega arith))
      ∙ sym (ap (survivors (r ∷ rs)) (one_more a b l))
    where
      go : (t : Bool) → listed text (surviving (twice rs) l) ≡ survivors rs (listed text l)
          → listed text (cond t (cond t (surviving (twice rs) l) (b ∷ surviving (twice rs) l))
          (a ∷ cond t (surviving (twice rs) l) (b ∷ surviving (twice rs) l)))
          ≡ cond t (survivors rs (listed text l)) (chars_of (take b (drop a text)) ∷ survivors rs (listed text l))
      go true e = e
      go false e = one_more a b (surviving (twice rs) l) ∙ ap (λ (x : List (List ℕ)). chars_of (take b (drop a text)) ∷ x) e
