-- Parts of a list that follow each other make one part. Assumes nothing.
use mathlib.Core.Path.{◌≡◌, sym, ap, ap₂, ◌∙◌, subst}
use mathlib.Core.List.{List, [], ◌∷◌, ◌++◌}
use Prim.Native.Nat.{ℕ, zero, suc, ◌+◌, ◌-◌, ◌≤◌, ◌<◌}
use native.Mathlib.Nat.{zero-add}
use native.Mathlib.Omega.{arith}
use lib.ListN.{length, get_or, take}
use lib.Seq.{slice, slice-cons, slice_empty, length-take-le}
use Rattle.cached.specs.Held.{Begins}

pub follow : (xs : List ℕ) (n a b c : ℕ) → a + n ≡ b → b ≤ c → c ≤ length xs → slice a b xs ++ slice b c xs ≡ slice a c xs
follow xs zero a b c e l m = let z : a ≡ b = omega arith in ap (λ (ys : List ℕ). ys ++ slice b c xs) (ap (λ (k : ℕ). slice k b xs) z ∙ slice_empty b xs) ∙ ap (λ (k : ℕ). slice k c xs) (sym z)
follow xs (suc n) a b c e l m =
    ap (λ (ys : List ℕ). ys ++ slice b c xs) (slice-cons a b xs 0 (omega arith) (omega arith))
    ∙ ap (λ (ys : List ℕ). get_or xs a 0 ∷ ys) (follow xs n (suc a) b c (omega arith) l m)
    ∙ sym (slice-cons a c xs 0 (omega arith) m)

-- n parts, from part w on
abbrev pub parts : (ℕ → List ℕ) → ℕ → ℕ → List ℕ
parts part w zero = []
parts part w (suc n) = part w ++ parts part (suc w) n

module _ (xs : List ℕ) (bound : ℕ → ℕ) (part : ℕ → List ℕ) where
  -- part w is what lies between bounds w and w + 1
  pub record Link (w : ℕ) : Type 0 where
    pub up : bound w ≤ bound (suc w)
    pub inside : bound (suc w) ≤ length xs
    pub is : slice (bound w) (bound (suc w)) xs ≡ part w

  abbrev pub Chain : ℕ → ℕ → Type 0
  Chain w n = (v : ℕ) → w ≤ v → v < w + n → Link v

  chain_rest : (n w : ℕ) → Chain w (suc n) → Chain (suc w) n
  chain_rest n w c v a b = c v (omega arith) (omega arith)

  reach : (n w past : ℕ) → w + n ≡ past → bound w ≤ length xs → Chain w n → (bound w ≤ bound past) × (bound past ≤ length xs)
  reach zero w past e l c = let z : w ≡ past = omega arith in (subst (λ (v : ℕ). bound w ≤ bound v) z (omega arith), subst (λ (v : ℕ). bound v ≤ length xs) z l)
  reach (suc n) w past e l c =
      let here = c w (omega arith) (omega arith) in
      let r = reach n (suc w) past (omega arith) here.inside (chain_rest n w c) in
      let u = here.up in
      let m = r.0 in
      (omega arith, r.1)

  pub chained : (n w past : ℕ) → w + n ≡ past → Chain w n → parts part w n ≡ slice (bound w) (bound past) xs
  chained zero w past e c = let z : w ≡ past = omega arith in sym (slice_empty (bound w) xs) ∙ ap (λ (v : ℕ). slice (bound w) (bound v) xs) z
  chained (suc n) w past e c =
      let here = c w (omega arith) (omega arith) in
      let r = reach n (suc w) past (omega arith) here.inside (chain_rest n w c) in
      let u = here.up in
      ap₂ ◌++◌ (sym here.is) (chained n (suc w) past (omega arith) (chain_rest n w c))
      ∙ follow xs (bound (suc w) - bound w) (bound w) (bound (suc w)) (bound past) (omega arith) r.0 r.1

  -- and so the list begins with all the parts from part 0 on
  pub chain_begins : (n : ℕ) → bound 0 ≡ 0 → Chain 0 n → Begins xs (parts part 0 n)
  chain_begins n z c =
      let r = reach n 0 n (zero-add n) (omega arith) c in
      let is : parts part 0 n ≡ take (bound n) xs = chained n 0 n (zero-add n) c ∙ ap (λ (k : ℕ). slice k (bound n) xs) z in
      let long : length (parts part 0 n) ≡ bound n = ap length is ∙ length-take-le (bound n) xs r.1 in
      ap (λ (k : ℕ). take k xs) long ∙ sym is
