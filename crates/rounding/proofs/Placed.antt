-- Where a value lies on a grid: how many steps, and what is left. Assumes nothing.
use mathlib.Core.Path.{◌≡◌, sym, ap, ◌∙◌, subst}
use mathlib.Core.Logic.{inl, inr}
use Prim.Native.Nat.{ℕ, suc, ◌-◌, ◌*◌, ◌^◌, ◌≤◌, ◌<◌}
use native.Mathlib.Nat.{le_trans, le_of_eq, le_of_lt, lt_of_lt_of_le, lt_of_le_of_lt, mul_comm, mul-sub, mul_assoc, one-mul, mul-le-mul_right, lt_of_mul-lt-mul_right}
use native.Mathlib.Omega.{arith}
use lib.Dec.{lit≤}
use lib.Pow.{pow-add}
use lib.Ieee.{Float, binary64, add, sub, of_bits}
use lib.Ieee.Digits.{back}
use Rattle.rounding.specs.Units.{Is, Digits, Whole}
use Rattle.rounding.specs.Grid.{Grid, Sound, Cut, Placed, cut, steps, index}
use Rattle.rounding.proofs.Near.{sub_near}
use Rattle.rounding.proofs.Snap.{double, cut_large, cut_small}
use Rattle.rounding.proofs.Values.{lt_or_ge}
use Rattle.rounding.proofs.Casts.{mul_whole, cast_in, cast_is}

-- ---- the cut, from a value's digits
-- ---- the cut, from a value's digits
pub taken : (m p r : ℕ) → (m * p) - r * p ≡ (m - r) * p
taken m p r = sym (mul_comm (m - r) p ∙ mul-sub p m r ∙ ap (λ (z : ℕ). z - p * r) (mul_comm p m) ∙ ap (λ (z : ℕ). m * p - z) (mul_comm p r))

less : (m r n : ℕ) → m < n → m - r < n
less m r n h = omega arith

cut_near : (d C t : Float) (h : ℕ) → h ≤ 1074 → Is d (2 ^ h) → Is C (6755399441055744 * 2 ^ suc h) → (g : Digits t) → g.m * 2 ^ g.s < 4503599627370496 * 2 ^ h → Cut (sub binary64 (add binary64 (sub binary64 t d) C) C) (g.m * 2 ^ g.s) h
cut_near d C t h H id ic g u =
    let m = g.m in
    let s = g.s in
    let a = m * 2 ^ s in
    elim (lt_or_ge a (2 ^ h)) [
      | inl l ↦ cut_small d C t a h H g.is id ic l
      | inr l ↦
          elim (lt_or_ge s h) [
            | inl b ↦
                cut_large d C t a h (m - 2 ^ (h - s)) s (far h H) g.is id ic l
                (ap (λ (z : ℕ). a - z) (ap (λ (z : ℕ). 2 ^ z) (sym (back h s (le_of_lt b))) ∙ pow-add 2 (h - s) s) ∙ taken m (2 ^ s) (2 ^ (h - s)))
                (less m (2 ^ (h - s)) (2 ^ 53) g.few) (near s h H b) u
            | inr b ↦
                let e : a ≡ m * 2 ^ (s - h) * 2 ^ h = ap (λ (z : ℕ). m * z) (ap (λ (z : ℕ). 2 ^ z) (sym (back s h b)) ∙ pow-add 2 (s - h) h) ∙ sym (mul_assoc m (2 ^ (s - h)) (2 ^ h)) in
                cut_large d C t a h (m * 2 ^ (s - h) - 1) h (far h H) g.is id ic l
                (ap (λ (z : ℕ). z - 2 ^ h) e ∙ ap (λ (z : ℕ). m * 2 ^ (s - h) * 2 ^ h - z) (sym (one-mul (2 ^ h))) ∙ taken (m * 2 ^ (s - h)) (2 ^ h) 1)
                (less (m * 2 ^ (s - h)) 1 (2 ^ 53) (lt_of_lt_of_le (lt_of_mul-lt-mul_right (2 ^ h) (lt_of_le_of_lt (le_of_eq (sym e)) u)) (lit≤ tt))) (wide h H) u
          ]
    ]
  where
    far : (h : ℕ) → h ≤ 1074 → h ≤ 2000
    far h H = omega arith

    near : (s h : ℕ) → h ≤ 1074 → s < h → s ≤ 2044
    near s h H b = omega arith

    wide : (h : ℕ) → h ≤ 1074 → h ≤ 2044
    wide h H = omega arith

-- ---- the place of t, which is below n steps
module _ (g : Grid) (h c n : ℕ) (sound : Sound g h c) (few : n ≤ 4294967296) (t : Float) (d : Digits t) (under : d.m * 2 ^ d.s < n * 2 ^ suc h) where
  halves : (p G n a : ℕ) → G ≡ p * 2 → n ≤ 4294967296 → a < n * G → a < 4503599627370496 * p
  halves p G n a e l u = lt_of_lt_of_le u (le_trans (mul-le-mul_right G l) (go p G e))
    where
      go : (p G : ℕ) → G ≡ p * 2 → 4294967296 * G ≤ 4503599627370496 * p
      go p G e = omega arith

  k : Cut (cut g t) (d.m * 2 ^ d.s) h
  k = cut_near (of_bits binary64 g.half) (of_bits binary64 g.far) t h sound.low sound.half_is sound.far_is d (halves (2 ^ h) (2 ^ suc h) n (d.m * 2 ^ d.s) (double h) few under)

  small : k.j < n
  small = lt_of_mul-lt-mul_right (2 ^ suc h) (lt_of_le_of_lt k.under under)

  narrow : k.j < 4294967296
  narrow = lt_of_lt_of_le small few

  scaled : Is (steps g t) (k.j * 2 ^ 1074)
  scaled = mul_whole (cut g t) (of_bits binary64 g.per) k.j (2 ^ suc h) c k.is sound.per_is sound.all (lt_of_lt_of_le narrow (lit≤ tt))

  index_is : index g t ≡ k.j
  index_is = cast_is (steps g t) k.j scaled narrow

  over : (j G x : ℕ) → x ≤ suc j * G → x - j * G ≤ G
  over j G x l = omega arith

  narrow_step : (h : ℕ) → h ≤ 1074 → suc h < 2098
  narrow_step h l = omega arith

  pub index_small : index g t < n
  index_small = lt_of_le_of_lt (le_of_eq index_is) small

  pub placed : Placed g h t (d.m * 2 ^ d.s)
  placed = record {
    is = subst (λ (j : ℕ). Is (cut g t) (j * 2 ^ suc h)) (sym index_is) k.is;
    under = subst (λ (j : ℕ). j * 2 ^ suc h ≤ d.m * 2 ^ d.s) (sym index_is) k.under;
    defined = cast_in (steps g t) k.j scaled narrow;
    left = subst (λ (j : ℕ). Whole (sub binary64 t (cut g t)) (d.m * 2 ^ d.s - j * 2 ^ suc h) (suc h)) (sym index_is)
        (sub_near t (cut g t) (d.m * 2 ^ d.s) (k.j * 2 ^ suc h) (suc h) d.is k.is k.under (narrow_step h sound.low) (over k.j (2 ^ suc h) (d.m * 2 ^ d.s) k.above));
  }
