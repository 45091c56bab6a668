-- The cut of t to a grid whose step is G = 2 ^ suc h units: ((t - G / 2) + C) - C, for C = 3 * 2 ^ 51 * G, is j * G with j * G ≤ t ≤ (j + 1) * G. Assumes nothing.
use mathlib.Core.Path.{◌≡◌, sym, ap, ◌∙◌, subst}
use Prim.Native.Nat.{ℕ, suc, ◌+◌, ◌-◌, ◌*◌, ◌^◌, ◌≤◌, ◌<◌}
use native.Mathlib.Nat.{le_trans, le_of_eq, le_of_lt, lt_of_lt_of_le, lt_of_le_of_lt, lt_of_not-le, not-le_of_lt, mul_comm, mul_assoc, mul-lt-mul_of_pos_right, mul-le-mul_right, le_of_mul-le-mul_right, lt_of_mul-lt-mul_right, mul-pos, mul-div_cancel, mul-sub, sub-le}
use native.Mathlib.Omega.{arith}
use mathlib.Core.Bool.{true, false}
use lib.Dec.{lit<}
use lib.Pow.{pow-add, pow_pos, pow_mono, pow-lt}
use lib.Ieee.{Float, binary64, size, round, add, sub}
use lib.Ieee.Digits.{size-lt, size-le}
use lib.Ieee.Fits.{round_is}
use lib.Ieee.Exact.{HasValue, round_exact, units_val}
use lib.Ieee.Nearest.{closest, closest_mono}
use lib.Ieee.Order.{drop, kept}
use lib.Ieee.Scale.{grid, round_val}
use Rattle.rounding.specs.Units.{Is}
use Rattle.rounding.specs.Grid.{Cut}
use Rattle.rounding.proofs.Nearest.{closest_half, closest_le, grid_top}
use Rattle.rounding.proofs.Operations.{add_units, sub_units, sub_past, add_past}

-- ---- exact sums and differences
-- q * 2 ^ j units, with a q of 53 digits
exact : (z : Float) (n q j : ℕ) → z ≡ round binary64 false n (2 ^ 1074) → n ≡ q * 2 ^ j → q < 2 ^ 53 → j ≤ 2044 → Is z n
exact z n q j r e l m =
    subst (λ (z : Float). Is z n) (sym r) (round_exact binary64 false n (2 ^ 1074) q j (pow_pos 1074) l (lt_of_lt_of_le (mul-lt-mul_of_pos_right l (pow_pos j)) (le_trans (le_of_eq (sym (pow-add 2 53 j))) (pow_mono (fit j m)))) (ap (λ (z : ℕ). z * 2 ^ 1074) e))
  where
    fit : (j : ℕ) → j ≤ 2044 → 53 + j ≤ 2098
    fit j m = omega arith

pub add_exact : (x y : Float) (a b q j : ℕ) → Is x a → Is y b → a + b ≡ q * 2 ^ j → q < 2 ^ 53 → j ≤ 2044 → Is (add binary64 x y) (a + b)
add_exact x y a b q j p r e l m = exact (add binary64 x y) (a + b) q j (add_units x y a b p r) e l m

pub sub_exact : (x y : Float) (a b q j : ℕ) → Is x a → Is y b → b ≤ a → a - b ≡ q * 2 ^ j → q < 2 ^ 53 → j ≤ 2044 → Is (sub binary64 x y) (a - b)
sub_exact x y a b q j p r o e l m = exact (sub binary64 x y) (a - b) q j (sub_units x y a b p r o) e l m

-- ---- a sum between 2 ^ (h + 53) and 2 ^ (h + 54) units is rounded to a multiple of 2 ^ suc h
size_is : (n j : ℕ) → 2 ^ j ≤ n → n < 2 ^ suc j → size n ≡ suc j
size_is n j h k = join (size n) j (size-le n (suc j) k) (lt_of_not-le (λ (g : size n ≤ j). not-le_of_lt (lt_of_lt_of_le (size-lt n) (pow_mono g)) h))
  where
    join : (s j : ℕ) → s ≤ suc j → j < s → s ≡ suc j
    join s j a b = omega arith

pub double : (h : ℕ) → 2 ^ suc h ≡ 2 ^ h * 2
double h = omega arith

pub record Snap (z : Float) (y h : ℕ) : Type 0 where
  pub k : ℕ
  pub is : Is z (k * 2 ^ suc h)
  pub above : k * 2 ^ suc h * 2 ≤ y * 2 + 2 ^ suc h
  pub under : y * 2 ≤ k * 2 ^ suc h * 2 + 2 ^ suc h
  pub reach : (a : ℕ) → a * 2 ^ h ≤ y → closest a 2 ≤ k

pub snap : (y h : ℕ) → h ≤ 2000 → 2 ^ (53 + h) ≤ y → y < 2 ^ suc (53 + h) → Snap (round binary64 false y (2 ^ 1074)) y h
snap y h H lo hi =
    let U = 2 ^ 1074 in
    let n = y * U in
    let G = 2 ^ suc h in
    let d : drop 53 n U ≡ suc h = ap (λ (z : ℕ). size z - 53) (mul-div_cancel y (pow_pos 1074)) ∙ ap (λ (z : ℕ). z - 53) (size_is y (53 + h) lo hi) ∙ off h in
    let c = closest n (U * G) in
    let g : grid binary64 y U ≡ c * G = ap (λ (z : ℕ). closest n (U * 2 ^ z) * 2 ^ z) d in
    let f = closest_half n (U * G) (mul-pos (pow_pos 1074) (pow_pos (suc h))) in
    let t : c * G ≤ 2 ^ suc (53 + h) = le_trans (mul-le-mul_right G (closest_le n (U * G) (2 ^ 53) (mul-pos (pow_pos 1074) (pow_pos (suc h))) (roof y U (2 ^ suc (53 + h)) (2 ^ 53) G (le_of_lt hi) (whole h)))) (le_of_eq (sym (whole h))) in
    record {
      k = c;
      is = subst (λ (z : ℕ). Is (round binary64 false y U) z) g (round_val binary64 y U (lt_of_le_of_lt (le_trans (le_of_eq g) t) (pow-lt (far h H))));
      above = cut U (c * G * 2) (y * 2 + G) (pow_pos 1074) (move_above U c G y f.0);
      under = cut U (y * 2) (c * G * 2 + G) (pow_pos 1074) (move_under U c G y f.1);
      reach = λ (a : ℕ) (l : a * 2 ^ h ≤ y). closest_mono a 2 n (U * G) (lit< tt) (mul-pos (pow_pos 1074) (pow_pos (suc h))) (scale a U (2 ^ h) G y (double h) l);
    }
  where
    off : (h : ℕ) → suc (53 + h) - 53 ≡ suc h
    off h = omega arith

    whole : (h : ℕ) → 2 ^ suc (53 + h) ≡ 2 ^ 53 * 2 ^ suc h
    whole h = ap (λ (z : ℕ). 2 ^ z) (shift h) ∙ pow-add 2 53 (suc h)
      where
        shift : (h : ℕ) → suc (53 + h) ≡ 53 + suc h
        shift h = omega arith

    far : (h : ℕ) → h ≤ 2000 → suc (53 + h) < 2098
    far h H = omega arith

    roof : (y U B q G : ℕ) → y ≤ B → B ≡ q * G → y * U ≤ q * (U * G)
    roof y U B q G l e = le_trans (mul-le-mul_right U l) (le_of_eq (ap (λ (z : ℕ). z * U) e ∙ mul_assoc q G U ∙ ap (λ (z : ℕ). q * z) (mul_comm G U)))

    cut : (U a b : ℕ) → 0 < U → a * U ≤ b * U → a ≤ b
    cut U a b p l = le_of_mul-le-mul_right l p

    move_above : (U c G y : ℕ) → c * (U * G) * 2 ≤ y * U * 2 + U * G → c * G * 2 * U ≤ (y * 2 + G) * U
    move_above U c G y l = omega arith

    move_under : (U c G y : ℕ) → y * U * 2 ≤ c * (U * G) * 2 + U * G → y * 2 * U ≤ (c * G * 2 + G) * U
    move_under U c G y l = omega arith

    scale : (a U p G y : ℕ) → G ≡ p * 2 → a * p ≤ y → a * (U * G) ≤ y * U * 2
    scale a U p G y e l = subst (λ (z : ℕ). a * (U * z) ≤ y * U * 2) (sym e) (go a U p y l)
      where
        go : (a U p y : ℕ) → a * p ≤ y → a * (U * (p * 2)) ≤ y * U * 2
        go a U p y l = omega (arith, mul-le-mul_right U l)

-- ---- a negative value, by its units
round_val_neg : (a c : ℕ) → grid binary64 a c < 2 ^ 2098 → HasValue (round binary64 true a c) true (grid binary64 a c) (2 ^ 1074)
round_val_neg a c h = subst (λ (z : Float). HasValue z true (grid binary64 a c) (2 ^ 1074)) (sym (round_is binary64 true a c)) (units_val binary64 true (kept 53 (a * 2 ^ 1074) c) (drop 53 (a * 2 ^ 1074) c) h)

-- ---- the cut
-- from z = k * G units, with z between C and C + t
after : (z C : Float) (t h k : ℕ) → h ≤ 2000 → Is z (k * 2 ^ suc h) → Is C (6755399441055744 * 2 ^ suc h) → 6755399441055744 ≤ k
    → k * 2 ^ suc h ≤ t + 6755399441055744 * 2 ^ suc h → t + 6755399441055744 * 2 ^ suc h ≤ suc k * 2 ^ suc h → t < 2 ^ 53 * 2 ^ suc h → Cut (sub binary64 z C) t h
after z C t h k H iz ic m lo hi s =
    let G = 2 ^ suc h in
    let M : ℕ = 6755399441055744 in
    let e : k * G - M * G ≡ (k - M) * G = part_of k M G in
    let a : (k - M) * G ≤ t = low k M G t m lo in
    record {
      j = k - M;
      is = subst (λ (v : ℕ). Is (sub binary64 z C) v) e (sub_exact z C (k * G) (M * G) (k - M) (suc h) iz ic (mul-le-mul_right G m) e (lt_of_mul-lt-mul_right G (lt_of_le_of_lt a s)) (more h H));
      under = a;
      above = high k M G t m hi;
    }
  where
    part_of : (k M G : ℕ) → k * G - M * G ≡ (k - M) * G
    part_of k M G = sym (mul_comm (k - M) G ∙ mul-sub G k M ∙ ap (λ (z : ℕ). z - G * M) (mul_comm G k) ∙ ap (λ (z : ℕ). k * G - z) (mul_comm G M))

    low : (k M G t : ℕ) → M ≤ k → k * G ≤ t + M * G → (k - M) * G ≤ t
    low k M G t m l = le_trans (le_of_eq (sym (part_of k M G))) (go (k * G) (M * G) t l)
      where
        go : (a b t : ℕ) → a ≤ t + b → a - b ≤ t
        go a b t l = omega arith

    high : (k M G t : ℕ) → M ≤ k → t + M * G ≤ suc k * G → t ≤ suc (k - M) * G
    high k M G t m l = go (k - M) k M G t (rest k M m) l
      where
        rest : (k M : ℕ) → M ≤ k → k ≡ k - M + M
        rest k M m = omega arith

        go : (j k M G t : ℕ) → k ≡ j + M → t + M * G ≤ suc k * G → t ≤ suc j * G
        go j k M G t e l = omega (arith, ap (λ (z : ℕ). z * G) e)

    more : (h : ℕ) → h ≤ 2000 → suc h ≤ 2044
    more h H = omega arith

-- M * G is twice that of halves
halves : (h : ℕ) → 6755399441055744 * 2 ^ suc h ≡ 13510798882111488 * 2 ^ h
halves h = omega (arith, double h)

pow53 : (h : ℕ) → 2 ^ (53 + h) ≡ 9007199254740992 * 2 ^ h
pow53 h = pow-add 2 53 h

pow54 : (h : ℕ) → 2 ^ suc (53 + h) ≡ 18014398509481984 * 2 ^ h
pow54 h = ap (λ (z : ℕ). 2 ^ z) (shift h) ∙ pow-add 2 54 h
  where
    shift : (h : ℕ) → suc (53 + h) ≡ 54 + h
    shift h = omega arith

-- t at least G / 2, and t - G / 2 exact
pub cut_large : (d C t : Float) (a h q s : ℕ) → h ≤ 2000 → Is t a → Is d (2 ^ h) → Is C (6755399441055744 * 2 ^ suc h) → 2 ^ h ≤ a → a - 2 ^ h ≡ q * 2 ^ s → q < 2 ^ 53 → s ≤ 2044
    → a < 4503599627370496 * 2 ^ h → Cut (sub binary64 (add binary64 (sub binary64 t d) C) C) a h
cut_large d C t a h q s H it id ic l e f g u =
    let p = 2 ^ h in
    let G = 2 ^ suc h in
    let w : Is (sub binary64 t d) (a - p) = sub_exact t d a p q s it id l e f g in
    let y = a - p + 6755399441055744 * G in
    let n = snap y h H (le_trans (le_of_eq (pow53 h)) (lo p G a (double h))) (lt_of_lt_of_le (hi p G a (double h) u) (le_of_eq (sym (pow54 h)))) in
    let z = add binary64 (sub binary64 t d) C in
    let i : Is z (n.k * G) = subst (λ (x : Float). Is x (n.k * G)) (sym (add_units (sub binary64 t d) C (a - p) (6755399441055744 * G) w ic)) n.is in
    after z C a h n.k H i ic (n.reach 13510798882111488 (floor p G a (double h))) (above p G a n.k (double h) l n.above) (under p G a n.k (double h) l n.under)
    (lt_of_lt_of_le u (roof p G (double h)))
  where
    lo : (p G a : ℕ) → G ≡ p * 2 → 9007199254740992 * p ≤ a - p + 6755399441055744 * G
    lo p G a e = omega arith

    hi : (p G a : ℕ) → G ≡ p * 2 → a < 4503599627370496 * p → a - p + 6755399441055744 * G < 18014398509481984 * p
    hi p G a e u = omega arith

    floor : (p G a : ℕ) → G ≡ p * 2 → 13510798882111488 * p ≤ a - p + 6755399441055744 * G
    floor p G a e = omega arith

    above : (p G a k : ℕ) → G ≡ p * 2 → p ≤ a → k * G * 2 ≤ (a - p + 6755399441055744 * G) * 2 + G → k * G ≤ a + 6755399441055744 * G
    above p G a k e l n = go (k * G) G p a e l n
      where
        go : (x G p a : ℕ) → G ≡ p * 2 → p ≤ a → x * 2 ≤ (a - p + 6755399441055744 * G) * 2 + G → x ≤ a + 6755399441055744 * G
        go x G p a e l n = omega arith

    under : (p G a k : ℕ) → G ≡ p * 2 → p ≤ a → (a - p + 6755399441055744 * G) * 2 ≤ k * G * 2 + G → a + 6755399441055744 * G ≤ suc k * G
    under p G a k e l n = le_trans (go (k * G) G p a e l n) (le_of_eq (one k G))
      where
        go : (x G p a : ℕ) → G ≡ p * 2 → p ≤ a → (a - p + 6755399441055744 * G) * 2 ≤ x * 2 + G → a + 6755399441055744 * G ≤ x + G
        go x G p a e l n = omega arith

        one : (k G : ℕ) → k * G + G ≡ suc k * G
        one k G = omega arith

    roof : (p G : ℕ) → G ≡ p * 2 → 4503599627370496 * p ≤ 9007199254740992 * G
    roof p G e = omega arith

-- t below G / 2
pub cut_small : (d C t : Float) (a h : ℕ) → h ≤ 1074 → Is t a → Is d (2 ^ h) → Is C (6755399441055744 * 2 ^ suc h) → a < 2 ^ h → Cut (sub binary64 (add binary64 (sub binary64 t d) C) C) a h
cut_small d C t a h H it id ic u =
    let p = 2 ^ h in
    let G = 2 ^ suc h in
    let U = 2 ^ 1074 in
    let v = grid binary64 (p - a) U in
    let top : v ≤ p = grid_top (p - a) U h (pow_pos 1074) (le_trans (mul-le-mul_right U (sub-le p a)) (le_of_eq (mul_comm p U))) in
    let w : HasValue (sub binary64 t d) true v U = subst (λ (x : Float). HasValue x true v U) (sym (sub_past t d a p it id u)) (round_val_neg (p - a) U (lt_of_le_of_lt top (pow-lt (far h H)))) in
    let y = 6755399441055744 * G - v in
    let n = snap y h (near h H) (le_trans (le_of_eq (pow53 h)) (lo p G v (double h) top)) (lt_of_lt_of_le (hi p G v (double h) (pow_pos h)) (le_of_eq (sym (pow54 h)))) in
    let z = add binary64 (sub binary64 t d) C in
    let i : Is z (n.k * G) = subst (λ (x : Float). Is x (n.k * G)) (sym (add_past (sub binary64 t d) C v (6755399441055744 * G) w ic (less p G v (double h) (pow_pos h) top))) n.is in
    let m : 6755399441055744 ≤ n.k = n.reach 13510798882111487 (floor p G v (double h) top) in
    let k : n.k ≤ 6755399441055744 = ceil p G v n.k (double h) (pow_pos h) n.above in
    after z C a h n.k (near h H) i ic m (le_trans (mul-le-mul_right G k) (grow a (6755399441055744 * G))) (le_trans (last p G a (double h) u) (mul-le-mul_right G (suc_le m))) (tiny p G a (double h) u)
  where
    far : (h : ℕ) → h ≤ 1074 → h < 2098
    far h H = omega arith

    near : (h : ℕ) → h ≤ 1074 → h ≤ 2000
    near h H = omega arith

    lo : (p G v : ℕ) → G ≡ p * 2 → v ≤ p → 9007199254740992 * p ≤ 6755399441055744 * G - v
    lo p G v e l = omega arith

    hi : (p G v : ℕ) → G ≡ p * 2 → 0 < p → 6755399441055744 * G - v < 18014398509481984 * p
    hi p G v e l = omega arith

    less : (p G v : ℕ) → G ≡ p * 2 → 0 < p → v ≤ p → v < 6755399441055744 * G
    less p G v e l t = omega arith

    floor : (p G v : ℕ) → G ≡ p * 2 → v ≤ p → 13510798882111487 * p ≤ 6755399441055744 * G - v
    floor p G v e l = omega arith

    ceil : (p G v k : ℕ) → G ≡ p * 2 → 0 < p → k * G * 2 ≤ (6755399441055744 * G - v) * 2 + G → k ≤ 6755399441055744
    ceil p G v k e z n = whole k (le_of_mul-le-mul_right (go p G v k e n) z)
      where
        go : (p G v k : ℕ) → G ≡ p * 2 → k * G * 2 ≤ (6755399441055744 * G - v) * 2 + G → k * 4 * p ≤ 27021597764222978 * p
        go p G v k e n = omega (arith, ap (λ (x : ℕ). k * x) e)

        whole : (k : ℕ) → k * 4 ≤ 27021597764222978 → k ≤ 6755399441055744
        whole k h = omega arith

    grow : (a b : ℕ) → b ≤ a + b
    grow a b = omega arith

    suc_le : {m n : ℕ} → m ≤ n → suc m ≤ suc n
    suc_le {m} {n} h = omega arith

    last : (p G a : ℕ) → G ≡ p * 2 → a < p → a + 6755399441055744 * G ≤ 6755399441055745 * G
    last p G a e u = omega arith

    tiny : (p G a : ℕ) → G ≡ p * 2 → a < p → a < 9007199254740992 * G
    tiny p G a e u = omega arith
