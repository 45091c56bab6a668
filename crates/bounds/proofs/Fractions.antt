-- From units to the fractions that the bounds speak of. z units are the fraction nz / dz, with nz * U = z * dz; S is twice the error in units, and 1 / W the slack. Assumes nothing.
use mathlib.Core.Path.{◌≡◌, sym, ap, ◌∙◌}
use Prim.Native.Nat.{ℕ, ◌+◌, ◌*◌, ◌≤◌, ◌<◌}
use native.Mathlib.Nat.{le_trans, le_of_eq, mul_comm, mul_assoc, mul_left_comm, mul-le-mul_right, le_of_mul-le-mul_right, mul-pos}
use native.Mathlib.Omega.{arith}
use lib.Dec.{lit<}
use Rattle.bounds.specs.Fraction.{Fraction, Within, whole, half, inverse, ◌⊞◌, ◌⊠◌}

abbrev pub frac : ℕ → ℕ → Fraction
frac n d = record { over = n; under = d }

-- ---- 1 - t ≤ r, for exp and, with x for t, for ln
below_one_raw : (U S W r t nr dr nt dt : ℕ) → 0 < U → nr * U ≡ r * dr → nt * U ≡ t * dt → S * W ≤ U * 2 → U * 2 ≤ r * 2 + t * 2 + S → dt * dr * W ≤ (nr * dt + nt * dr) * W + dt * dr
below_one_raw U S W r t nr dr nt dt z er et s h = le_of_mul-le-mul_right go (mul-pos z (lit< tt))
  where
    go : dt * dr * W * (U * 2) ≤ ((nr * dt + nt * dr) * W + dt * dr) * (U * 2)
    go =
        let A = mul-le-mul_right (dt * dr * W) h in
        let B = ap (λ (z : ℕ). z * (dt * W)) er in
        let C = ap (λ (z : ℕ). z * (dr * W)) et in
        let D = mul-le-mul_right (dt * dr) s in
        omega (arith, A, B, C, D)

-- ---- r ≤ 1 - t + t² / 2, for exp
exp_high_raw : (U S W r t nr dr nt dt : ℕ) → 0 < U → nr * U ≡ r * dr → nt * U ≡ t * dt → S * W ≤ U * 2 → r * U * 2 + t * U * 2 ≤ U * U * 2 + t * t + U * S
    → (nr * dt + nt * dr) * dt * 2 * W ≤ (dt * dt * 2 + nt * nt) * dr * W + dt * dt * dr * 2
exp_high_raw U S W r t nr dr nt dt z er et s h =
    let UU = U * U in
    let D = dt * dt in
    let K = dr * (D * W) in
    let x1 : r * U * K ≡ nr * D * W * UU = simp (mul_assoc, mul_comm, mul_left_comm) (simp (mul_assoc, mul_comm, mul_left_comm) at (ap (λ (z : ℕ). z * (U * (D * W))) (sym er))) in
    let x2 : t * U * K ≡ nt * dr * dt * W * UU = simp (mul_assoc, mul_comm, mul_left_comm) (simp (mul_assoc, mul_comm, mul_left_comm) at (ap (λ (z : ℕ). z * (U * (dr * (dt * W)))) (sym et))) in
    let x3 : t * t * K ≡ nt * nt * dr * W * UU = simp (mul_assoc, mul_comm, mul_left_comm) (simp (mul_assoc, mul_comm, mul_left_comm) at (ap (λ (z : ℕ). z * z * (dr * W)) (sym et))) in
    let x4 : U * S * K ≤ U * 2 * (U * (dr * D)) = le_trans (le_of_eq (simp (mul_assoc, mul_comm, mul_left_comm))) (mul-le-mul_right (U * (dr * D)) s) in
    le_of_mul-le-mul_right
    (le_trans (le_of_eq (left nr nt dr dt W UU))
    (le_trans (lin (r * U * K) (t * U * K) (t * t * K) (U * S * K) (UU * K) (nr * D * W * UU) (nt * dr * dt * W * UU) (nt * nt * dr * W * UU) (U * 2 * (U * (dr * D))) x1 x2 x3 x4 (spread (r * U) (t * U) (t * t) (U * S) UU K h))
    (le_of_eq (right U nt dr dt W))))
    (mul-pos z z)
  where
    spread : (a b c d e K : ℕ) → a * 2 + b * 2 ≤ e * 2 + c + d → a * K * 2 + b * K * 2 ≤ e * K * 2 + c * K + d * K
    spread a b c d e K h = omega (arith, mul-le-mul_right K h)

    lin : (a b c d e a' b' c' d' : ℕ) → a ≡ a' → b ≡ b' → c ≡ c' → d ≤ d' → a * 2 + b * 2 ≤ e * 2 + c + d → a' * 2 + b' * 2 ≤ e * 2 + c' + d'
    lin a b c d e a' b' c' d' p q r s h = omega arith

    left : (nr nt dr dt W UU : ℕ) → (nr * dt + nt * dr) * dt * 2 * W * UU ≡ nr * (dt * dt) * W * UU * 2 + nt * dr * dt * W * UU * 2
    left nr nt dr dt W UU = omega arith

    right : (U nt dr dt W : ℕ) → U * U * (dr * (dt * dt * W)) * 2 + nt * nt * dr * W * (U * U) + U * 2 * (U * (dr * (dt * dt))) ≡ ((dt * dt * 2 + nt * nt) * dr * W + dt * dt * dr * 2) * (U * U)
    right U nt dr dt W = omega arith

-- ---- r ≤ y and y - y² / 2 ≤ r, for ln_1p
ln1p_high_raw : (U S W z y nz dz ny dy : ℕ) → 0 < U → nz * U ≡ z * dz → ny * U ≡ y * dy → S * W ≤ U * 2 → z * 2 ≤ y * 2 + S → nz * dy * W ≤ ny * dz * W + dy * dz
ln1p_high_raw U S W z y nz dz ny dy p ez ey s h = le_of_mul-le-mul_right go (mul-pos p (lit< tt))
  where
    go : nz * dy * W * (U * 2) ≤ (ny * dz * W + dy * dz) * (U * 2)
    go =
        let A = mul-le-mul_right (dy * dz * W) h in
        let B = ap (λ (x : ℕ). x * (dy * W)) ez in
        let D = ap (λ (x : ℕ). x * (dz * W)) ey in
        let F = mul-le-mul_right (dy * dz) s in
        omega (arith, A, B, D, F)

ln1p_low_raw : (U S W z y nz dz ny dy : ℕ) → 0 < U → nz * U ≡ z * dz → ny * U ≡ y * dy → S * W ≤ U * 2 → y * U * 2 ≤ z * U * 2 + y * y + U * S
    → ny * dy * dz * 2 * W ≤ (nz * dy * dy * 2 + ny * ny * dz) * W + dy * dy * dz * 2
ln1p_low_raw U S W z y nz dz ny dy p ez ey s h =
    let D = dy * dy in
    let K = dz * (D * W) in
    let x1 : z * U * K ≡ nz * D * W * (U * U) = simp (mul_assoc, mul_comm, mul_left_comm) (simp (mul_assoc, mul_comm, mul_left_comm) at (ap (λ (x : ℕ). x * (U * (D * W))) (sym ez))) in
    let x2 : y * U * K ≡ ny * dz * dy * W * (U * U) = simp (mul_assoc, mul_comm, mul_left_comm) (simp (mul_assoc, mul_comm, mul_left_comm) at (ap (λ (x : ℕ). x * (U * (dz * (dy * W)))) (sym ey))) in
    let x3 : y * y * K ≡ ny * ny * dz * W * (U * U) = simp (mul_assoc, mul_comm, mul_left_comm) (simp (mul_assoc, mul_comm, mul_left_comm) at (ap (λ (x : ℕ). x * x * (dz * W)) (sym ey))) in
    let x4 : U * S * K ≤ U * 2 * (U * (dz * D)) = le_trans (le_of_eq (simp (mul_assoc, mul_comm, mul_left_comm))) (mul-le-mul_right (U * (dz * D)) s) in
    le_of_mul-le-mul_right
    (le_trans (le_of_eq (left ny dy dz W (U * U)))
    (le_trans (lin (z * U * K) (y * U * K) (y * y * K) (U * S * K) (nz * D * W * (U * U)) (ny * dz * dy * W * (U * U)) (ny * ny * dz * W * (U * U)) (U * 2 * (U * (dz * D))) x1 x2 x3 x4 (spread (y * U) (z * U) (y * y) (U * S) K h))
    (le_of_eq (right U nz ny dz dy W))))
    (mul-pos p p)
  where
    spread : (a b c d K : ℕ) → a * 2 ≤ b * 2 + c + d → a * K * 2 ≤ b * K * 2 + c * K + d * K
    spread a b c d K h = omega (arith, mul-le-mul_right K h)

    lin : (a b c d a' b' c' d' : ℕ) → a ≡ a' → b ≡ b' → c ≡ c' → d ≤ d' → b * 2 ≤ a * 2 + c + d → b' * 2 ≤ a' * 2 + c' + d'
    lin a b c d a' b' c' d' p q r s h = omega arith

    left : (ny dy dz W UU : ℕ) → ny * dy * dz * 2 * W * UU ≡ ny * dz * dy * W * UU * 2
    left ny dy dz W UU = omega arith

    right : (U nz ny dz dy W : ℕ) → nz * (dy * dy) * W * (U * U) * 2 + ny * ny * dz * W * (U * U) + U * 2 * (U * (dz * (dy * dy))) ≡ ((nz * dy * dy * 2 + ny * ny * dz) * W + dy * dy * dz * 2) * (U * U)
    right U nz ny dz dy W = omega arith

-- ---- z ≤ 1 / x - 1, for ln
ln_high_raw : (U S W z x nz dz nx dx : ℕ) → 0 < U → nz * U ≡ z * dz → nx * U ≡ x * dx → S * W ≤ x * 2 → (z + U) * x * 2 ≤ U * U * 2 + U * S → (nz + dz) * nx * W ≤ dz * dx * W + nx * dz
ln_high_raw U S W z x nz dz nx dx p ez ex s h =
    let UU = U * U in
    let K = dz * (dx * W) in
    let x1 : z * x * K ≡ nz * nx * W * UU = simp (mul_assoc, mul_comm, mul_left_comm) (simp (mul_assoc, mul_comm, mul_left_comm) at (ap (λ (y : ℕ). y * (x * dx) * W) (sym ez) ∙ ap (λ (y : ℕ). nz * U * y * W) (sym ex))) in
    let x2 : U * x * K ≡ dz * nx * W * UU = simp (mul_assoc, mul_comm, mul_left_comm) (simp (mul_assoc, mul_comm, mul_left_comm) at (ap (λ (y : ℕ). dz * U * W * y) (sym ex))) in
    let x3 : x * 2 * (U * (dz * dx)) ≡ nx * dz * 2 * UU = simp (mul_assoc, mul_comm, mul_left_comm) (simp (mul_assoc, mul_comm, mul_left_comm) at (ap (λ (y : ℕ). y * (2 * (U * dz))) (sym ex))) in
    let x4 : U * S * K ≤ x * 2 * (U * (dz * dx)) = le_trans (le_of_eq (simp (mul_assoc, mul_comm, mul_left_comm))) (mul-le-mul_right (U * (dz * dx)) s) in
    le_of_mul-le-mul_right
    (le_trans (le_of_eq (left nz dz nx W UU))
    (le_trans (lin (z * x * K) (U * x * K) (UU * K) (U * S * K) (nz * nx * W * UU) (dz * nx * W * UU) (nx * dz * 2 * UU) x1 x2 (le_trans x4 (le_of_eq x3)) (spread z U x UU (U * S) K h))
    (le_of_eq (right dz dx nx W UU))))
    (mul-pos (mul-pos p p) (lit< tt))
  where
    spread : (z U x UU d K : ℕ) → (z + U) * x * 2 ≤ UU * 2 + d → z * x * K * 2 + U * x * K * 2 ≤ UU * K * 2 + d * K
    spread z U x UU d K h = omega (arith, mul-le-mul_right K h)

    lin : (a b c d a' b' d' : ℕ) → a ≡ a' → b ≡ b' → d ≤ d' → a * 2 + b * 2 ≤ c * 2 + d → a' * 2 + b' * 2 ≤ c * 2 + d'
    lin a b c d a' b' d' p q r h = omega arith

    left : (nz dz nx W UU : ℕ) → (nz + dz) * nx * W * (UU * 2) ≡ nz * nx * W * UU * 2 + dz * nx * W * UU * 2
    left nz dz nx W UU = omega arith

    right : (dz dx nx W UU : ℕ) → UU * (dz * (dx * W)) * 2 + nx * dz * 2 * UU ≡ (dz * dx * W + nx * dz) * (UU * 2)
    right dz dx nx W UU = omega arith

-- ---- the same, as the bounds say them
pub below_one : (U S W r t nr dr nt dt : ℕ) → 0 < U → nr * U ≡ r * dr → nt * U ≡ t * dt → S * W ≤ U * 2 → U * 2 ≤ r * 2 + t * 2 + S → Within W (whole 1) (frac nr dr ⊞ frac nt dt)
below_one U S W r t nr dr nt dt z er et s h = shape nr dr nt dt W (below_one_raw U S W r t nr dr nt dt z er et s h)
  where
    shape : (nr dr nt dt W : ℕ) → dt * dr * W ≤ (nr * dt + nt * dr) * W + dt * dr → 1 * (dr * dt) * W ≤ (nr * dt + nt * dr) * 1 * W + 1 * (dr * dt)
    shape nr dr nt dt W h = omega arith

pub exp_high : (U S W r t nr dr nt dt : ℕ) → 0 < U → nr * U ≡ r * dr → nt * U ≡ t * dt → S * W ≤ U * 2 → r * U * 2 + t * U * 2 ≤ U * U * 2 + t * t + U * S
    → Within W (frac nr dr ⊞ frac nt dt) (whole 1 ⊞ half (frac nt dt ⊠ frac nt dt))
exp_high U S W r t nr dr nt dt z er et s h = shape nr dr nt dt W (mul-le-mul_right dt (exp_high_raw U S W r t nr dr nt dt z er et s h))
  where
    shape : (nr dr nt dt W : ℕ) → (nr * dt + nt * dr) * dt * 2 * W * dt ≤ ((dt * dt * 2 + nt * nt) * dr * W + dt * dt * dr * 2) * dt
        → (nr * dt + nt * dr) * (1 * (dt * dt * 2)) * W ≤ (1 * (dt * dt * 2) + nt * nt * 1) * (dr * dt) * W + dr * dt * (1 * (dt * dt * 2))
    shape nr dr nt dt W h = omega arith

pub ln1p_high : (U S W z y nz dz ny dy : ℕ) → 0 < U → nz * U ≡ z * dz → ny * U ≡ y * dy → S * W ≤ U * 2 → z * 2 ≤ y * 2 + S → Within W (frac nz dz) (frac ny dy)
ln1p_high U S W z y nz dz ny dy p ez ey s h = shape nz dz ny dy W (ln1p_high_raw U S W z y nz dz ny dy p ez ey s h)
  where
    shape : (nz dz ny dy W : ℕ) → nz * dy * W ≤ ny * dz * W + dy * dz → nz * dy * W ≤ ny * dz * W + dz * dy
    shape nz dz ny dy W h = omega arith

pub ln1p_low : (U S W z y nz dz ny dy : ℕ) → 0 < U → nz * U ≡ z * dz → ny * U ≡ y * dy → S * W ≤ U * 2 → y * U * 2 ≤ z * U * 2 + y * y + U * S
    → Within W (frac ny dy) (frac nz dz ⊞ half (frac ny dy ⊠ frac ny dy))
ln1p_low U S W z y nz dz ny dy p ez ey s h = shape nz dz ny dy W (mul-le-mul_right dy (ln1p_low_raw U S W z y nz dz ny dy p ez ey s h))
  where
    shape : (nz dz ny dy W : ℕ) → ny * dy * dz * 2 * W * dy ≤ ((nz * dy * dy * 2 + ny * ny * dz) * W + dy * dy * dz * 2) * dy
        → ny * (dz * (dy * dy * 2)) * W ≤ (nz * (dy * dy * 2) + ny * ny * dz) * dy * W + dy * (dz * (dy * dy * 2))
    shape nz dz ny dy W h = omega arith

pub ln_high : (U S W z x nz dz nx dx : ℕ) → 0 < U → nz * U ≡ z * dz → nx * U ≡ x * dx → S * W ≤ x * 2 → (z + U) * x * 2 ≤ U * U * 2 + U * S → Within W (frac nz dz ⊞ whole 1) (inverse (frac nx dx))
ln_high U S W z x nz dz nx dx p ez ex s h = shape nz dz nx dx W (ln_high_raw U S W z x nz dz nx dx p ez ex s h)
  where
    shape : (nz dz nx dx W : ℕ) → (nz + dz) * nx * W ≤ dz * dx * W + nx * dz → (nz * 1 + 1 * dz) * nx * W ≤ dx * (dz * 1) * W + dz * 1 * nx
    shape nz dz nx dx W h = omega arith
