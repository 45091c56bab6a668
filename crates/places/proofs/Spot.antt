-- The place at which the walk for a key ends, by the two ranges of places that it passes.
-- Assumes nothing.
use Rattle.std.proofs.Common.{◌≡◌, ℕ, ◌+◌, ◌-◌, ◌*◌, ◌%◌, ◌<◌, ◌≤◌, ltb, List, length, get_or, subst, lt_irrefl, mod-lt, mul_comm, div-lt_iff_lt-mul, mul-lt-mul_of_pos_right, arith, lit<, ltb-false, ltb-true}
use native.Mathlib.Decide.{dec_lt}
use Rattle.laws.proofs.Choices.{cond_cases}
use Rattle.places.specs.Walk.{mixed, home_of, seek, stop_from, stop_of}
use Rattle.places.proofs.Seek.{Other, Here, Stop, seek_stop}

-- Q holds of each place that a walk from h to p of n places passes
pub record Along (n h p : ℕ) (Q : ℕ → Type 0) : Type 0 where
  pub near : (q : ℕ) → h ≤ q → q < p → Q q
  pub over : p < h → (q : ℕ) → h ≤ q → q < n → Q q
  pub under : p < h → (q : ℕ) → q < p → Q q

-- the walk for a key from h ends at r, and all that it passed is other keys
pub record Spot (keys : List ℕ) (key h r : ℕ) : Type 0 where
  pub inside : r < length keys
  pub passed : Along (length keys) h r (Other keys key)
  pub here : Here keys key r

-- some place is empty
pub record Holed (keys : List ℕ) : Type 0 where
  pub at : ℕ
  pub inside : at < length keys
  pub empty : get_or keys at 0 ≡ 0

pub home_in : (key n : ℕ) → 0 < n → home_of key n < n
unfolding home_of
home_in key n h =
    let l : mixed key % 4294967296 < 4294967296 = mod-lt (mixed key) (lit< tt) in
    (div-lt_iff_lt-mul (lit< tt)).1 (subst (λ (k : ℕ). mixed key % 4294967296 * n < k) (mul_comm 4294967296 n) (mul-lt-mul_of_pos_right l h))

module _ (keys : List ℕ) (key h : ℕ) (hl : h < length keys) where
  first : Stop keys key h (length keys) (seek keys key (length keys - h) h)
  first =
      let e : h + (length keys - h) ≡ length keys = omega arith in
      subst (λ (b : ℕ). Stop keys key h b (seek keys key (length keys - h) h)) e (seek_stop keys key (length keys - h) h)

  second : Stop keys key 0 h (seek keys key h 0)
  second = let e : 0 + h ≡ h = omega arith in subst (λ (b : ℕ). Stop keys key 0 b (seek keys key h 0)) e (seek_stop keys key h 0)

  -- a scan that stops before the end of the places
  right_spot : (r : ℕ) → Stop keys key h (length keys) r → r < length keys → Spot keys key h r
  right_spot r s l =
      let lo = s.low in
      record {
        inside = l;
        passed = record { near = s.passed; over = λ k. absurd (lt_irrefl r (omega arith)); under = λ k. absurd (lt_irrefl r (omega arith)) };
        here = s.here l;
      }

  -- a scan that goes on from the first place: it stops before h, since a place is empty
  left_spot : Holed keys → (m r : ℕ) → Stop keys key h (length keys) m → length keys ≤ m → Stop keys key 0 h r → Spot keys key h r
  left_spot o m r s l t =
      let high = s.high in
      let end : m ≡ length keys = omega arith in
      let up : (q : ℕ) → h ≤ q → q < length keys → Other keys key q = λ q x y. s.passed q x (omega arith) in
      let last = t.high in
      let short : r < h = elim (dec_lt r h) [
        | yes k ↦ k
        | no k ↦ elim (dec_lt o.at h) [
          | yes j ↦ absurd ((t.passed o.at (omega arith) (omega arith)).0 o.empty)
          | no j ↦ absurd ((up o.at (omega arith) o.inside).0 o.empty)
        ]
      ] in
      record {
        inside = omega arith;
        passed = record { near = λ q x y. absurd (lt_irrefl q (omega arith)); over = λ _. up; under = λ _ q y. t.passed q (omega arith) y };
        here = t.here short;
      }

  from_in : stop_from keys key h < length keys
  unfolding stop_from
  from_in =
      let last = second.high in
      cond_cases (λ (r : ℕ). r < length keys) (ltb (seek keys key (length keys - h) h) (length keys)) _ _
      (λ t. ltb-true _ _ t)
      (λ _. omega arith)

  from_spot : Holed keys → Spot keys key h (stop_from keys key h)
  unfolding stop_from
  from_spot o =
      cond_cases (Spot keys key h) (ltb (seek keys key (length keys - h) h) (length keys)) _ _
      (λ t. right_spot _ first (ltb-true _ _ t))
      (λ t. left_spot o _ _ first (ltb-false _ _ t) second)

-- the walk for a key ends inside the places, if there is one
pub stop_in : (keys : List ℕ) (key : ℕ) → 0 < length keys → stop_of keys key < length keys
stop_in keys key h = from_in keys key (home_of key (length keys)) (home_in key (length keys) h)

-- and at the key or an empty place, if one is empty
pub stop_spot : (keys : List ℕ) (key : ℕ) → Holed keys → Spot keys key (home_of key (length keys)) (stop_of keys key)
stop_spot keys key o =
    let i = o.inside in
    from_spot keys key (home_of key (length keys)) (home_in key (length keys) (omega arith)) o
