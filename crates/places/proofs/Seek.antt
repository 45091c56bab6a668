-- `seek`: its turns, for the loop of `scan`, and where it ends.
-- Assumes nothing.
use Rattle.std.proofs.Common.{◌≡◌, ℕ, zero, suc, ◌+◌, ◌-◌, ◌<◌, ◌≤◌, cond, eqb, ◌⊎◌, List, get_or, sym, refl, ap, ◌∙◌, subst, inl, inr, lt_irrefl, arith, eq-eqb, ne_eqb, eqb-true}
use native.Mathlib.Decide.{dec_lt}
use borrow.Author.Tests.{eqb-false}
use Rattle.laws.proofs.Choices.{cond_cases}
use Rattle.places.specs.Walk.{seek}

-- a place that is not empty
abbrev pub Busy : List ℕ → ℕ → Type 0
Busy keys q = get_or keys q 0 ≡ 0 → ⊥

-- a place that the walk for a key passes: not empty, and not the key's
abbrev pub Other : List ℕ → ℕ → ℕ → Type 0
Other keys key q = Busy keys q × (get_or keys q 0 ≡ key → ⊥)

-- where a walk for the key may stop
abbrev pub Here : List ℕ → ℕ → ℕ → Type 0
Here keys key q = (get_or keys q 0 ≡ key) ⊎ (get_or keys q 0 ≡ 0)

module _ (keys : List ℕ) (key k p : ℕ) where
  seek_key : get_or keys p 0 ≡ key → seek keys key (suc k) p ≡ p
  unfolding seek
  seek_key e = rw (eq-eqb (get_or keys p 0) key e)

  seek_hole : get_or keys p 0 ≡ 0 → seek keys key (suc k) p ≡ p
  unfolding seek
  seek_hole e =
      cond_cases (λ (r : ℕ). r ≡ p) (eqb (get_or keys p 0) key) _ _ (λ _. refl)
      (λ _. ap (λ b. cond b p (seek keys key k (p + 1))) (eq-eqb (get_or keys p 0) 0 e))

  seek_on : Other keys key p → seek keys key (suc k) p ≡ seek keys key k (p + 1)
  unfolding seek
  seek_on o = rw (ne_eqb (get_or keys p 0) key o.1, ne_eqb (get_or keys p 0) 0 o.0)

-- How far the loop of `scan` has come: what is left of the places decides.
pub record Scanning (keys : List ℕ) (key from to p : ℕ) : Type 0 where
  pub upto : p ≤ to
  pub same : seek keys key (to - p) p ≡ seek keys key (to - from) from

pub scanning_none : (keys : List ℕ) (key from to : ℕ) → from ≤ to → Scanning keys key from to from
scanning_none keys key from to h = record { upto = h; same = refl }

module _ {keys : List ℕ} {key from to p : ℕ} (s : Scanning keys key from to p) where
  pub scanning_end : to ≤ p → to ≡ seek keys key (to - from) from
  unfolding seek
  scanning_end h = let (e, f) : (to - p ≡ 0) × (to ≡ p) = (omega (arith, s.upto), omega (arith, s.upto)) in f ∙ rw e at s.same

  module _ (h : p < to) where
    next : seek keys key (suc (to - (p + 1))) p ≡ seek keys key (to - from) from
    next = let e : to - p ≡ suc (to - (p + 1)) = omega arith in ap (λ (k : ℕ). seek keys key k p) (sym e) ∙ s.same

    pub scanning_here : Here keys key p → p ≡ seek keys key (to - from) from
    scanning_here (inl e) = sym (seek_key keys key (to - (p + 1)) p e) ∙ next
    scanning_here (inr e) = sym (seek_hole keys key (to - (p + 1)) p e) ∙ next

    pub scanning_more : (get_or keys p 0 ≡ key → ⊥) → (get_or keys p 0 ≡ 0 → ⊥) → Scanning keys key from to (p + 1)
    scanning_more x y = record { upto = omega arith; same = sym (seek_on keys key (to - (p + 1)) p (y, x)) ∙ next }

-- Where a scan of the places from a up to b stops.
pub record Stop (keys : List ℕ) (key a b r : ℕ) : Type 0 where
  pub low : a ≤ r
  pub high : r ≤ b
  pub passed : (q : ℕ) → a ≤ q → q < r → Other keys key q
  pub here : r < b → Here keys key r

module _ (keys : List ℕ) (key : ℕ) where
  at_once : (a b : ℕ) → a < b → Here keys key a → Stop keys key a b a
  at_once a b h e = record { low = omega arith; high = omega arith; passed = λ q l m. absurd (lt_irrefl a (omega arith)); here = λ _. e }

  later : (a b r : ℕ) → Other keys key a → Stop keys key (a + 1) b r → Stop keys key a b r
  later a b r o s =
      record {
        low = omega (arith, s.low);
        high = s.high;
        passed = λ q l m. elim (dec_lt a q) [
          | yes x ↦ s.passed q (omega arith) m
          | no x ↦ let e : a ≡ q = omega arith in subst (Other keys key) e o
        ];
        here = s.here;
      }

  pub seek_stop : (k p : ℕ) → Stop keys key p (p + k) (seek keys key k p)
  unfolding seek
  seek_stop zero p = record { low = omega arith; high = omega arith; passed = λ q l m. absurd (lt_irrefl p (omega arith)); here = λ l. absurd (lt_irrefl p (omega arith)) }
  seek_stop (suc k) p =
      let b : p + 1 + k ≡ p + suc k = omega arith in
      cond_cases (Stop keys key p (p + suc k)) (eqb (get_or keys p 0) key) _ _
      (λ t. at_once p (p + suc k) (omega arith) (inl (eqb-true (get_or keys p 0) key t)))
      (λ t. cond_cases (Stop keys key p (p + suc k)) (eqb (get_or keys p 0) 0) _ _
      (λ u. at_once p (p + suc k) (omega arith) (inr (eqb-true (get_or keys p 0) 0 u)))
      (λ u. later p (p + suc k) _ (eqb-false (get_or keys p 0) 0 u, eqb-false (get_or keys p 0) key t)
      (subst (λ (e : ℕ). Stop keys key (p + 1) e (seek keys key k (p + 1))) b (seek_stop k (p + 1)))))
