-- The check of settings has one answer; and what target and pool are for settings within their bounds. Assumes nothing.
use mathlib.Core.Path.{◌≡◌, refl, ap}
use mathlib.Core.List.{List}
use Prim.Native.Nat.{ℕ, ◌*◌, ◌≤◌, max}
use native.Mathlib.Omega.{arith}
use Rattle.refusal.specs.declared.Refusal.{Refusal}
use Rattle.settings.specs.Settings.{defaults, seed_of, target_of, pool_of}
use Rattle.settings.specs.Check.{SeedWithin, SpecialsWithin, InBounds, Why, bad_vocab, bad_seed, bad_length, bad_em, bad_specials, Answers}
use Rattle.settings.specs.declared.Settings.{Settings}
use Rattle.std.specs.Prelude.{Option, Some, None, Result, Ok, Err}

-- ---- one answer
module _ {settings : Settings} {texts specials : List ℕ} where
  not_both : {r : Refusal} → Why settings texts specials r → InBounds settings texts specials → ⊥
  not_both (bad_vocab n) o = n o.vocab_within
  not_both (bad_seed _ n) o = n o.seed_within
  not_both (bad_length _ _ n) o = n o.length_within
  not_both (bad_em _ _ _ n) o = n o.em_within
  not_both (bad_specials _ _ _ _ n) o = n o.specials_within

  one_why : {r s : Refusal} → Why settings texts specials r → Why settings texts specials s → r ≡ s
  one_why (bad_vocab _) (bad_vocab _) = refl
  one_why (bad_vocab n) (bad_seed h _) = absurd (n h)
  one_why (bad_vocab n) (bad_length h _ _) = absurd (n h)
  one_why (bad_vocab n) (bad_em h _ _ _) = absurd (n h)
  one_why (bad_vocab n) (bad_specials h _ _ _ _) = absurd (n h)
  one_why (bad_seed h _) (bad_vocab n) = absurd (n h)
  one_why (bad_seed _ _) (bad_seed _ _) = refl
  one_why (bad_seed _ n) (bad_length _ h _) = absurd (n h)
  one_why (bad_seed _ n) (bad_em _ h _ _) = absurd (n h)
  one_why (bad_seed _ n) (bad_specials _ h _ _ _) = absurd (n h)
  one_why (bad_length h _ _) (bad_vocab n) = absurd (n h)
  one_why (bad_length _ h _) (bad_seed _ n) = absurd (n h)
  one_why (bad_length _ _ _) (bad_length _ _ _) = refl
  one_why (bad_length _ _ n) (bad_em _ _ h _) = absurd (n h)
  one_why (bad_length _ _ n) (bad_specials _ _ h _ _) = absurd (n h)
  one_why (bad_em h _ _ _) (bad_vocab n) = absurd (n h)
  one_why (bad_em _ h _ _) (bad_seed _ n) = absurd (n h)
  one_why (bad_em _ _ h _) (bad_length _ _ n) = absurd (n h)
  one_why (bad_em _ _ _ _) (bad_em _ _ _ _) = refl
  one_why (bad_em _ _ _ n) (bad_specials _ _ _ h _) = absurd (n h)
  one_why (bad_specials h _ _ _ _) (bad_vocab n) = absurd (n h)
  one_why (bad_specials _ h _ _ _) (bad_seed _ n) = absurd (n h)
  one_why (bad_specials _ _ h _ _) (bad_length _ _ n) = absurd (n h)
  one_why (bad_specials _ _ _ h _) (bad_em _ _ _ n) = absurd (n h)
  one_why (bad_specials _ _ _ _ _) (bad_specials _ _ _ _ _) = refl

pub one_answer : (settings : Settings) (texts specials : List ℕ) (r s : Result (Unit {0}) Refusal) → Answers settings texts specials r → Answers settings texts specials s → r ≡ s
one_answer settings texts specials (Ok _) (Ok _) p q = refl
one_answer settings texts specials (Ok _) (Err s) p q = absurd (not_both q p)
one_answer settings texts specials (Err r) (Ok _) p q = absurd (not_both p q)
one_answer settings texts specials (Err r) (Err s) p q = ap Err (one_why p q)

-- ---- the defaults are within their bounds, with any specials that are
pub defaults_fine : (texts specials : List ℕ) → SpecialsWithin texts specials → Answers defaults texts specials (Ok tt)
defaults_fine texts specials h = record { vocab_within = omega arith; seed_within = tt; length_within = omega arith; em_within = omega arith; specials_within = h }

-- ---- a target is at most 65,536, and 16 times it no large number: the pool is what document 01 says
pub pool_unset : (settings : Settings) (target : ℕ) → target ≤ 65536 → settings.seed_size ≡ None → pool_of settings target ≡ 16 * target
pool_unset settings target h e =
    let u : seed_of settings.seed_size target ≡ seed_of None target = ap (λ (s : Option ℕ). seed_of s target) e in
    omega arith

pub pool_set : (settings : Settings) (target pieces : ℕ) → settings.seed_size ≡ Some pieces → pool_of settings target ≡ max target pieces
pool_set settings target pieces e = ap (λ (s : Option ℕ). max target (seed_of s target)) e

-- the pool is no smaller than the target
pub pool_room : (settings : Settings) (target : ℕ) → target ≤ pool_of settings target
pool_room settings target = omega arith

seed_bound : (size : Option ℕ) (target : ℕ) → SeedWithin size → target ≤ 65536 → seed_of size target ≤ 1048576
seed_bound (Some pieces) target w h = w
seed_bound None target w h = omega arith

module _ (settings : Settings) (texts specials : List ℕ) (fine : InBounds settings texts specials) (k : ℕ) where
  pub target_bound : target_of settings k ≤ 65536
  target_bound = let h = fine.vocab_within in omega arith

  pub pool_bound : pool_of settings (target_of settings k) ≤ 1048576
  pool_bound =
      let t = target_bound in
      let s = seed_bound settings.seed_size (target_of settings k) fine.seed_within t in
      omega arith
