-- What `located` is in each case, and that what it says is inside the slices. Assumes nothing.
use mathlib.Core.Path.{◌≡◌, refl, ap, sym, subst, ◌∙◌}
use mathlib.Core.Bool.{Bool, true, false, cond, ◌&&◌}
use mathlib.Core.List.{List}
use Prim.Native.Nat.{ℕ, ◌+◌, ◌*◌, ◌≤◌, ◌<◌}
use native.Mathlib.Omega.{arith}
use lib.Dec.{T, leb, leb→le}
use lib.Ieee.Fits.{and_l, and_r}
use lib.ListN.{length, get_or}
use borrow.Author.Tests.{le-leb, lt-leb}
use Rattle.view.specs.declared.Located.{Located}
use Rattle.view.specs.Located.{present, inside, whole, absent, spanned, located}

module _ (starts ids offsets spans : List ℕ) (index : ℕ) where
  pub no_span : length spans < 4 * index + 4 → located starts ids offsets spans index ≡ absent index
  unfolding located
  no_span h = rw (lt-leb (4 * index + 4) (length spans) h) refl

  module _ (h : 4 * index + 4 ≤ length spans) {from to at n : ℕ} (f : from ≡ get_or spans (4 * index) 0) (t : to ≡ get_or spans (4 * index + 1) 0) (a : at ≡ get_or spans (4 * index + 2) 0) (m : n ≡ get_or spans (4 * index + 3) 0) where
    at_span : located starts ids offsets spans index ≡ spanned starts ids offsets index from to at n
    unfolding located
    at_span = rw (le-leb (4 * index + 4) (length spans) h, f, t, a, m) refl

    pub outside : inside starts ids offsets from to at n ≡ false → located starts ids offsets spans index ≡ absent index
    outside e = at_span ∙ ap (λ b. cond b (whole from to at n) (absent index)) e

    pub all_inside : inside starts ids offsets from to at n ≡ true → located starts ids offsets spans index ≡ whole from to at n
    all_inside e = at_span ∙ ap (λ b. cond b (whole from to at n) (absent index)) e

-- what is said inside the slices
pub record Within (starts ids offsets : List ℕ) (word : Located) : Type 0 where
  pub from_to : word.from ≤ word.to
  pub in_starts : word.to ≤ length starts
  pub in_ids : word.to ≤ length ids
  pub at_past : word.at ≤ word.past
  pub in_offsets : word.past ≤ length offsets

either : (P : Located → Type 0) (b : Bool) {x y : Located} → (T b → P x) → P y → P (cond b x y)
either P true f y = f tt
either P false f y = y

module _ (starts ids offsets spans : List ℕ) (index : ℕ) where
  none_within : Within starts ids offsets (absent index)
  none_within = record { from_to = omega arith; in_starts = omega arith; in_ids = omega arith; at_past = omega arith; in_offsets = omega arith }

  spanned_within : (from to at n : ℕ) → Within starts ids offsets (spanned starts ids offsets index from to at n)
  spanned_within from to at n = either (Within starts ids offsets) (inside starts ids offsets from to at n) (λ all.
      let after = and_r (leb from to) (leb to (length starts) && (leb to (length ids) && leb (at + n + 2) (length offsets))) all in
      let last = and_r (leb to (length starts)) (leb to (length ids) && leb (at + n + 2) (length offsets)) after in
      record {
        from_to = leb→le from to (and_l (leb from to) (leb to (length starts) && (leb to (length ids) && leb (at + n + 2) (length offsets))) all);
        in_starts = leb→le to (length starts) (and_l (leb to (length starts)) (leb to (length ids) && leb (at + n + 2) (length offsets)) after);
        in_ids = leb→le to (length ids) (and_l (leb to (length ids)) (leb (at + n + 2) (length offsets)) last);
        at_past = omega arith;
        in_offsets = leb→le (at + n + 2) (length offsets) (and_r (leb to (length ids)) (leb (at + n + 2) (length offsets)) last);
      }) none_within

  pub within : Within starts ids offsets (located starts ids offsets spans index)
  unfolding located
  within = either (Within starts ids offsets) (present spans index) (λ _. spanned_within (get_or spans (4 * index) 0) (get_or spans (4 * index + 1) 0) (get_or spans (4 * index + 2) 0) (get_or spans (4 * index + 3) 0)) none_within

  -- the same of a word that is found there
  pub within_at : (word : Located) → word ≡ located starts ids offsets spans index → Within starts ids offsets word
  within_at word e = subst (Within starts ids offsets) (sym e) within
