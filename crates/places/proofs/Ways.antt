-- Each way out of `stop`, `room`, `find` and `insert`.
-- Assumes nothing.
use Rattle.std.proofs.Common.{◌≡◌, ℕ, ◌+◌, ◌-◌, ◌/◌, ◌<◌, ◌≤◌, Bool, true, false, leb, List, length, get_or, set, sym, refl, ap, ◌∙◌, subst, lt_irrefl, arith, le-ltb, lt-ltb, eq-eqb, ne_eqb, le-leb, leb-false, leb-true, Some, None}
use lib.ListN.{get_or-eq_default}
use borrow.Author.Tests.{lt-leb}
use Rattle.places.specs.Walk.{home_of, seek, stop_from, stop_of}
use Rattle.places.specs.Map.{found_in, inserted_in, put_in, stands_in, room_in}
use Rattle.places.specs.declared.Inserted.TheVariants.{Old, New}
use Rattle.places.proofs.Spot.{stop_in}

-- the walk ends before the last place, or goes on from the first
module _ (keys : List ℕ) (key h r : ℕ) (some : 0 < length keys) (e : h ≡ home_of key (length keys)) (f : r ≡ seek keys key (length keys - h) h) where
  inside : (s : ℕ) → s ≡ stop_of keys key → (s ≡ stop_of keys key) × (s < length keys)
  inside s g = (g, subst (λ (x : ℕ). x < length keys) (sym g) (stop_in keys key some))

  pub stop_right : r < length keys → (r ≡ stop_of keys key) × (r < length keys)
  unfolding stop_from
  stop_right l = inside r (sym (ap (stop_from keys key) (sym e) ∙ rw (← f, lt-ltb r (length keys) l)))

  pub stop_left : length keys ≤ r → (s : ℕ) → s ≡ seek keys key (h - 0) 0 → (s ≡ stop_of keys key) × (s < length keys)
  unfolding stop_from
  stop_left l s g =
      let z : h - 0 ≡ h = omega arith in
      inside s (sym (ap (stop_from keys key) (sym e) ∙ rw (← f, le-ltb r (length keys) l) (sym (g ∙ ap (λ (k : ℕ). seek keys key k 0) z))))

-- room for one node more
module _ (places count : ℕ) where
  pub room_never : places / 2 < 2 → leb 2 (places / 2) ≡ leb (count + 2) (places / 2)
  room_never h = lt-leb 2 (places / 2) h ∙ sym (lt-leb (count + 2) (places / 2) (omega arith))

  pub room_test : 2 ≤ places / 2 → leb count (places / 2 - 2) ≡ leb (count + 2) (places / 2)
  room_test h = go (leb count (places / 2 - 2)) refl
    where
      go : (b : Bool) → leb count (places / 2 - 2) ≡ b → b ≡ leb (count + 2) (places / 2)
      go true t = sym (le-leb (count + 2) (places / 2) (omega (arith, leb-true count (places / 2 - 2) t)))
      go false t = sym (lt-leb (count + 2) (places / 2) (omega (arith, leb-false count (places / 2 - 2) t)))

-- without places there is no key, and no room
module _ (keys : List ℕ) (key count : ℕ) (some : 0 < key) (none : length keys ≡ 0) where
  at_none : get_or keys (stop_of keys key) 0 ≡ 0
  at_none = get_or-eq_default keys 0 {n = stop_of keys key} (omega arith)

  stands_none : stands_in keys key ≡ false
  stands_none = ne_eqb (get_or keys (stop_of keys key) 0) key (λ e. lt_irrefl 0 (omega (arith, at_none)))

  room_none : room_in keys key count ≡ false
  room_none = rw (eq-eqb (get_or keys (stop_of keys key) 0) 0 at_none) (lt-leb (count + 2) (length keys / 2) (omega arith))

  pub found_nowhere : None ≡ found_in keys key
  unfolding found_in
  found_nowhere = rw stands_none

  pub inserted_nowhere : (None ≡ inserted_in keys key count) × (keys ≡ put_in keys key count)
  unfolding inserted_in put_in
  inserted_nowhere = (rw (stands_none, room_none), rw (stands_none, room_none))

-- by what stands where the walk ends, at p
module _ (keys : List ℕ) (key count p : ℕ) (at : p ≡ stop_of keys key) where
  pub found_old : get_or keys p 0 ≡ key → Some (p + 1) ≡ found_in keys key
  unfolding found_in
  found_old e = rw (← at, eq-eqb (get_or keys p 0) key e)

  pub found_none : (get_or keys p 0 ≡ key → ⊥) → None ≡ found_in keys key
  unfolding found_in
  found_none d = rw (← at, ne_eqb (get_or keys p 0) key d)

  pub inserted_old : get_or keys p 0 ≡ key → (Some (Old (p + 1)) ≡ inserted_in keys key count) × (keys ≡ put_in keys key count)
  unfolding inserted_in put_in
  inserted_old e = (rw (← at, eq-eqb (get_or keys p 0) key e), rw (← at, eq-eqb (get_or keys p 0) key e))

  module _ (d : get_or keys p 0 ≡ key → ⊥) where
    pub inserted_full : (get_or keys p 0 ≡ 0 → ⊥) → (None ≡ inserted_in keys key count) × (keys ≡ put_in keys key count)
    unfolding inserted_in put_in
    inserted_full x = (rw (← at, ne_eqb (get_or keys p 0) key d, ne_eqb (get_or keys p 0) 0 x), rw (← at, ne_eqb (get_or keys p 0) key d, ne_eqb (get_or keys p 0) 0 x))

    module _ (x : get_or keys p 0 ≡ 0) where
      pub inserted_half : leb (count + 2) (length keys / 2) ≡ false → (None ≡ inserted_in keys key count) × (keys ≡ put_in keys key count)
      unfolding inserted_in put_in
      inserted_half r = (rw (← at, ne_eqb (get_or keys p 0) key d, eq-eqb (get_or keys p 0) 0 x, r), rw (← at, ne_eqb (get_or keys p 0) key d, eq-eqb (get_or keys p 0) 0 x, r))

      pub inserted_new : leb (count + 2) (length keys / 2) ≡ true → (Some (New (p + 1)) ≡ inserted_in keys key count) × (set keys p key ≡ put_in keys key count)
      unfolding inserted_in put_in
      inserted_new r = (rw (← at, ne_eqb (get_or keys p 0) key d, eq-eqb (get_or keys p 0) 0 x, r), rw (← at, ne_eqb (get_or keys p 0) key d, eq-eqb (get_or keys p 0) 0 x, r))
