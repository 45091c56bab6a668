-- What the answers of `find` and `insert` say of any places, whether or not they hold entries.
-- Assumes nothing.
use Rattle.std.proofs.Common.{◌≡◌, ℕ, ◌+◌, ◌/◌, ◌<◌, ◌≤◌, Bool, true, false, cond, ◌&&◌, eqb, leb, List, length, get_or, set, sym, refl, subst, arith, eqb-true, leb-true, Option, Some, None}
use Rattle.places.specs.Walk.{stop_of}
use Rattle.places.specs.Map.{stands_in, room_in, found_in, inserted_in, put_in}
use Rattle.places.specs.declared.Inserted.{Inserted}
use Rattle.places.specs.declared.Inserted.TheVariants.{Old, New}
use Rattle.places.proofs.Spot.{stop_in}
use Rattle.places.proofs.Table.{busy_in, key_busy}

both : (a b : Bool) → a && b ≡ true → (a ≡ true) × (b ≡ true)
both true b e = (refl, e)
both false b e = let z : ◌≡◌ {A = ℕ} 0 1 = cc in absurd (omega arith)

-- a new node: its place was empty, there was room, and the key stands there now
pub record Made (keys : List ℕ) (key count m : ℕ) : Type 0 where
  pub none : found_in keys key ≡ None
  pub place : m ≡ stop_of keys key + 1
  pub empty : get_or keys (stop_of keys key) 0 ≡ 0
  pub room : count + 2 ≤ length keys / 2
  pub after : put_in keys key count ≡ set keys (stop_of keys key) key

module _ (keys : List ℕ) (key count : ℕ) where
  abbrev pub Answer : Option Inserted → Type 0
  Answer (Some (Old m)) = (found_in keys key ≡ Some m) × (put_in keys key count ≡ keys)
  Answer (Some (New m)) = Made keys key count m
  Answer None = (found_in keys key ≡ None) × (put_in keys key count ≡ keys)

  by : (b : Bool) → stands_in keys key ≡ b → (d : Bool) → room_in keys key count ≡ d
      → Answer (cond b (Some (Old (stop_of keys key + 1))) (cond d (Some (New (stop_of keys key + 1))) None))
  unfolding found_in put_in
  by true t d u = (rw t, rw t)
  by false t true u =
      let (x, y) = both (eqb (get_or keys (stop_of keys key) 0) 0) (leb (count + 2) (length keys / 2)) u in
      record { none = rw t; place = refl; empty = eqb-true (get_or keys (stop_of keys key) 0) 0 x; room = leb-true (count + 2) (length keys / 2) y; after = rw (t, u) }
  by false t false u = (rw t, rw (t, u))

  answer : Answer (inserted_in keys key count)
  unfolding inserted_in
  answer = by (stands_in keys key) refl (room_in keys key count) refl

  pub answered : (r : Option Inserted) → r ≡ inserted_in keys key count → Answer r
  answered r e = subst Answer (sym e) answer

-- a node is the number of a place, plus 1
module _ (keys : List ℕ) (key : ℕ) (some : 0 < key) where
  pub found_range : {m : ℕ} → found_in keys key ≡ Some m → (0 < m) × (m ≤ length keys)
  unfolding found_in
  found_range {m} e = go (stands_in keys key) refl e
    where
      go : (b : Bool) → stands_in keys key ≡ b → cond b (Some (stop_of keys key + 1)) None ≡ Some m → (0 < m) × (m ≤ length keys)
      go true t p =
          let l = busy_in keys (stop_of keys key) (key_busy keys key (stop_of keys key) some (eqb-true (get_or keys (stop_of keys key) 0) key t)) in
          let z : stop_of keys key + 1 ≡ m = cc in
          (omega arith, omega arith)
      go false t p = let z : ◌≡◌ {A = ℕ} 0 1 = cc in absurd (omega arith)

  pub made_range : {count m : ℕ} → Made keys key count m → (0 < m) × (m ≤ length keys)
  made_range {count} {m} w = let l = stop_in keys key (omega (arith, w.room)) in (omega (arith, w.place), omega (arith, w.place))
