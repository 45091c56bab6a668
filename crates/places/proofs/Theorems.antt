-- What the places hold, in the words of a list of keys in order of creation.
-- Assumes nothing.
use Rattle.std.proofs.Common.{◌≡◌, ℕ, zero, suc, ◌+◌, ◌-◌, ◌/◌, ◌<◌, ◌≤◌, Bool, true, false, cond, leb, List, [], ◌∷◌, length, get_or, set, sym, refl, ap, ◌∙◌, subst, ⊎_elim, arith, length-set, eq-eqb, ne_eqb, eqb-true, leb-false, leb-true, Option, Some, None}
use lib.ListN.{length-replicate, get_or-eq_default}
use borrow.Author.Tests.{lt-leb}
use Rattle.laws.proofs.Choices.{cond_cases}
use Rattle.places.specs.Walk.{key_of, stop_of}
use Rattle.places.specs.Map.{found_in, inserted_in, put_in, stands_in, room_in}
use Rattle.places.specs.Entries.{Grown, Finds, Inserts, zeros, filled, given, node_of, Absent, Holds, answer_by, entries_by, entries_after}
use Rattle.places.specs.declared.Inserted.{Inserted}
use Rattle.places.specs.declared.Inserted.TheVariants.{Old, New}
use Rattle.places.proofs.Spot.{Holed, stop_spot}
use Rattle.places.proofs.Table.{Table, used}
use Rattle.places.proofs.Ways.{inserted_old, inserted_half, inserted_new}
use Rattle.places.proofs.Filled.{Sound, Right, sound, sound_hole, search_right, absent_nothing, nothing_absent}

-- Different nodes or characters make different keys, and none makes 0.
pub key_some : (node character : ℕ) → 0 < key_of node character
key_some node character = omega arith

pub key_one : (m n c d : ℕ) → c < 4294967295 → d < 4294967295 → key_of m c ≡ key_of n d → (m ≡ n) × (c ≡ d)
key_one m n c d h k e = (omega arith, omega arith)

-- The zero slice is the empty table.
pub holds_none : (n : ℕ) → Holds (zeros n) []
unfolding filled
holds_none n = record { same = ap zeros (sym (length-replicate n 0)); once = tt; half = omega arith }

module _ (keys entries : List ℕ) (h : Holds keys entries) where
  held : Sound (length keys) entries
  held = sound (length keys) entries h.once h.half

  pub holds_table : Table keys
  holds_table = subst Table (sym h.same) held.table

  -- As many places are taken as there are entries.
  pub holds_used : used keys ≡ length entries
  holds_used = ap used h.same ∙ held.count

  -- At most half full, there is an empty place, if there is a place.
  pub holds_hole : 0 < length keys → Holed keys
  holds_hole l = subst Holed (sym h.same) (sound_hole (length keys) entries held h.half l)

  holds_right : (key : ℕ) → 0 < key → Right keys key (node_of (length keys) entries key)
  holds_right key k = subst (λ (l : List ℕ). Right l key (node_of (length keys) entries key)) (sym h.same) (held.right key k)

  -- A search answers the node of the entry, or nothing where there is none.
  pub search : (key : ℕ) → 0 < key → found_in keys key ≡ node_of (length keys) entries key
  search key k = search_right keys key holds_table holds_hole k (node_of (length keys) entries key) (holds_right key k)

  -- A key is found below its node exactly where it stands.
  pub found_stands : (key p : ℕ) → 0 < key → found_in keys key ≡ Some (p + 1) → get_or keys p 0 ≡ key
  found_stands key p k e =
      let z : p + 1 - 1 ≡ p = omega arith in
      ap (λ (i : ℕ). get_or keys i 0) (sym z) ∙ (subst (Right keys key) (sym (search key k) ∙ e) (holds_right key k)).1

  pub found_below : (key m : ℕ) → 0 < key → found_in keys key ≡ Some m → (0 < m) × (get_or keys (m - 1) 0 ≡ key)
  found_below key m k e = subst (Right keys key) (sym (search key k) ∙ e) (holds_right key k)

  pub stands_found : (key p : ℕ) → 0 < key → get_or keys p 0 ≡ key → found_in keys key ≡ Some (p + 1)
  stands_found key p k e = let z : p + 1 - 1 ≡ p = omega arith in
      search_right keys key holds_table holds_hole k (Some (p + 1)) (omega arith, ap (λ (i : ℕ). get_or keys i 0) z ∙ e)

  -- A key that is no entry is not found, and its walk ends at an empty place.
  pub absent_unfound : (key : ℕ) → 0 < key → Absent entries key → found_in keys key ≡ None
  absent_unfound key k a = search key k ∙ absent_nothing (length keys) entries key a

  pub unfound_absent : (key : ℕ) → 0 < key → found_in keys key ≡ None → Absent entries key
  unfound_absent key k e = nothing_absent (length keys) entries key (sym (search key k) ∙ e)

  pub unfound_empty : (key : ℕ) → 0 < key → found_in keys key ≡ None → get_or keys (stop_of keys key) 0 ≡ 0
  unfound_empty key k e = empty (length keys) refl
    where
      none : (p : ℕ) → get_or keys p 0 ≡ key → ⊥
      none = subst (Right keys key) (sym (search key k) ∙ e) (holds_right key k)

      empty : (n : ℕ) → length keys ≡ n → get_or keys (stop_of keys key) 0 ≡ 0
      empty zero z = get_or-eq_default keys 0 {n = stop_of keys key} (omega arith)
      empty (suc n) z = ⊎_elim (λ x. absurd (none (stop_of keys key) x)) (λ x. x) (stop_spot keys key (holds_hole (omega arith))).here

-- what stands where the walk ends, by what a search answers
module _ (keys : List ℕ) (key : ℕ) where
  found_here : {m : ℕ} → found_in keys key ≡ Some m → (get_or keys (stop_of keys key) 0 ≡ key) × (stop_of keys key + 1 ≡ m)
  unfolding found_in
  found_here {m} e = go (stands_in keys key) refl e
    where
      go : (b : Bool) → stands_in keys key ≡ b → cond b (Some (stop_of keys key + 1)) None ≡ Some m → (get_or keys (stop_of keys key) 0 ≡ key) × (stop_of keys key + 1 ≡ m)
      go true t p = (eqb-true (get_or keys (stop_of keys key) 0) key t, cc)
      go false t p = let z : ◌≡◌ {A = ℕ} 0 1 = cc in absurd (omega arith)

  other_here : found_in keys key ≡ None → get_or keys (stop_of keys key) 0 ≡ key → ⊥
  unfolding found_in
  other_here e x = let z : ◌≡◌ {A = ℕ} 0 1 = cc (ap (λ b. cond b (Some (stop_of keys key + 1)) None) (eq-eqb (get_or keys (stop_of keys key) 0) key x)) in omega arith

-- one entry more
module _ (keys entries : List ℕ) (h : Holds keys entries) (key : ℕ) (k : 0 < key) (e : found_in keys key ≡ None) where
  pub holds_more : length entries + 2 ≤ length keys / 2 → Holds (set keys (stop_of keys key) key) (key ∷ entries)
  unfolding filled
  holds_more l =
      let z : length (set keys (stop_of keys key) key) ≡ length keys = length-set keys (stop_of keys key) key in
      record {
        same = ap (λ (t : List ℕ). set t (stop_of t key) key) h.same ∙ ap (λ (n : ℕ). filled n (key ∷ entries)) (sym z);
        once = (k, unfound_absent keys entries h key k e, h.once);
        half = omega arith;
      }

  grown : (b : Bool) → leb (length entries + 2) (length keys / 2) ≡ b
      → (inserted_in keys key (length entries) ≡ cond b (Some (New (given (length keys) entries key))) None)
      × Holds (put_in keys key (length entries)) (cond b (key ∷ entries) entries)
  grown true t =
      let w = inserted_new keys key (length entries) (stop_of keys key) refl (other_here keys key e) (unfound_empty keys entries h key k e) t in
      (sym w.0 ∙ ap (λ (l : List ℕ). Some (New (stop_of l key + 1))) h.same, subst (λ (l : List ℕ). Holds l (key ∷ entries)) w.1 (holds_more (leb-true _ _ t)))
  grown false t =
      let w = inserted_half keys key (length entries) (stop_of keys key) refl (other_here keys key e) (unfound_empty keys entries h key k e) t in
      (sym w.0, subst (λ (l : List ℕ). Holds l entries) w.1 h)

module _ (keys entries : List ℕ) (h : Holds keys entries) (key : ℕ) (k : 0 < key) where
  by : (f : Option ℕ) → found_in keys key ≡ f
      → (inserted_in keys key (length entries) ≡ answer_by f (length keys) entries key)
      × Holds (put_in keys key (length entries)) (entries_by f (length keys) entries key)
  by (Some m) e =
      let (x, y) = found_here keys key e in
      let w = inserted_old keys key (length entries) (stop_of keys key) refl x in
      (sym w.0 ∙ ap (λ (i : ℕ). Some (Old i)) y, subst (λ (l : List ℕ). Holds l entries) w.1 h)
  by None e = grown keys entries h key k e (leb (length entries + 2) (length keys / 2)) refl

  -- An insertion answers the node of the entry, old or new, or no room exactly where one entry more and the root would be more
  -- than half of the places; and the places hold the list with one entry more, or as it was.
  pub insertion : Grown keys entries key (put_in keys key (length entries)) (inserted_in keys key (length entries))
  insertion = let w = by (node_of (length keys) entries key) (search keys entries h key k) in record { answer = w.0; holds = w.1 }

put_length : (keys : List ℕ) (key count : ℕ) → length (put_in keys key count) ≡ length keys
unfolding put_in
put_length keys key count =
    cond_cases (λ (l : List ℕ). length l ≡ length keys) (stands_in keys key) _ _ (λ _. refl)
    (λ _. cond_cases (λ (l : List ℕ). length l ≡ length keys) (room_in keys key count) _ _ (λ _. length-set keys (stop_of keys key) key) (λ _. refl))

-- the node of another key, and of the key, in the list with one entry more
module _ (n : ℕ) (entries : List ℕ) (key : ℕ) where
  node_other : (other : ℕ) → (key ≡ other → ⊥) → (f : Option ℕ) → node_of n (entries_by f n entries key) other ≡ node_of n entries other
  unfolding node_of
  node_other other d (Some m) = refl
  node_other other d None =
      cond_cases (λ (l : List ℕ). node_of n l other ≡ node_of n entries other) (leb (length entries + 2) (n / 2)) _ _
      (λ _. ap (λ b. cond b (Some (given n entries key)) (node_of n entries other)) (ne_eqb key other d)) (λ _. refl)

  node_new : node_of n (key ∷ entries) key ≡ Some (given n entries key)
  unfolding node_of
  node_new = ap (λ b. cond b (Some (given n entries key)) (node_of n entries key)) (eq-eqb key key refl)

  -- what an answer says, with the list l after it
  abbrev Says : Option Inserted → List ℕ → Type 0
  Says (Some (Old m)) l = node_of n entries key ≡ Some m
  Says (Some (New m)) l = (m ≡ given n entries key) × (l ≡ key ∷ entries)
  Says None l = (node_of n entries key ≡ None) × (n / 2 < length entries + 2)

  says : (f : Option ℕ) → node_of n entries key ≡ f → Says (answer_by f n entries key) (entries_by f n entries key)
  says (Some m) e = e
  says None e = go (leb (length entries + 2) (n / 2)) refl
    where
      go : (b : Bool) → leb (length entries + 2) (n / 2) ≡ b → Says (cond b (Some (New (given n entries key))) None) (cond b (key ∷ entries) entries)
      go true t = (refl, refl)
      go false t = (e, leb-false _ _ t)

module _ (keys entries : List ℕ) (h : Holds keys entries) (key : ℕ) (k : 0 < key) where
  search_after : (other : ℕ) → 0 < other → found_in (put_in keys key (length entries)) other ≡ node_of (length keys) (entries_after (length keys) entries key) other
  search_after other o =
      search (put_in keys key (length entries)) (entries_after (length keys) entries key) (insertion keys entries h key k).holds other o
      ∙ ap (λ (n : ℕ). node_of n (entries_after (length keys) entries key) other) (put_length keys key (length entries))

  -- An insertion keeps the answer for every other key.
  pub others_kept : (other : ℕ) → 0 < other → (key ≡ other → ⊥) → found_in (put_in keys key (length entries)) other ≡ found_in keys other
  others_kept other o d =
      search_after other o ∙ node_other (length keys) entries key other d (node_of (length keys) entries key) ∙ sym (search keys entries h other o)

  said : (r : Option Inserted) → inserted_in keys key (length entries) ≡ r → Says (length keys) entries key r (entries_after (length keys) entries key)
  said r e =
      subst (λ (x : Option Inserted). Says (length keys) entries key x (entries_after (length keys) entries key)) (sym (insertion keys entries h key k).answer ∙ e)
      (says (length keys) entries key (node_of (length keys) entries key) refl)

  -- A node that was there is the one that a search finds, and a new one is found from then on.
  pub old_found : (m : ℕ) → inserted_in keys key (length entries) ≡ Some (Old m) → found_in keys key ≡ Some m
  old_found m e = search keys entries h key k ∙ said (Some (Old m)) e

  pub new_found : (m : ℕ) → inserted_in keys key (length entries) ≡ Some (New m) → found_in (put_in keys key (length entries)) key ≡ Some m
  new_found m e =
      let (x, y) = said (Some (New m)) e in
      search_after key k ∙ ap (λ (l : List ℕ). node_of (length keys) l key) y ∙ node_new (length keys) entries key ∙ ap (λ (i : ℕ). Some i) (sym x)

  -- There is no room exactly where the key is no entry, and the entries with it and the root are more than half of the places.
  pub room_none : inserted_in keys key (length entries) ≡ None → Absent entries key × (length keys / 2 < length entries + 2)
  room_none e = let (x, y) = said None e in (nothing_absent (length keys) entries key x, y)

  pub none_room : Absent entries key → length keys / 2 < length entries + 2 → inserted_in keys key (length entries) ≡ None
  none_room a l = (grown keys entries h key k (absent_unfound keys entries h key k a) false (lt-leb _ _ l)).0

-- The second clauses of the contracts follow from the first.
pub finds : {keys : List ℕ} {k key : ℕ} {r : Option ℕ} → k ≡ key → 0 < key → r ≡ found_in keys k → (r ≡ found_in keys key) × Finds keys key r
finds {keys} {k} {key} {r} e s f =
    let g : r ≡ found_in keys key = f ∙ ap (found_in keys) e in
    (g, λ entries h. g ∙ search keys entries h key s)

pub inserts : (keys : List ℕ) (key count : ℕ) {after : List ℕ} {k : ℕ} {r : Option Inserted} → k ≡ key → 0 < key
    → (r ≡ inserted_in keys k count) × (after ≡ put_in keys k count)
    → (r ≡ inserted_in keys key count) × ((after ≡ put_in keys key count) × Inserts keys key count after r)
inserts keys key count {after} {k} {r} e s (f, g) =
    let p : r ≡ inserted_in keys key count = f ∙ ap (λ (x : ℕ). inserted_in keys x count) e in
    let q : after ≡ put_in keys key count = g ∙ ap (λ (x : ℕ). put_in keys x count) e in
    let t : Inserts keys key count after r = λ entries h c.
    let w = insertion keys entries h key s in
    record {
      answer = p ∙ ap (inserted_in keys key) c ∙ w.answer;
      holds = subst (λ (l : List ℕ). Holds l (entries_after (length keys) entries key)) (sym (q ∙ ap (put_in keys key) c)) w.holds;
    } in
    (p, (q, t))
