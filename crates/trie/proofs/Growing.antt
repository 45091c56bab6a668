-- A trie with one node more, and a trie with one piece more.
-- Assumes nothing.
use Rattle.std.specs.Prelude.{Some, None}
use mathlib.Core.Path.{◌≡◌, sym, ap, ◌∙◌, subst}
use mathlib.Core.Logic.{◌⊎◌, inl, inr, ⊎_elim}
use mathlib.Core.Bool.{Bool, true, false, cond}
use mathlib.Core.List.{List, [], ◌∷◌}
use Prim.Native.Nat.{ℕ, suc, ◌+◌, ◌-◌, ◌<◌}
use native.Mathlib.Nat.{lt_irrefl}
use native.Mathlib.Omega.{arith}
use lib.ListN.{length, get_or, set, length-set}
use lib.Seq.{get_or-set_same, get_or-set_other}
use Rattle.laws.proofs.Choices.{cond_cases}
use Rattle.places.specs.Walk.{key_of, stop_of}
use Rattle.places.specs.Map.{found_in, put_in}
use Rattle.places.specs.Entries.{Holds}
use Rattle.places.proofs.Seek.{Busy}
use Rattle.places.proofs.Spot.{stop_in}
use Rattle.places.proofs.Table.{same?, busy_in}
use Rattle.places.proofs.Theorems.{key_some, key_one, holds_more, others_kept, stands_found}
use Rattle.places.proofs.Answers.{Made}
use Rattle.trie.specs.Prefixes.{whole, equal, has, with, id_of, Small}
use Rattle.trie.specs.Trie.{node_at, is_node, Trie}
use Rattle.trie.proofs.Equal.{equal_true, equal_same, has_head, has_tail, has_not, either, distinct, contrary}
use Rattle.trie.proofs.Nodes.{parent, child_of, node_stands, node_one}

-- a node m' is made by the character c below the node m of q
module _ (keys entries : List ℕ) (h : Holds keys entries) (q : List ℕ) (c m m' : ℕ) (sq : Small q) (sc : c < 4294967295) (lead : node_at keys q ≡ Some m) (w : Made keys (key_of m c) (length entries) m')
    (live : (p d : ℕ) → d < 4294967295 → get_or keys p 0 ≡ 0 → found_in keys (key_of (suc p) d) ≡ None) where
  abbrev after : List ℕ
  after = put_in keys (key_of m c) (length entries)

  below : m' - 1 ≡ stop_of keys (key_of m c)
  below = omega (arith, w.place)

  free : get_or keys (m' - 1) 0 ≡ 0
  free = ap (λ (i : ℕ). get_or keys i 0) below ∙ w.empty

  inside : m' - 1 < length keys
  inside = omega (arith, below, stop_in keys (key_of m c) (omega (arith, w.room)))

  pub holds_after : Holds (put_in keys (key_of m c) (length entries)) (key_of m c ∷ entries)
  holds_after = subst (λ (l : List ℕ). Holds l (key_of m c ∷ entries)) (sym w.after) (holds_more keys entries h (key_of m c) (key_some m c) w.none w.room)

  pub length_after : length (put_in keys (key_of m c) (length entries)) ≡ length keys
  length_after = ap length w.after ∙ length-set keys _ _

  stands : get_or (put_in keys (key_of m c) (length entries)) (m' - 1) 0 ≡ key_of m c
  stands =
      ap (λ (l : List ℕ). get_or l (m' - 1) 0) w.after ∙ ap (λ (i : ℕ). get_or (set keys i (key_of m c)) (m' - 1) 0) (sym below)
      ∙ get_or-set_same keys (m' - 1) (key_of m c) 0 inside

  found_new : found_in (put_in keys (key_of m c) (length entries)) (key_of m c) ≡ Some m'
  found_new =
      let z : m' - 1 + 1 ≡ m' = omega (arith, w.place) in
      stands_found (put_in keys (key_of m c) (length entries)) (key_of m c ∷ entries) holds_after (key_of m c) (m' - 1) (key_some m c) stands ∙ ap (λ (i : ℕ). Some i) z

  kept : (y d : ℕ) → (key_of m c ≡ key_of y d → ⊥) → found_in (put_in keys (key_of m c) (length entries)) (key_of y d) ≡ found_in keys (key_of y d)
  kept y d n = others_kept keys entries h (key_of m c) (key_some m c) (key_of y d) (key_some y d) n

  -- what is empty was empty
  was_empty : (p : ℕ) → get_or (put_in keys (key_of m c) (length entries)) p 0 ≡ 0 → get_or keys p 0 ≡ 0
  was_empty p z = elim (same? p (stop_of keys (key_of m c))) [
    | inl e ↦ ap (λ (i : ℕ). get_or keys i 0) e ∙ w.empty
    | inr e ↦ sym (get_or-set_other keys (stop_of keys (key_of m c)) p (key_of m c) 0 e) ∙ ap (λ (l : List ℕ). get_or l p 0) (sym w.after) ∙ z
  ]

  -- the parent is not at the new place
  apart : (p : ℕ) → get_or keys p 0 ≡ 0 → m ≡ suc p → ⊥
  apart p z e = go q lead
    where
      go : (r : List ℕ) → node_at keys r ≡ Some m → ⊥
      go [] a = let x : 0 ≡ m = cc in lt_irrefl 0 (omega arith)
      go (d ∷ r) a = let x : m - 1 ≡ p = omega arith in (node_stands keys entries h d r m a).1 (ap (λ (i : ℕ). get_or keys i 0) x ∙ z)

  pub node_kept : (p : List ℕ) (x : ℕ) → node_at keys p ≡ Some x → node_at (put_in keys (key_of m c) (length entries)) p ≡ Some x
  node_kept [] x e = e
  node_kept (d ∷ r) x e =
      let o = parent keys d r x e in
      child_of (put_in keys (key_of m c) (length entries)) d r (node_kept r o.node o.leads)
      ∙ kept o.node d (λ z. distinct (ap (found_in keys) z ∙ o.child) w.none) ∙ o.child

  pub node_new : node_at (put_in keys (key_of m c) (length entries)) (c ∷ q) ≡ Some m'
  node_new = child_of (put_in keys (key_of m c) (length entries)) c q (node_kept q m lead) ∙ found_new

  node_back : (p : List ℕ) → Small p → (x : ℕ) → node_at (put_in keys (key_of m c) (length entries)) p ≡ Some x → ((p ≡ c ∷ q) × (x ≡ m')) ⊎ (node_at keys p ≡ Some x)
  node_back [] s x e = inr e
  node_back (d ∷ r) s x e =
      let o = parent (put_in keys (key_of m c) (length entries)) d r x e in
      ⊎_elim
      (λ i.
      let y : suc (m' - 1) ≡ o.node = omega (arith, w.place, i.1) in
      let n : found_in keys (key_of o.node d) ≡ None = ap (λ (j : ℕ). found_in keys (key_of j d)) (sym y) ∙ live (m' - 1) d s.0 free in
      let k : found_in (put_in keys (key_of m c) (length entries)) (key_of o.node d) ≡ found_in keys (key_of o.node d)
      = kept o.node d (λ z. apart (m' - 1) free ((key_one m o.node c d sc s.0 z).0 ∙ sym y)) in
      absurd (distinct o.child (k ∙ n)))
      (λ i. elim (same? (key_of m c) (key_of o.node d)) [
        | inl z ↦
            let (a, b) = key_one m o.node c d sc s.0 z in
            let g : r ≡ q = node_one keys entries h r q m s.1 sq (i ∙ ap (λ (j : ℕ). Some j) (sym a)) lead in
            let f : Some x ≡ Some m' = sym o.child ∙ ap (found_in (put_in keys (key_of m c) (length entries))) (sym z) ∙ found_new in
            inl (cc, cc)
        | inr n ↦ inr (child_of keys d r i ∙ sym (kept o.node d n) ∙ o.child)
      ])
      (node_back r s.1 o.node o.leads)

-- one node more
module _ {keys ends : List ℕ} {prefixes pieces : List (List ℕ)} (t : Trie keys ends prefixes pieces) (q : List ℕ) (c m : ℕ) (sq : Small q) (sc : c < 4294967295) (lead : node_at keys q ≡ Some m) where
  -- the node is there
  pub old_has : {m' : ℕ} → found_in keys (key_of m c) ≡ Some m' → has prefixes (c ∷ q) ≡ true
  old_has e = sym (t.known c q (sc, sq)) ∙ ap is_node (child_of keys c q lead ∙ e)

  new_has : found_in keys (key_of m c) ≡ None → has prefixes (c ∷ q) ≡ false
  new_has e = sym (t.known c q (sc, sq)) ∙ ap is_node (child_of keys c q lead ∙ e)

  pub none_has : found_in keys (key_of m c) ≡ None → with prefixes (c ∷ q) ≡ (c ∷ q) ∷ prefixes
  none_has e = ap (λ b. cond b prefixes ((c ∷ q) ∷ prefixes)) (new_has e)

  pub trie_old : {m' : ℕ} → found_in keys (key_of m c) ≡ Some m' → Trie keys ends (with prefixes (c ∷ q)) pieces
  trie_old e = subst (λ (l : List (List ℕ)). Trie keys ends l pieces) (sym (ap (λ b. cond b prefixes ((c ∷ q) ∷ prefixes)) (old_has e))) t

  module _ (m' : ℕ) (w : Made keys (key_of m c) (length t.entries) m') where
    known_new : (d : ℕ) (r : List ℕ) → Small (d ∷ r) → is_node (node_at (put_in keys (key_of m c) (length t.entries)) (d ∷ r)) ≡ has ((c ∷ q) ∷ prefixes) (d ∷ r)
    known_new d r s =
        ⊎_elim
        (λ (x, e). ap is_node e ∙ sym (⊎_elim
        (λ i. subst (λ (p : List ℕ). has ((c ∷ q) ∷ prefixes) p ≡ true) (sym i.0) (has_head (c ∷ q) prefixes))
        (λ i. has_tail (c ∷ q) (d ∷ r) prefixes (sym (t.known d r s) ∙ ap is_node i))
        (node_back keys t.entries t.holds q c m m' sq sc lead w t.live (d ∷ r) s x e)))
        (λ e. ap is_node e ∙ sym (cond_cases (λ (b : Bool). b ≡ false) (equal (c ∷ q) (d ∷ r)) true (has prefixes (d ∷ r))
        (λ y. absurd (distinct (subst (λ (p : List ℕ). node_at (put_in keys (key_of m c) (length t.entries)) p ≡ Some m') (equal_true (c ∷ q) (d ∷ r) y) (node_new keys t.entries t.holds q c m m' sq sc lead w t.live)) e))
        (λ _. ⊎_elim
        (λ (x, i). absurd (distinct (node_kept keys t.entries t.holds q c m m' sq sc lead w t.live (d ∷ r) x i) e))
        (λ i. sym (t.known d r s) ∙ ap is_node i)
        (either (node_at keys (d ∷ r))))))
        (either (node_at (put_in keys (key_of m c) (length t.entries)) (d ∷ r)))

    live_new : (p d : ℕ) → d < 4294967295 → get_or (put_in keys (key_of m c) (length t.entries)) p 0 ≡ 0 → found_in (put_in keys (key_of m c) (length t.entries)) (key_of (suc p) d) ≡ None
    live_new p d s z =
        let e = was_empty keys t.entries t.holds q c m m' sq sc lead w t.live p z in
        kept keys t.entries t.holds q c m m' sq sc lead w t.live (suc p) d
        (λ x. apart keys t.entries t.holds q c m m' sq sc lead w t.live p e (key_one m (suc p) c d sc s x).0)
        ∙ t.live p d s e

    names_new : (d p : ℕ) (r : List ℕ) → Small (d ∷ r) → node_at (put_in keys (key_of m c) (length t.entries)) (d ∷ r) ≡ Some (suc p) → get_or ends p 0 ≡ id_of pieces (d ∷ r)
    names_new d p r s e =
        ⊎_elim
        (λ i.
        let x : p ≡ m' - 1 = omega (arith, i.1) in
        let z : get_or keys p 0 ≡ 0 = ap (λ (j : ℕ). get_or keys j 0) x ∙ free keys t.entries t.holds q c m m' sq sc lead w t.live in
        t.clean p z ∙ sym (ap (id_of pieces) i.0 ∙ t.only c q (new_has w.none)))
        (λ i. t.names d p r s i)
        (node_back keys t.entries t.holds q c m m' sq sc lead w t.live (d ∷ r) s (suc p) e)

    pub trie_new : Trie (put_in keys (key_of m c) (length t.entries)) ends (with prefixes (c ∷ q)) pieces
    trie_new =
        let n = length_after keys t.entries t.holds q c m m' sq sc lead w t.live in
        subst (λ (l : List (List ℕ)). Trie (put_in keys (key_of m c) (length t.entries)) ends l pieces) (sym (none_has w.none)) (record {
          entries = key_of m c ∷ t.entries;
          holds = holds_after keys t.entries t.holds q c m m' sq sc lead w t.live;
          count = ap suc t.count;
          room = omega (arith, w.room, t.count, n);
          known = known_new;
          live = live_new;
          level = t.level ∙ sym n;
          clean = λ p z. t.clean p (was_empty keys t.entries t.holds q c m m' sq sc lead w t.live p z);
          names = names_new;
          only = λ d r e. t.only d r (has_not (c ∷ q) (d ∷ r) prefixes e).1;
        })

-- one piece more, at the node of its spelling
module _ {keys ends : List ℕ} {prefixes pieces : List (List ℕ)} (t : Trie keys ends prefixes pieces) (v : List ℕ) where
  module _ (c : ℕ) (q : List ℕ) (p : ℕ) (e : whole v ≡ c ∷ q) (s : Small (c ∷ q)) (lead : node_at keys (c ∷ q) ≡ Some (suc p)) where
    busy : Busy keys p
    busy = let z : suc p - 1 ≡ p = omega arith in λ x. (node_stands keys t.entries t.holds c q (suc p) lead).1 (ap (λ (i : ℕ). get_or keys i 0) z ∙ x)

    there : has prefixes (c ∷ q) ≡ true
    there = sym (t.known c q s) ∙ ap is_node lead

    named : (d x : ℕ) (r : List ℕ) → Small (d ∷ r) → node_at keys (d ∷ r) ≡ Some (suc x) → get_or (set ends p (length pieces + 1)) x 0 ≡ id_of (v ∷ pieces) (d ∷ r)
    named d x r u i =
        cond_cases (λ (k : ℕ). get_or (set ends p (length pieces + 1)) x 0 ≡ k) (equal (whole v) (d ∷ r)) (length pieces + 1) (id_of pieces (d ∷ r))
        (λ y.
        let z : c ∷ q ≡ d ∷ r = sym e ∙ equal_true (whole v) (d ∷ r) y in
        let f : Some (suc p) ≡ Some (suc x) = sym lead ∙ ap (node_at keys) z ∙ i in
        let g : suc p ≡ suc x = cc in
        let j : x ≡ p = omega arith in
        ap (λ (k : ℕ). get_or (set ends p (length pieces + 1)) k 0) j ∙ get_or-set_same ends p (length pieces + 1) 0 (omega (arith, busy_in keys p busy, t.level)))
        (λ y. get_or-set_other ends p x (length pieces + 1) 0 (λ j.
        contrary (equal_same (e ∙ node_one keys t.entries t.holds (c ∷ q) (d ∷ r) (suc p) s u lead (i ∙ ap (λ (k : ℕ). Some (suc k)) j))) y)
        ∙ t.names d x r u i)

    pub trie_named : Trie keys (set ends p (length pieces + 1)) prefixes (v ∷ pieces)
    trie_named =
        record {
          entries = t.entries;
          holds = t.holds;
          count = t.count;
          room = t.room;
          known = t.known;
          live = t.live;
          level = length-set ends p (length pieces + 1) ∙ t.level;
          clean = λ x z. get_or-set_other ends p x (length pieces + 1) 0 (λ j. busy (ap (λ (i : ℕ). get_or keys i 0) (sym j) ∙ z)) ∙ t.clean x z;
          names = named;
          only = λ d r z. cond_cases (λ (k : ℕ). k ≡ 0) (equal (whole v) (d ∷ r)) (length pieces + 1) (id_of pieces (d ∷ r))
              (λ y. absurd (contrary there (ap (has prefixes) (sym e ∙ equal_true (whole v) (d ∷ r) y) ∙ z)))
              (λ _. t.only d r z);
        }

  -- an empty piece changes nothing
  pub trie_empty : whole v ≡ [] → Trie keys ends prefixes (v ∷ pieces)
  trie_empty e =
      record {
        entries = t.entries;
        holds = t.holds;
        count = t.count;
        room = t.room;
        known = t.known;
        live = t.live;
        level = t.level;
        clean = t.clean;
        names = λ d x r u i. t.names d x r u i ∙ sym (nothing d r);
        only = λ d r z. nothing d r ∙ t.only d r z;
      }
    where
      nothing : (d : ℕ) (r : List ℕ) → id_of (v ∷ pieces) (d ∷ r) ≡ id_of pieces (d ∷ r)
      nothing d r = ap (λ (l : List ℕ). cond (equal l (d ∷ r)) (length pieces + 1) (id_of pieces (d ∷ r))) e
