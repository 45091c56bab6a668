-- The trie in document 01's words: what its nodes are, when there is no room, and which piece a walk finds.
-- Assumes nothing.
use Rattle.std.specs.Prelude.{Option, Some, None}
use mathlib.Core.Path.{◌≡◌, refl, sym, ap, ◌∙◌, subst}
use mathlib.Core.Logic.{◌⊎◌, inl, inr, ⊎_elim}
use mathlib.Core.Bool.{true, cond}
use mathlib.Core.List.{List, [], ◌∷◌}
use Prim.Native.Nat.{ℕ, zero, suc, ◌+◌, ◌-◌, ◌/◌, ◌≤◌, ◌<◌}
use native.Mathlib.Nat.{lt_irrefl}
use native.Mathlib.Decide.{dec_lt}
use native.Mathlib.Omega.{arith}
use lib.ListN.{length, get_or, take, length-replicate}
use lib.Seq.{ext_get_or, get_or-take, length-take-le}
use Rattle.laws.proofs.Choices.{cond_cases}
use Rattle.places.specs.Walk.{key_of}
use Rattle.places.specs.Map.{found_in}
use Rattle.places.specs.Entries.{zeros}
use Rattle.places.proofs.Filled.{zeros_at}
use Rattle.places.proofs.Theorems.{key_some, holds_none, absent_unfound}
use Rattle.trie.specs.Prefixes.{back, whole, equal, has, with, joined, prefixes_of, id_of}
use Rattle.trie.specs.Listed.{newest, Begins, Once, Is, is_newest, is_older, Last}
use Rattle.trie.specs.Trie.{step, node_at, is_node, Trie}
use Rattle.trie.specs.Promised.{More, AddsTo}
use Rattle.trie.specs.Index.{Index, Indexes}
use Rattle.trie.specs.declared.Added.{Added}
use Rattle.trie.specs.declared.Added.TheVariants.{New, Again}
use Rattle.trie.proofs.Equal.{equal_true, equal_self, equal_same, has_tail, split, either, distinct, contrary, with_has}
use Rattle.trie.proofs.Nodes.{child_of}
use Rattle.trie.proofs.Walked.{step_on, step_off}

-- Zero slices hold no piece, if the root is at most half of the places.
module _ (n : ℕ) where
  no_child : (y c : ℕ) → found_in (zeros n) (key_of y c) ≡ None
  no_child y c = absent_unfound (zeros n) [] (holds_none n) (key_of y c) (key_some y c) tt

  no_node : (c : ℕ) (q : List ℕ) → node_at (zeros n) (c ∷ q) ≡ None
  no_node c q =
      ⊎_elim (λ (y, e). child_of (zeros n) c q e ∙ no_child y c) (λ e. ap (λ (f : Option ℕ). step (zeros n) f c) e) (either (node_at (zeros n) q))

  pub trie_none : 1 ≤ n / 2 → Trie (zeros n) (zeros n) [] []
  trie_none h =
      record {
        entries = [];
        holds = holds_none n;
        count = refl;
        room = let e : length (zeros n) ≡ n = length-replicate n 0 in omega arith;
        known = λ c q s. ap is_node (no_node c q);
        live = λ p d s z. no_child (suc p) d;
        level = refl;
        clean = λ p z. zeros_at n p;
        names = λ c p q s e. absurd (distinct e (no_node c q));
        only = λ c q e. refl;
      }

-- The prefixes of pieces: a list has each of them, and nothing else, once. So its length is the number of distinct non-empty
-- prefixes, and the nodes are these and the root.
with_once : (ps : List (List ℕ)) (q : List ℕ) → Once ps → Once (with ps q)
with_once ps q o = cond_cases Once (has ps q) ps (q ∷ ps) (λ _. o) (λ e. (e, o))

joined_once : (ps : List (List ℕ)) (w : List ℕ) (k : ℕ) → Once ps → Once (joined ps w k)
joined_once ps w zero o = o
joined_once ps w (suc k) o = with_once (joined ps w k) (back w (suc k)) (joined_once ps w k o)

pub prefixes_once : (pieces : List (List ℕ)) → Once (prefixes_of pieces)
prefixes_once [] = tt
prefixes_once (w ∷ older) = joined_once (prefixes_of older) w (length w) (prefixes_once older)

with_keeps : (ps : List (List ℕ)) (p q : List ℕ) → has ps q ≡ true → has (with ps p) q ≡ true
with_keeps ps p q e = cond_cases (λ (l : List (List ℕ)). has l q ≡ true) (has ps p) ps (p ∷ ps) (λ _. e) (λ _. has_tail p q ps e)

with_only : (ps : List (List ℕ)) (p q : List ℕ) → has (with ps p) q ≡ true → (p ≡ q) ⊎ (has ps q ≡ true)
with_only ps p q = cond_cases (λ (l : List (List ℕ)). has l q ≡ true → (p ≡ q) ⊎ (has ps q ≡ true)) (has ps p) ps (p ∷ ps) (λ _ e. inr e)
    (λ _ e. ⊎_elim (λ t. inl (equal_true p q t)) (λ t. inr (ap (λ b. cond b true (has ps q)) (sym t) ∙ e)) (split (equal p q)))

joined_keeps : (ps : List (List ℕ)) (w q : List ℕ) (k : ℕ) → has ps q ≡ true → has (joined ps w k) q ≡ true
joined_keeps ps w q zero e = e
joined_keeps ps w q (suc k) e = with_keeps (joined ps w k) (back w (suc k)) q (joined_keeps ps w q k e)

joined_has : (ps : List (List ℕ)) (w : List ℕ) (k i : ℕ) → i < k → has (joined ps w k) (back w (suc i)) ≡ true
joined_has ps w zero i h = absurd (lt_irrefl 0 (omega arith))
joined_has ps w (suc k) i h = elim (dec_lt i k) [
  | yes l ↦ with_keeps (joined ps w k) (back w (suc k)) (back w (suc i)) (joined_has ps w k i l)
  | no l ↦ let e : k ≡ i = omega arith in subst (λ (j : ℕ). has (joined ps w (suc k)) (back w (suc j)) ≡ true) e (with_has (joined ps w k) (back w (suc k)))
]

joined_only : (ps : List (List ℕ)) (w q : List ℕ) (k : ℕ) → has (joined ps w k) q ≡ true → ((i : ℕ) × (i < k) × (back w (suc i) ≡ q)) ⊎ (has ps q ≡ true)
joined_only ps w q zero e = inr e
joined_only ps w q (suc k) e =
    ⊎_elim
    (λ x. inl (k, omega arith, x))
    (λ x. ⊎_elim (λ (i, l, y). inl (i, omega arith, y)) (λ y. inr y) (joined_only ps w q k x))
    (with_only (joined ps w k) (back w (suc k)) q e)

pub prefixes_begin : (pieces : List (List ℕ)) (q : List ℕ) → has (prefixes_of pieces) q ≡ true → Begins pieces q
prefixes_begin [] q e = contrary e refl
prefixes_begin (w ∷ older) q e = ⊎_elim (λ x. inl x) (λ x. inr (prefixes_begin older q x)) (joined_only (prefixes_of older) w q (length w) e)

pub begins_prefix : (pieces : List (List ℕ)) (q : List ℕ) → Begins pieces q → has (prefixes_of pieces) q ≡ true
begins_prefix [] q b = absurd b
begins_prefix (w ∷ older) q b =
    ⊎_elim
    (λ (k, l, e). subst (λ (r : List ℕ). has (joined (prefixes_of older) w (length w)) r ≡ true) e (joined_has (prefixes_of older) w (length w) k l))
    (λ x. joined_keeps (prefixes_of older) w q (length w) (begins_prefix older q x))
    b

-- A prefix written backwards is the word of its characters, and a word has no other.
length_back : (w : List ℕ) (k : ℕ) → length (back w k) ≡ k
length_back w zero = refl
length_back w (suc k) = ap suc (length_back w k)

back_at : (v w : List ℕ) (k i : ℕ) → back v k ≡ back w k → i < k → get_or v i 0 ≡ get_or w i 0
back_at v w zero i e h = absurd (lt_irrefl 0 (omega arith))
back_at v w (suc k) i e h =
    let a : get_or v k 0 ≡ get_or w k 0 = cc in
    let b : back v k ≡ back w k = cc in
    elim (dec_lt i k) [
      | yes l ↦ back_at v w k i b l
      | no l ↦ let z : k ≡ i = omega arith in subst (λ (j : ℕ). get_or v j 0 ≡ get_or w j 0) z a
    ]

pub whole_one : (v w : List ℕ) → whole v ≡ whole w → v ≡ w
whole_one v w e =
    let l : length v ≡ length w = sym (length_back v (length v)) ∙ ap length e ∙ length_back w (length w) in
    let f : back v (length v) ≡ back w (length v) = e ∙ ap (back w) (sym l) in
    ext_get_or 0 v w l (λ i h. back_at v w (length v) i f h)

back_same : (v w : List ℕ) (k : ℕ) → ((i : ℕ) → i < k → get_or v i 0 ≡ get_or w i 0) → back v k ≡ back w k
back_same v w zero h = refl
back_same v w (suc k) h =
    let a : get_or v k 0 ≡ get_or w k 0 = h k (omega arith) in
    let b : back v k ≡ back w k = back_same v w k (λ i l. h i (omega arith)) in
    cc

pub back_whole : (w : List ℕ) (k : ℕ) → k ≤ length w → back w k ≡ whole (take k w)
back_whole w k h = back_same w (take k w) k (λ i l. sym (get_or-take k w i 0 l)) ∙ ap (back (take k w)) (sym (length-take-le k w h))

-- Which piece has a spelling.
is_below : {pieces : List (List ℕ)} {i : ℕ} {v : List ℕ} → Is pieces i v → i < length pieces
is_below is_newest = omega arith
is_below (is_older s) = omega (arith, is_below s)

peel : {w v : List ℕ} {rest : List (List ℕ)} {j : ℕ} → Is (w ∷ rest) j v → ((w ≡ v) × (j ≡ length rest)) ⊎ Is rest j v
peel is_newest = inl (refl, refl)
peel (is_older s) = inr s

-- What a trie holds for a spelling is the id plus 1 of the last piece that is spelt so, or 0 where there is none.
pub id_last : (pieces : List (List ℕ)) (v : List ℕ) → Last pieces v (id_of pieces (whole v))
id_last [] v = record { is = λ i e. absurd (lt_irrefl 0 (omega arith)); later = λ j h s. lt_irrefl 0 (omega (arith, is_below s)) }
id_last (w ∷ rest) v =
    let o = id_last rest v in
    cond_cases (Last (w ∷ rest) v) (equal (whole w) (whole v)) (length rest + 1) (id_of rest (whole v))
    (λ t.
    let e : w ≡ v = whole_one w v (equal_true (whole w) (whole v) t) in
    record {
      is = λ i x. let z : length rest ≡ i = omega arith in subst (λ (k : ℕ). Is (w ∷ rest) k v) z (subst (λ (u : List ℕ). Is (w ∷ rest) (length rest) u) e is_newest);
      later = λ j h s. lt_irrefl j (omega (arith, is_below s));
    })
    (λ t. record {
      is = λ i x. is_older (o.is i x);
      later = λ j h s. ⊎_elim (λ (a, b). contrary (equal_same (ap whole a)) t) (λ a. o.later j h a) (peel s);
    })

-- There is no room exactly where the distinct non-empty prefixes with those of the new piece, and the root, are more than half
-- of the places.
module _ (keys ends chars : List ℕ) (id count : ℕ) (keys' ends' : List ℕ) (pieces : List (List ℕ)) where
  abbrev Answers : Option Added → Type 0
  Answers r = AddsTo keys ends chars count keys' ends' r (prefixes_of pieces) pieces

  pub no_room : Answers None → length keys / 2 < length (prefixes_of (chars ∷ pieces)) + 1
  no_room a = a.0.over

  fits : (earlier made : ℕ) → More keys chars keys' ends' earlier made (prefixes_of pieces) pieces → length (prefixes_of (chars ∷ pieces)) + 1 ≤ length keys / 2
  fits earlier made m = let l = m.long in subst (λ (n : ℕ). length (prefixes_of (chars ∷ pieces)) + 1 ≤ n / 2) l m.trie.room

  pub room_new : (made : ℕ) → Answers (Some (New made)) → length (prefixes_of (chars ∷ pieces)) + 1 ≤ length keys / 2
  room_new made m = fits 0 made m

  pub room_again : (i made : ℕ) → Answers (Some (Again i made)) → length (prefixes_of (chars ∷ pieces)) + 1 ≤ length keys / 2
  room_again i made m = fits (i + 1) made m

  -- Of a piece that is not empty it is told whether an earlier one is the same, and the last that is.
  pub told_new : (made : ℕ) → Answers (Some (New made)) → 0 < length chars → (j : ℕ) → Is pieces j chars → ⊥
  told_new made m l j s = (subst (Last pieces chars) (sym (m.told l)) (id_last pieces chars)).later j (omega arith) s

  pub told_again : (i made : ℕ) → Answers (Some (Again i made)) → 0 < length chars → Last pieces chars (i + 1)
  told_again i made m l = subst (Last pieces chars) (sym (m.told l)) (id_last pieces chars)

-- At each step of a walk stands the last piece that is spelt by the characters so far; and where the walk stops, no piece is
-- spelt by more of them.
module _ {keys ends : List ℕ} {prefixes pieces : List (List ℕ)} (t : Trie keys ends prefixes pieces) (w : List ℕ) (small : (i : ℕ) → i < length w → get_or w i 0 < 4294967295) {k node : ℕ} (leads : node_at keys (back w k) ≡ Some node) (l : k < length w) where
  pub step_last : {m : ℕ} → found_in keys (key_of node (get_or w k 0)) ≡ Some m → Last pieces (take (suc k) w) (get_or ends (m - 1) 0)
  step_last {m} f =
      let e : get_or ends (m - 1) 0 ≡ id_of pieces (whole (take (suc k) w)) = (step_on t w small leads l f).names ∙ ap (id_of pieces) (back_whole w (suc k) (omega arith)) in
      subst (Last pieces (take (suc k) w)) (sym e) (id_last pieces (take (suc k) w))

  pub step_end : found_in keys (key_of node (get_or w k 0)) ≡ None → (i j : ℕ) → k ≤ j → j < length w → Is pieces i (take (suc j) w) → ⊥
  step_end f i j h m s =
      let e : id_of pieces (whole (take (suc j) w)) ≡ 0 = ap (id_of pieces) (sym (back_whole w (suc j) (omega arith))) ∙ step_off t w small leads l f j h m in
      (subst (Last pieces (take (suc j) w)) e (id_last pieces (take (suc j) w))).later i (omega arith) s

-- An index of all pieces has room for the distinct non-empty prefixes and the root; so there is no room exactly where these
-- are more than half of the places.
pub index_room : {text pieces keys keys' ends' : List ℕ} {n : ℕ} → Index text pieces keys keys' ends' n → length (prefixes_of (newest text pieces)) + 1 ≤ length keys / 2
index_room {text} {pieces} x = subst (λ (m : ℕ). length (prefixes_of (newest text pieces)) + 1 ≤ m / 2) x.long x.trie.room

-- No second answer fits. What the slices then hold is work: it is said what it means, and not what it is.
pub one_index : (text pieces keys keys' ends' keys'' ends'' : List ℕ) (r s : Option ℕ) → Indexes text pieces keys keys' ends' r → Indexes text pieces keys keys'' ends'' s → r ≡ s
one_index text pieces keys keys' ends' keys'' ends'' (Some n) (Some m) x y = ap (λ (i : ℕ). Some i) (x.counted ∙ sym y.counted)
one_index text pieces keys keys' ends' keys'' ends'' (Some n) None x y = absurd (lt_irrefl (length keys / 2) (omega (arith, index_room x)))
one_index text pieces keys keys' ends' keys'' ends'' None (Some m) x y = absurd (lt_irrefl (length keys / 2) (omega (arith, index_room y)))
one_index text pieces keys keys' ends' keys'' ends'' None None x y = refl

-- An empty spelling is no edge: no step is its own, for each is one character or more; and an empty piece changes no other
-- spelling's.
pub empty_none : (pieces : List (List ℕ)) (c : ℕ) (q : List ℕ) → id_of ([] ∷ pieces) (c ∷ q) ≡ id_of pieces (c ∷ q)
empty_none pieces c q = refl

-- A later equal spelling wins.
pub later_wins : (w : List ℕ) (pieces : List (List ℕ)) → id_of (w ∷ pieces) (whole w) ≡ length pieces + 1
later_wins w pieces = ap (λ b. cond b (length pieces + 1) (id_of pieces (whole w))) (equal_self (whole w))
