-- Runs of moves, one after the other. Assumes nothing.
use mathlib.Core.Path.{◌≡◌, refl, sym, ap, ◌∙◌, subst}
use mathlib.Core.Bool.{Bool, true, false, cond}
use mathlib.Core.List.{List, [], ◌∷◌, ◌++◌, map, append-nil, append_assoc}
use Prim.Native.Nat.{ℕ, zero, suc, ◌+◌, ◌-◌, ◌≤◌, ◌<◌}
use native.Mathlib.Omega.{arith}
use lib.Dec.{eqb}
use lib.ListN.{length, get_or, set, length-append, length-map}
use lib.Seq.{sets, length-sets, get_or-set_other}
use Rattle.lattice.specs.Pruning.{gone}
use Rattle.lattice.proofs.Fronts.{sets_append}
use Rattle.retain.specs.Moves.{new_id, stay, kept, kept_to, Moved, Run, Spot}

-- ---- stores
after : {A : Type 0} (l : List A) (i : ℕ) (vs : List A) (k : ℕ) (d : A) → i + length vs ≤ k → get_or (sets l i vs) k d ≡ get_or l k d
after l i [] k d h = refl
after l i (v ∷ vs) k d h = after (set l i v) (suc i) vs k d (omega arith) ∙ get_or-set_other l i k v d (omega arith)

map_join : (f : ℕ → ℕ) (xs ys : List ℕ) → map f (xs ++ ys) ≡ map f xs ++ map f ys
map_join f [] ys = refl
map_join f (x ∷ xs) ys = ap (λ (l : List ℕ). f x ∷ l) (map_join f xs ys)

-- ---- the edges that stay
kept_add : (m i : List ℕ) (k a b : ℕ) → kept m i k (a + b) ≡ kept m i k a ++ kept m i (k + a) b
kept_add m i k a zero = let e : a + 0 ≡ a = omega arith in ap (kept m i k) e ∙ sym (append-nil (kept m i k a))
kept_add m i k a (suc b) =
    let e : a + suc b ≡ suc (a + b) = omega arith in
    let f : k + (a + b) ≡ k + a + b = omega arith in
    ap (kept m i k) e ∙ ap (λ (l : List ℕ). l ++ stay m i (k + (a + b))) (kept_add m i k a b) ∙ ap (λ (x : ℕ). (kept m i k a ++ kept m i (k + a) b) ++ stay m i x) f
    ∙ append_assoc (kept m i k a) (kept m i (k + a) b) (stay m i (k + a + b))

-- the first, and the others
pub kept_front : (m i : List ℕ) (k n : ℕ) → kept m i k (suc n) ≡ stay m i k ++ kept m i (k + 1) n
kept_front m i k n =
    let e : suc n ≡ 1 + n = omega arith in
    let z : k + 0 ≡ k = omega arith in
    ap (kept m i k) e ∙ kept_add m i k 1 n ∙ ap (λ (x : ℕ). stay m i x ++ kept m i (k + 1) n) z

pub kept_join : (m i : List ℕ) (lo mid hi : ℕ) → lo ≤ mid → mid ≤ hi → kept_to m i lo hi ≡ kept_to m i lo mid ++ kept_to m i mid hi
kept_join m i lo mid hi a b =
    let e : hi - lo ≡ mid - lo + (hi - mid) = omega arith in
    let f : lo + (mid - lo) ≡ mid = omega arith in
    ap (kept m i lo) e ∙ kept_add m i lo (mid - lo) (hi - mid) ∙ ap (λ (x : ℕ). kept_to m i lo mid ++ kept m i x (hi - mid)) f

pub kept_one : (m i : List ℕ) (r : ℕ) → kept_to m i r (r + 1) ≡ stay m i r
kept_one m i r =
    let e : r + 1 - r ≡ 1 = omega arith in
    let f : r + 0 ≡ r = omega arith in
    ap (kept m i r) e ∙ ap (stay m i) f

short_one : (b : Bool) (k : ℕ) → length (cond b [] (k ∷ [])) ≤ 1
short_one true k = omega arith
short_one false k = omega arith

short : (m i : List ℕ) (k n : ℕ) → length (kept m i k n) ≤ n
short m i k zero = omega arith
short m i k (suc n) =
    let a = short m i k n in
    let b = short_one (eqb (new_id m i (k + n)) gone) (k + n) in
    let c = length-append (kept m i k n) (stay m i (k + n)) in
    omega arith

-- what is read from lo on is the same in both
pub kept_same : (m i i' : List ℕ) (lo n : ℕ) → ((k : ℕ) → lo ≤ k → get_or i' k 0 ≡ get_or i k 0) → kept m i' lo n ≡ kept m i lo n
kept_same m i i' lo zero e = refl
kept_same m i i' lo (suc n) e =
    ap (λ (l : List ℕ). l ++ stay m i' (lo + n)) (kept_same m i i' lo n e) ∙ ap (λ (x : ℕ). kept m i lo n ++ cond (eqb (get_or m x 0) gone) [] ((lo + n) ∷ [])) (e (lo + n) (omega arith))

map_one : (f g : ℕ → ℕ) (b : Bool) (k : ℕ) → f k ≡ g k → map f (cond b [] (k ∷ [])) ≡ map g (cond b [] (k ∷ []))
map_one f g true k e = refl
map_one f g false k e = ap (λ (x : ℕ). x ∷ []) e

map_kept : (f g : ℕ → ℕ) (m i : List ℕ) (lo n : ℕ) → ((k : ℕ) → lo ≤ k → f k ≡ g k) → map f (kept m i lo n) ≡ map g (kept m i lo n)
map_kept f g m i lo zero e = refl
map_kept f g m i lo (suc n) e =
    map_join f (kept m i lo n) (stay m i (lo + n))
    ∙ ap (λ (l : List ℕ). l ++ map f (stay m i (lo + n))) (map_kept f g m i lo n e)
    ∙ ap (λ (l : List ℕ). map g (kept m i lo n) ++ l) (map_one f g (eqb (new_id m i (lo + n)) gone) (lo + n) (e (lo + n) (omega arith)))
    ∙ sym (map_join g (kept m i lo n) (stay m i (lo + n)))

-- ---- moves
-- the next place lies no further than what has been read
pub moved_behind : {s i m : List ℕ} {w : ℕ} {s' i' : List ℕ} {x : ℕ} (lo mid : ℕ) → lo ≤ mid → w ≤ lo → Moved s i m w (kept_to m i lo mid) s' i' x → x ≤ mid
moved_behind {s} {i} {m} lo mid a b v = let h = short m i lo (mid - lo) in let e = v.count in omega arith

pub moved_long : {s i m : List ℕ} {w : ℕ} {ks s' i' : List ℕ} {x : ℕ} → Moved s i m w ks s' i' x → (length s' ≡ length s) × (length i' ≡ length i)
moved_long {s} {i} {m} {w} {ks} v = (ap length v.starts_are ∙ length-sets s w (map (λ k. get_or s k 0) ks), ap length v.ids_are ∙ length-sets i w (map (new_id m i) ks))

-- what lies from the next place on is as it was
pub ids_after : {s i m : List ℕ} {w : ℕ} {ks s' i' : List ℕ} {x : ℕ} → Moved s i m w ks s' i' x → (k : ℕ) → x ≤ k → get_or i' k 0 ≡ get_or i k 0
ids_after {s} {i} {m} {w} {ks} v k h =
    ap (λ (l : List ℕ). get_or l k 0) v.ids_are ∙ after i w (map (new_id m i) ks) k 0 (let e = v.count in let l = length-map ks (new_id m i) in omega arith)

pub starts_after : {s i m : List ℕ} {w : ℕ} {ks s' i' : List ℕ} {x : ℕ} → Moved s i m w ks s' i' x → (k : ℕ) → x ≤ k → get_or s' k 0 ≡ get_or s k 0
starts_after {s} {i} {m} {w} {ks} v k h =
    ap (λ (l : List ℕ). get_or l k 0) v.starts_are ∙ after s w (map (λ j. get_or s j 0) ks) k 0 (let e = v.count in let l = length-map ks (λ j. get_or s j 0) in omega arith)

-- one run after the other is one run
pub moved_join : {s i m : List ℕ} {w : ℕ} {s' i' s'' i'' : List ℕ} {x y : ℕ} (lo mid hi : ℕ) → w ≤ lo → lo ≤ mid → mid ≤ hi
    → Moved s i m w (kept_to m i lo mid) s' i' x → Moved s' i' m x (kept_to m i' mid hi) s'' i'' y → Moved s i m w (kept_to m i lo hi) s'' i'' y
moved_join {s} {i} {m} {w} {s'} {i'} {s''} {i''} {x} {y} lo mid hi a b c u v =
    let ks = kept_to m i lo mid in
    let js = kept_to m i mid hi in
    let r = moved_behind lo mid b a u in
    let same : kept_to m i' mid hi ≡ js = kept_same m i i' mid (hi - mid) (λ k h. ids_after u k (omega arith)) in
    let e : w + length ks ≡ x = sym u.count in
    rw (kept_join m i lo mid hi)
    (record {
      count = v.count ∙ ap (λ (l : List ℕ). x + length l) same ∙ (let l = length-append ks js in let f = u.count in omega arith);
      starts_are =
          v.starts_are
          ∙ ap (λ (l : List ℕ). sets s' x (map (λ k. get_or s' k 0) l)) same
          ∙ ap (λ (l : List ℕ). sets s' x l) (map_kept (λ k. get_or s' k 0) (λ k. get_or s k 0) m i mid (hi - mid) (λ k h. starts_after u k (omega arith)))
          ∙ ap (λ (l : List ℕ). sets l x (map (λ k. get_or s k 0) js)) u.starts_are
          ∙ ap (λ (z : ℕ). sets (sets s w (map (λ k. get_or s k 0) ks)) z (map (λ k. get_or s k 0) js)) (sym (e' ks (λ k. get_or s k 0) x u.count))
          ∙ sym (sets_append s w (map (λ k. get_or s k 0) ks) (map (λ k. get_or s k 0) js))
          ∙ ap (sets s w) (sym (map_join (λ k. get_or s k 0) ks js));
      ids_are =
          v.ids_are
          ∙ ap (λ (l : List ℕ). sets i' x (map (new_id m i') l)) same
          ∙ ap (λ (l : List ℕ). sets i' x l) (map_kept (new_id m i') (new_id m i) m i mid (hi - mid) (λ k h. ap (λ (z : ℕ). get_or m z 0) (ids_after u k (omega arith))))
          ∙ ap (λ (l : List ℕ). sets l x (map (new_id m i) js)) u.ids_are
          ∙ ap (λ (z : ℕ). sets (sets i w (map (new_id m i) ks)) z (map (new_id m i) js)) (sym (e' ks (new_id m i) x u.count))
          ∙ sym (sets_append i w (map (new_id m i) ks) (map (new_id m i) js))
          ∙ ap (sets i w) (sym (map_join (new_id m i) ks js));
    })
  where
    e' : (ks : List ℕ) (f : ℕ → ℕ) (x : ℕ) → x ≡ w + length ks → w + length (map f ks) ≡ x
    e' ks f x h = let l = length-map ks f in omega arith

pub spot_of : {s i m : List ℕ} {w lo hi : ℕ} {s' i' : List ℕ} {x : ℕ} (r : ℕ) → Run s i m w lo hi → lo ≤ r → r < hi → Moved s i m w (kept_to m i lo r) s' i' x → Spot s' i' m x r
spot_of {s} {i} {m} {w} {lo} {hi} {s'} {i'} {x} r u a b v =
    let l = moved_long v in
    let h = moved_behind lo r a u.behind v in
    record { behind = h; in_starts = omega arith; in_ids = omega arith; entry = subst (λ (k : ℕ). k < length m) (sym (ids_after v r h)) (u.entries r a b) }

-- one edge more
pub moved_more : {s i m : List ℕ} {w lo : ℕ} {s' i' s'' i'' : List ℕ} {x y : ℕ} (r : ℕ) → w ≤ lo → lo ≤ r
    → Moved s i m w (kept_to m i lo r) s' i' x → Moved s' i' m x (stay m i' r) s'' i'' y → Moved s i m w (kept_to m i lo (r + 1)) s'' i'' y
moved_more {s} {i} {m} {w} {lo} {s'} {i'} {s''} {i''} {x} {y} r a b u v = moved_join lo r (r + 1) a b (omega arith) u (rw (kept_one m i' r) v)

-- no more edges stay than were read
pub moved_count : {s i m : List ℕ} {w : ℕ} {s' i' : List ℕ} {x : ℕ} (lo hi : ℕ) → Moved s i m w (kept_to m i lo hi) s' i' x → (w ≤ x) × (x ≤ w + (hi - lo))
moved_count {s} {i} {m} {w} lo hi v = let h = short m i lo (hi - lo) in let e = v.count in (omega arith, omega arith)
