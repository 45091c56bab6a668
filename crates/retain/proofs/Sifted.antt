-- What the numbers of edges say of the edges themselves: those that stay are the sifted ones. Assumes nothing.
use mathlib.Core.Path.{◌≡◌, refl, sym, ap, ap₂, ◌∙◌, subst}
use mathlib.Core.Bool.{Bool, true, false, cond}
use mathlib.Core.List.{List, [], ◌∷◌, ◌++◌, map, map-append, map-map, append_assoc}
use mathlib.Core.Option.{none, some}
use Prim.Native.Nat.{ℕ, ◌+◌, ◌-◌, ◌≤◌}
use native.Mathlib.Omega.{arith}
use lib.Dec.{eqb}
use lib.ListN.{length, get_or, drop, length-append, length-map}
use lib.Seq.{drop-drop, get_or-drop}
use Rattle.lattice.specs.Lattice.{Edge, edge}
use Rattle.lattice.specs.Pruning.{gone, renew, sift, retained}
use Rattle.lattice.specs.Layout.{joined, offsets_from, offsets}
use Rattle.retain.specs.Moves.{new_id, stay, kept, kept_to, rank}
use Rattle.retain.proofs.Moving.{kept_front}
use Rattle.lattice.proofs.Joined.{joined_append, offsets_long}
use Rattle.lattice.proofs.Flat.{edges, ends}

-- ---- sifting
pub sift_append : (m : List ℕ) (a b : List Edge) → sift m (a ++ b) ≡ sift m a ++ sift m b
sift_append m [] b = refl
sift_append m (e ∷ a) b =
    ap (λ (l : List Edge). edge e.start (renew m e.id) ++ l) (sift_append m a b)
    ∙ sym (append_assoc (edge e.start (renew m e.id)) (sift m a) (sift m b))

pub sift_joined : (m : List ℕ) (rows : List (List Edge)) → joined (map (sift m) rows) ≡ sift m (joined rows)
sift_joined m [] = refl
sift_joined m (row ∷ rows) = ap (λ (l : List Edge). sift m row ++ l) (sift_joined m rows) ∙ sym (sift_append m row (joined rows))

pub edges_retained : (m : List ℕ) (lattices : List (List (List Edge))) → edges (retained m lattices) ≡ sift m (edges lattices)
edges_retained m [] = refl
edges_retained m (l ∷ ls) =
    joined_append (map (sift m) l) (joined (retained m ls))
    ∙ ap₂ (λ (a b : List Edge). a ++ b) (sift_joined m l) (edges_retained m ls)
    ∙ sym (sift_append m (joined l) (edges ls))
    ∙ ap (sift m) (sym (joined_append l (joined ls)))

at_most_one : (b : Bool) (s i : ℕ) → length (edge s (cond b none (some i))) ≤ 1
at_most_one true s i = omega arith
at_most_one false s i = omega arith

pub no_more : (m : List ℕ) (es : List Edge) → length (sift m es) ≤ length es
no_more m [] = omega arith
no_more m (e ∷ es) =
    let a = no_more m es in
    let b = at_most_one (eqb (get_or m e.id 0) gone) e.start (get_or m e.id 0) in
    let c = length-append (edge e.start (renew m e.id)) (sift m es) in
    omega arith

pub ends_retained : (m : List ℕ) (lattices : List (List (List Edge))) → length (ends (retained m lattices)) ≡ length (ends lattices)
ends_retained m [] = refl
ends_retained m (l ∷ ls) =
    let a = length-append (offsets (map (sift m) l)) (ends (retained m ls)) in
    let b = length-append (offsets l) (ends ls) in
    let c = offsets_long 0 (map (sift m) l) in
    let d = offsets_long 0 l in
    let e = length-map l (sift m) in
    let f = ends_retained m ls in
    omega arith

-- ---- from `base` on, the slices hold these edges
pub record Held (s i : List ℕ) (base : ℕ) (es : List Edge) : Type 0 where
  pub starts_after : List ℕ
  pub ids_after : List ℕ
  pub starts_are : drop base s ≡ map (λ e. e.start) es ++ starts_after
  pub ids_are : drop base i ≡ map (λ e. e.id) es ++ ids_after

head_of : (l : List ℕ) (base x : ℕ) {r : List ℕ} → drop base l ≡ x ∷ r → get_or l base 0 ≡ x
head_of l base x e =
    let z : base ≡ base + 0 = omega arith in
    ap (λ (n : ℕ). get_or l n 0) z ∙ sym (get_or-drop base l 0 0) ∙ ap (λ (r : List ℕ). get_or r 0 0) e

tail_of : (l : List ℕ) (base x : ℕ) {r : List ℕ} → drop base l ≡ x ∷ r → drop (base + 1) l ≡ r
tail_of l base x e = sym (drop-drop 1 base l) ∙ ap (drop 1) e

held_rest : {s i : List ℕ} {base : ℕ} {e : Edge} {es : List Edge} → Held s i base (e ∷ es) → Held s i (base + 1) es
held_rest {s} {i} {base} {e} h =
    record { starts_after = h.starts_after; ids_after = h.ids_after; starts_are = tail_of s base e.start h.starts_are; ids_are = tail_of i base e.id h.ids_are }

held_front : {s i : List ℕ} {base : ℕ} (a b : List Edge) → Held s i base (a ++ b) → Held s i base a
held_front a b h =
    record {
      starts_after = map (λ e. e.start) b ++ h.starts_after;
      ids_after = map (λ e. e.id) b ++ h.ids_after;
      starts_are = h.starts_are ∙ ap (λ (l : List ℕ). l ++ h.starts_after) (map-append (λ e. e.start) a b) ∙ append_assoc (map (λ e. e.start) a) (map (λ e. e.start) b) h.starts_after;
      ids_are = h.ids_are ∙ ap (λ (l : List ℕ). l ++ h.ids_after) (map-append (λ e. e.id) a b) ∙ append_assoc (map (λ e. e.id) a) (map (λ e. e.id) b) h.ids_after;
    }

-- ---- edge k, with its new id
abbrev pub new : List ℕ → List ℕ → List ℕ → ℕ → Edge
new m s i k = record { start = get_or s k 0; id = new_id m i k }

one : (b : Bool) (f : ℕ → Edge) (k s i : ℕ) → f k ≡ record { start = s; id = i } → map f (cond b [] (k ∷ [])) ≡ edge s (cond b none (some i))
one true f k s i e = refl
one false f k s i e = ap (λ (x : Edge). x ∷ []) e

here : (m s i : List ℕ) (k : ℕ) (e : Edge) → get_or s k 0 ≡ e.start → get_or i k 0 ≡ e.id → map (new m s i) (stay m i k) ≡ edge e.start (renew m e.id)
here m s i k e p q =
    ap (λ (x : ℕ). map (new m s i) (cond (eqb (get_or m x 0) gone) [] (k ∷ []))) q
    ∙ one (eqb (get_or m e.id 0) gone) (new m s i) k e.start (get_or m e.id 0) (λ j. record { start = p j; id = get_or m (q j) 0 })

pub sifted : (m s i : List ℕ) (es : List Edge) (base : ℕ) → Held s i base es → map (new m s i) (kept m i base (length es)) ≡ sift m es
sifted m s i [] base h = refl
sifted m s i (e ∷ es) base h =
    ap (map (new m s i)) (kept_front m i base (length es))
    ∙ map-append (new m s i) (stay m i base) (kept m i (base + 1) (length es))
    ∙ ap₂ (λ (a b : List Edge). a ++ b) (here m s i base e (head_of s base e.start h.starts_are) (head_of i base e.id h.ids_are)) (sifted m s i es (base + 1) (held_rest h))

-- from one place up to another
pub sifted_to : (m s i : List ℕ) (es : List Edge) (base : ℕ) → Held s i base es → map (new m s i) (kept_to m i base (base + length es)) ≡ sift m es
sifted_to m s i es base h =
    let e : base + length es - base ≡ length es = omega arith in
    ap (λ (n : ℕ). map (new m s i) (kept m i base n)) e ∙ sifted m s i es base h

-- so of their starts, of their new ids, and of how many they are
module _ (m : List ℕ) {s i : List ℕ} {es : List Edge} {base : ℕ} (h : Held s i base es) where
  pub starts_sifted : map (λ k. get_or s k 0) (kept_to m i base (base + length es)) ≡ map (λ e. e.start) (sift m es)
  starts_sifted = sym (map-map (λ (e : Edge). e.start) (new m s i) (kept_to m i base (base + length es))) ∙ ap (map (λ e. e.start)) (sifted_to m s i es base h)

  pub ids_sifted : map (new_id m i) (kept_to m i base (base + length es)) ≡ map (λ e. e.id) (sift m es)
  ids_sifted = sym (map-map (λ (e : Edge). e.id) (new m s i) (kept_to m i base (base + length es))) ∙ ap (map (λ e. e.id)) (sifted_to m s i es base h)

  pub rank_sifted : rank m i base (length es) ≡ length (sift m es)
  rank_sifted = sym (length-map (kept_to m i base (base + length es)) (new m s i)) ∙ ap length (sifted_to m s i es base h)

-- ---- an offset becomes its rank: the offsets are then those of the sifted rows
offsets_on : (m : List ℕ) {s i : List ℕ} {base : ℕ} (rows : List (List Edge)) (done : List Edge) → Held s i base (done ++ joined rows)
    → map (rank m i base) (offsets_from (length done) rows) ≡ offsets_from (length (sift m done)) (map (sift m) rows)
offsets_on m [] done h = ap (λ (n : ℕ). n ∷ []) (rank_sifted m (held_front done [] h))
offsets_on m {s} {i} {base} (row ∷ rows) done h =
    let split : done ++ (row ++ joined rows) ≡ (done ++ row) ++ joined rows = sym (append_assoc done row (joined rows)) in
    let more : length (sift m (done ++ row)) ≡ length (sift m done) + length (sift m row) = ap length (sift_append m done row) ∙ length-append (sift m done) (sift m row) in
    ap₂ (λ (n : ℕ) (l : List ℕ). n ∷ l)
    (rank_sifted m (held_front done (row ++ joined rows) h))
    (ap (λ (n : ℕ). map (rank m i base) (offsets_from n rows)) (sym (length-append done row))
    ∙ offsets_on m rows (done ++ row) (subst (Held s i base) split h)
    ∙ ap (λ (n : ℕ). offsets_from n (map (sift m) rows)) more)

pub offsets_sifted : (m : List ℕ) {s i : List ℕ} {base : ℕ} (lattice : List (List Edge)) → Held s i base (joined lattice) → map (rank m i base) (offsets lattice) ≡ offsets (map (sift m) lattice)
offsets_sifted m lattice h = offsets_on m lattice [] h
