-- A piece that survives is found under its new id, and one that is gone is not found. Assumes nothing.
use mathlib.Core.Path.{◌≡◌, refl, sym, ap, ◌∙◌, subst}
use mathlib.Core.Bool.{Bool, true, false, cond}
use mathlib.Core.List.Memᴰ
use mathlib.Core.List.{List, [], ◌∷◌, Memᴰ}
use mathlib.Core.Option.{Option, none, some}
use mathlib.Core.Logic.{inl, inr}
use Prim.Native.Nat.{ℕ, suc, ◌+◌}
use native.Mathlib.Nat.{add-zero, suc-add, add-suc}
use native.Mathlib.Omega.{arith}
use lib.Dec.{eqb, eqb→eq}
use lib.ListN.{length}
use Rattle.laws.proofs.Choices.{never, cond_cases}
use Rattle.lattice.specs.Pieces.{same, later, id_of, Distinct, no_piece, one_more}
use Rattle.lattice.specs.Pruning.{gone, Remap, no_entry, dropped, kept, survivors, renew}
use Rattle.lattice.proofs.Spelling.{found, stands_in, is_same}

-- an id that is renewed, if there is one; and one counted on from c
abbrev pub renewed : List ℕ → Option ℕ → Option ℕ
renewed remap none = none
renewed remap (some k) = renew remap k

abbrev on : ℕ → Option ℕ → Option ℕ
on c none = none
on c (some k) = some (c + k)

-- ---- the survivors are among the pieces, and as distinct as they
among : (remap : List ℕ) (ps : List (List ℕ)) (p : List ℕ) → Memᴰ p (survivors remap ps) → Memᴰ p ps
among [] ps p m = absurd (none_in m)
  where
    none_in : Memᴰ p [] → ⊥
    none_in h = elim h [ ]
among (r ∷ rs) [] p m = m
among (r ∷ rs) (q ∷ ps) p m = go (eqb r gone) (λ (h : Memᴰ p (survivors rs ps)). among rs ps p h) m
  where
    go : (b : Bool) → (Memᴰ p (survivors rs ps) → Memᴰ p ps) → Memᴰ p (cond b (survivors rs ps) (q ∷ survivors rs ps)) → Memᴰ p (q ∷ ps)
    go true f h = Memᴰ.tail (f h)
    go false f h = elim (Memᴰ.cases_cons h) [ inl e ↦ Memᴰ.head e | inr h ↦ Memᴰ.tail (f h) ]

pub still_distinct : (remap : List ℕ) {ps : List (List ℕ)} → Distinct ps → Distinct (survivors remap ps)
still_distinct [] d = no_piece
still_distinct (r ∷ rs) no_piece = no_piece
still_distinct (r ∷ rs) (one_more {p} {ps} n d) = cond_cases Distinct (eqb r gone) (survivors rs ps) (p ∷ survivors rs ps) (λ _. still_distinct rs d) (λ _. one_more (λ m. n (among rs ps p m)) (still_distinct rs d))

-- ---- the new id
-- a piece that is dropped is not found, nor told apart from one that never was
drop_step : (c : ℕ) (rs : List ℕ) (o s : Option ℕ) (b : Bool) → on c s ≡ renewed rs o → on c s ≡ renewed (gone ∷ rs) (later o b)
drop_step c rs (some j) s b e = e
drop_step c rs none s true e = e
drop_step c rs none s false e = e

-- a piece that stays is found at c, and those after it one further on
keep_step : (c : ℕ) (rs : List ℕ) (o s : Option ℕ) (b : Bool) → (c ≡ gone → ⊥) → ((j : ℕ) → o ≡ some j → b ≡ true → ⊥) → on (suc c) s ≡ renewed rs o → on c (later s b) ≡ renewed (c ∷ rs) (later o b)
keep_step c rs (some j) (some i) b n x e = ap some (add-suc c i ∙ sym (suc-add c i)) ∙ e
keep_step c rs (some j) none true n x e = absurd (x j refl refl)
keep_step c rs (some j) none false n x e = e
keep_step c rs none (some i) b n x e = let z : ◌≡◌ {A = ℕ} 0 1 = cc in absurd (omega arith)
keep_step c rs none none true n x e = ap some (add-zero c) ∙ sym (ap (λ (t : Bool). cond t none (some c)) (never (eqb c gone) (λ t. n (eqb→eq c gone t))))
keep_step c rs none none false n x e = refl

pub new_id : {c : ℕ} {remap : List ℕ} {ps : List (List ℕ)} → Remap c remap → Distinct ps → length remap ≡ length ps → (chars : List ℕ) → on c (id_of (survivors remap ps) chars) ≡ renewed remap (id_of ps chars)
new_id no_entry no_piece l chars = refl
new_id no_entry (one_more n d) l chars = absurd (omega arith)
new_id (dropped r) no_piece l chars = absurd (omega arith)
new_id (kept n r) no_piece l chars = absurd (omega arith)
new_id (dropped {from} {remap} r) (one_more {p} {ps} n d) l chars = drop_step from remap (id_of ps chars) (id_of (survivors remap ps) chars) (same p chars) (new_id r d (omega arith) chars)
new_id (kept {from} {remap} m r) (one_more {p} {ps} n d) l chars =
    ap (λ (t : Bool). on from (id_of (cond t (survivors remap ps) (p ∷ survivors remap ps)) chars)) (never (eqb from gone) (λ t. m (eqb→eq from gone t)))
    ∙ keep_step from remap (id_of ps chars) (id_of (survivors remap ps) chars) (same p chars) m
    (λ (j : ℕ) (e : id_of ps chars ≡ some j) (h : same p chars ≡ true). n (subst (λ (x : List ℕ). Memᴰ x ps) (sym (is_same p chars h)) (stands_in ps chars j (found ps chars j e))))
    (new_id r d (omega arith) chars)

-- from 0 on
same_on : (o : Option ℕ) → on 0 o ≡ o
same_on none = refl
same_on (some k) = ap some (zero_on k)
  where
    zero_on : (k : ℕ) → 0 + k ≡ k
    zero_on k = omega arith

pub renewed_id : {remap : List ℕ} {ps : List (List ℕ)} → Remap 0 remap → Distinct ps → length remap ≡ length ps → (chars : List ℕ) → renewed remap (id_of ps chars) ≡ id_of (survivors remap ps) chars
renewed_id {remap} {ps} r d l chars = sym (new_id r d l chars) ∙ same_on (id_of (survivors remap ps) chars)
