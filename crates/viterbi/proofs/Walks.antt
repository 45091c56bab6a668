-- The loops of the walk back. Assumes nothing.
use mathlib.Core.Path.{◌≡◌, refl, sym, ap, ◌∙◌, subst}
use mathlib.Core.List.{List, [], ◌∷◌, ◌++◌, map, reverse_aux, append_assoc}
use Prim.Native.Nat.{ℕ, suc, ◌+◌, ◌-◌, ◌≤◌, ◌<◌}
use native.Mathlib.Nat.{lt_irrefl}
use native.Mathlib.Omega.{arith}
use lib.ListN.{length, get_or, take, drop, set, length-set, take-append-drop}
use lib.Seq.{take-suc, set_at, length-take-le}
use Rattle.viterbi.specs.Walk.{Leads, Walk, spell}

-- ---- one walk, and no longer than its position
pub walk_one : (b s i : List ℕ) (p : ℕ) (ks js : List ℕ) → Walk b s i p ks → Walk b s i p js → ks ≡ js
walk_one b s i p [] [] v w = refl
walk_one b s i p [] (j ∷ js) v w = absurd (lt_irrefl 0 (subst (λ (x : ℕ). 0 < x) v w.0.above))
walk_one b s i p (k ∷ ks) [] v w = absurd (lt_irrefl 0 (subst (λ (x : ℕ). 0 < x) w v.0.above))
walk_one b s i p (k ∷ ks) (j ∷ js) v w =
    let e : k ≡ j = sym v.0.is ∙ w.0.is in
    let r : ks ≡ js = walk_one b s i (get_or s k 0) ks js v.1 (subst (λ (x : ℕ). Walk b s i (get_or s x 0) js) (sym e) w.1) in
    cc

pub walk_short : (b s i : List ℕ) (p : ℕ) (ks : List ℕ) → Walk b s i p ks → length ks ≤ p
walk_short b s i p [] w = omega arith
walk_short b s i p (k ∷ ks) w = let l = w.0.lower in let r = walk_short b s i (get_or s k 0) ks w.1 in omega arith

-- ---- the walk's next edge, at a position above 0
pub record Next (b s i : List ℕ) (p : ℕ) (ks : List ℕ) : Type 0 where
  pub more : List ℕ
  pub is : ks ≡ get_or b p 0 ∷ more
  pub leads : Leads b s i p (get_or b p 0)
  pub walk : Walk b s i (get_or s (get_or b p 0) 0) more

pub next : {b s i : List ℕ} {p : ℕ} (ks : List ℕ) → Walk b s i p ks → 0 < p → Next b s i p ks
next {b} {s} {i} {p} [] w h = absurd (lt_irrefl 0 (subst (λ (x : ℕ). 0 < x) w h))
next {b} {s} {i} {p} (k ∷ ks) w h =
    let e : k ≡ get_or b p 0 = sym w.0.is in
    record { more = ks; is = ap (λ (x : ℕ). x ∷ ks) e; leads = subst (Leads b s i p) e w.0; walk = subst (λ (x : ℕ). Walk b s i (get_or s x 0) ks) e w.1 }

-- ---- counting
pub record Counted (b s i : List ℕ) (n position count : ℕ) : Type 0 where
  pub all : List ℕ
  pub left : List ℕ
  pub whole : Walk b s i n all
  pub rest : Walk b s i position left
  pub sums : count + length left ≡ length all
  pub short : length all ≤ n
  pub near : position ≤ n

pub counted_none : {b s i : List ℕ} {n : ℕ} (ks : List ℕ) → Walk b s i n ks → Counted b s i n n 0
counted_none {b} {s} {i} {n} ks w = record { all = ks; left = ks; whole = w; rest = w; sums = omega arith; short = walk_short b s i n ks w; near = omega arith }

pub counted_more : {b s i : List ℕ} {n position count : ℕ} → 0 < position → Counted b s i n position count → Counted b s i n (get_or s (get_or b position 0) 0) (count + 1)
counted_more h c =
    let x = next c.left c.rest h in
    let l = ap length x.is in
    let d = x.leads.lower in
    record { all = c.all; left = x.more; whole = c.whole; rest = x.walk; sums = omega arith; short = c.short; near = omega arith }

pub counted_all : {b s i : List ℕ} {n position count : ℕ} → position ≤ 0 → Counted b s i n position count → (ks : List ℕ) → Walk b s i n ks → count ≡ length ks
counted_all {b} {s} {i} {n} {position} {count} h c ks w =
    let l = walk_short b s i position c.left c.rest in
    let e = ap length (walk_one b s i n c.all ks c.whole w) in
    omega arith

-- ---- writing: once `met` edges are met, their ids stand at the end of the first `count` slots
pub record Written (b s i base : List ℕ) (n count : ℕ) (out : List ℕ) (position met : ℕ) : Type 0 where
  pub all : List ℕ
  pub left : List ℕ
  pub done : List ℕ
  pub whole : Walk b s i n all
  pub rest : Walk b s i position left
  pub spelt : spell i all ≡ reverse_aux (map (λ k. get_or i k 0) left) done
  pub sums : met + length left ≡ count
  pub fits : count ≤ length base
  pub is : out ≡ take (length left) base ++ (done ++ drop count base)
  pub long : length out ≡ length base
  pub near : position ≤ n

pub written_none : {b s i base : List ℕ} {n count : ℕ} (ks : List ℕ) → Walk b s i n ks → length ks ≡ count → count ≤ length base → Written b s i base n count base n 0
written_none {b} {s} {i} {base} {n} {count} ks w e h =
    record {
      all = ks;
      left = ks;
      done = [];
      whole = w;
      rest = w;
      spelt = refl;
      sums = omega arith;
      fits = h;
      is = sym (take-append-drop count base) ∙ ap (λ (m : ℕ). take m base ++ drop count base) (sym e);
      long = refl;
      near = omega arith;
    }

put : {A : Type 0} (l r : List A) (slot : ℕ) (v : A) → slot < length l → set (take (suc slot) l ++ r) slot v ≡ take slot l ++ (v ∷ r)
put {A} l r slot v h =
    ap (λ (x : List A). set (x ++ r) slot v) (take-suc l slot v h)
    ∙ ap (λ (x : List A). set x slot v) (append_assoc (take slot l) (get_or l slot v ∷ []) r)
    ∙ set_at (take slot l) (get_or l slot v) r v slot (length-take-le slot l (omega arith))

pub written_more : {b s i base out : List ℕ} {n count position met : ℕ} → 0 < position → Written b s i base n count out position met
    → Written b s i base n count (set out (count - (met + 1)) (get_or i (get_or b position 0) 0)) (get_or s (get_or b position 0) 0) (met + 1)
written_more {b} {s} {i} {base} {out} {n} {count} {position} {met} h w =
    let x = next w.left w.rest h in
    let l = ap length x.is in
    let d = x.leads.lower in
    let v = get_or i (get_or b position 0) 0 in
    let slot : count - (met + 1) ≡ length x.more = omega arith in
    let before : out ≡ take (suc (length x.more)) base ++ (w.done ++ drop count base) = w.is ∙ ap (λ (m : ℕ). take m base ++ (w.done ++ drop count base)) l in
    record {
      all = w.all;
      left = x.more;
      done = v ∷ w.done;
      whole = w.whole;
      rest = x.walk;
      spelt = w.spelt ∙ ap (λ (z : List ℕ). reverse_aux (map (λ k. get_or i k 0) z) w.done) x.is;
      sums = omega arith;
      fits = w.fits;
      is = ap (λ (m : ℕ). set out m v) slot ∙ ap (λ (z : List ℕ). set z (length x.more) v) before ∙ put base (w.done ++ drop count base) (length x.more) v (omega arith);
      long = length-set out (count - (met + 1)) v ∙ w.long;
      near = omega arith;
    }

pub written_all : {b s i base out : List ℕ} {n count position met : ℕ} → position ≤ 0 → Written b s i base n count out position met → (ks : List ℕ) → Walk b s i n ks → out ≡ spell i ks ++ drop count base
written_all {b} {s} {i} {base} {out} {n} {count} {position} {met} h w ks v =
    let none : w.left ≡ [] = empty w.left (let l = walk_short b s i position w.left w.rest in omega arith) in
    let spelt : spell i ks ≡ w.done = ap (spell i) (walk_one b s i n ks w.all v w.whole) ∙ w.spelt ∙ ap (λ (z : List ℕ). reverse_aux (map (λ k. get_or i k 0) z) w.done) none in
    w.is ∙ ap (λ (z : List ℕ). take (length z) base ++ (w.done ++ drop count base)) none ∙ ap (λ (z : List ℕ). z ++ drop count base) (sym spelt)
  where
    empty : (l : List ℕ) → length l ≤ 0 → l ≡ []
    empty [] h = refl
    empty (x ∷ l) h = absurd (lt_irrefl 0 (omega arith))
