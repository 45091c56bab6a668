-- The sort by turned losses gives the ranked ids. Assumes nothing.
use mathlib.Core.Path.{◌≡◌, refl, sym, ap, ap₂, ◌∙◌, subst}
use mathlib.Core.Bool.{Bool, true, false, cond}
use mathlib.Core.List.{List, [], ◌∷◌, ◌++◌, map, append-nil}
use Prim.Native.Nat.{ℕ, zero, suc, ◌+◌, ◌-◌, ◌≤◌, ◌<◌}
use native.Mathlib.Omega.{arith}
use lib.Dec.{leb}
use lib.ListN.{length, get_or, take, drop, length-append, length-drop, length-map, drop_of_length-le}
use lib.Seq.{take_all, length-take-le}
use borrow.Author.Tests.{leb-true, leb-false, le-leb, lt-leb}
use Rattle.order.specs.Sort.{Order, ins, sort}
use Rattle.order.specs.Orders.{by_key, HasKey, Each, Sorting}
use Rattle.order.proofs.Items.{each_append, each_sort}
use Rattle.prune.specs.Prune.{costlier, ids, ranking}
use Rattle.order.proofs.Laws.{sort_long}
use Rattle.prune.specs.Steps.{turned, Pruning}

-- ---- runs of ids
pub ids_long : (from n : ℕ) → length (ids from n) ≡ n
ids_long from zero = refl
ids_long from (suc n) = ap suc (ids_long (suc from) n)

pub ids_take : (from n m : ℕ) → n ≤ m → take n (ids from m) ≡ ids from n
ids_take from zero m h = refl
ids_take from (suc n) zero h = absurd (omega arith)
ids_take from (suc n) (suc m) h = ap (λ (l : List ℕ). from ∷ l) (ids_take (suc from) n m (omega arith))

pub ids_drop : (from n m : ℕ) → n ≤ m → drop n (ids from m) ≡ ids (from + n) (m - n)
ids_drop from zero m h = let a : from ≡ from + 0 = omega arith in let b : m ≡ m - 0 = omega arith in ap₂ ids a b
ids_drop from (suc n) zero h = absurd (omega arith)
ids_drop from (suc n) (suc m) h =
    let a : suc from + n ≡ from + suc n = omega arith in
    let b : m - n ≡ suc m - suc n = omega arith in
    ids_drop (suc from) n m (omega arith) ∙ ap₂ ids a b

pub ids_each : (top from n : ℕ) → from + n ≤ top → Each (λ i. i < top) (ids from n)
ids_each top from zero h = tt
ids_each top from (suc n) h = (omega arith, ids_each top (suc from) n (omega arith))

-- ---- two orders that agree on the items sort alike
module _ (P : ℕ → Type 0) (le le' : Order) (agree : (i j : ℕ) → P i → P j → le i j ≡ le' i j) where
  ins_same : (x : ℕ) (l : List ℕ) → P x → Each P l → ins le x l ≡ ins le' x l
  ins_same x [] h e = refl
  ins_same x (y ∷ ys) h e =
      ap (λ (b : Bool). cond b (x ∷ y ∷ ys) (y ∷ ins le x ys)) (agree x y h e.0)
      ∙ ap (λ (l : List ℕ). cond (le' x y) (x ∷ y ∷ ys) (y ∷ l)) (ins_same x ys h e.1)

  pub sort_same : (l : List ℕ) → Each P l → sort le l ≡ sort le' l
  sort_same [] e = refl
  sort_same (x ∷ xs) e = ins_same x (sort le xs) e.0 (each_sort P le xs e.1) ∙ ap (ins le' x) (sort_same xs e.1)

-- ---- turned losses order the other way
turned_at : (losses : List ℕ) (i : ℕ) → i < length losses → get_or (map turned losses) i 0 ≡ turned (get_or losses i 0)
turned_at [] i h = absurd (omega arith)
turned_at (x ∷ l) zero h = refl
turned_at (x ∷ l) (suc i) h = turned_at l i (omega arith)

turned_round : (a b : ℕ) → a < 0x1_0000_0000_0000_0000 → b < 0x1_0000_0000_0000_0000 → leb (turned a) (turned b) ≡ leb b a
turned_round a b p q = go (leb b a) refl
  where
    go : (t : Bool) → leb b a ≡ t → leb (turned a) (turned b) ≡ t
    go true e = let l = leb-true b a e in le-leb (turned a) (turned b) (omega arith)
    go false e = let l = leb-false b a e in lt-leb (turned a) (turned b) (omega arith)

module _ (losses : List ℕ) (bits : (i : ℕ) → i < length losses → get_or losses i 0 < 0x1_0000_0000_0000_0000) where
  agree : (i j : ℕ) → i < length losses → j < length losses → by_key (map turned losses) i j ≡ costlier losses i j
  unfolding by_key costlier
  agree i j p q =
      ap₂ leb (turned_at losses i p) (turned_at losses j q)
      ∙ turned_round (get_or losses i 0) (get_or losses j 0) (bits i p) (bits j q)

  -- the ids after the required prefix, sorted where they stand
  pub ranked_is : (required : ℕ) → required ≤ length losses → {slots : List ℕ} → slots ≡ ids 0 (length losses)
      → take required slots ++ sort (by_key (map turned losses)) (drop required slots) ≡ ranking losses required
  ranked_is required h {slots} e =
      let n = length losses in
      let z : 0 + required ≡ required = omega arith in
      ap (λ (l : List ℕ). take required l ++ sort (by_key (map turned losses)) (drop required l)) e
      ∙ ap₂ (λ (a b : List ℕ). a ++ sort (by_key (map turned losses)) b) (ids_take 0 required n h)
      (ids_drop 0 required n h ∙ ap (λ (k : ℕ). ids k (n - required)) z)
      ∙ ap (λ (l : List ℕ). ids 0 required ++ l)
      (sort_same (λ (i : ℕ). i < n) (by_key (map turned losses)) (costlier losses) agree (ids required (n - required))
      (ids_each n required (n - required) (omega arith)))

-- ---- what is ranked: each id once
pub ranking_long : (losses : List ℕ) (required : ℕ) → required ≤ length losses
    → length (ranking losses required) ≡ length losses
ranking_long losses required h =
    let n = length losses in
    let others = ids required (n - required) in
    let a = length-append (ids 0 required) (sort (costlier losses) others) in
    let b = ids_long 0 required in
    let c = sort_long (costlier losses) others in
    let d = ids_long required (n - required) in
    omega arith

pub ranking_each : (losses : List ℕ) (required : ℕ) → required ≤ length losses
    → Each (λ i. i < length losses) (ranking losses required)
ranking_each losses required h =
    let n = length losses in
    let P : ℕ → Type 0 = λ i. i < n in
    each_append P (ids 0 required) (sort (costlier losses) (ids required (n - required))) (ids_each n 0 required (omega arith))
    (each_sort P (costlier losses) (ids required (n - required)) (ids_each n required (n - required) (omega arith)))

-- ---- the steps of `rank`
module _ {losses ranked work : List ℕ} {required : ℕ} (p : Pruning losses required ranked work)
    {losses' ranked' : List ℕ} (t : losses' ≡ map turned losses) (r : ranked' ≡ ids 0 (length ranked)) where
  slots : ranked' ≡ ids 0 (length losses)
  slots = r ∙ ap (ids 0) p.in_ranked

  slots_long : length ranked' ≡ length losses
  slots_long = ap length slots ∙ ids_long 0 (length losses)

  part_is : take (length ranked' - required) (drop required ranked') ≡ drop required ranked'
  part_is = take_all (length ranked' - required) (drop required ranked') (omega (arith, length-drop required ranked'))

  others : drop required ranked' ≡ ids required (length losses - required)
  others =
      let z : 0 + required ≡ required = omega arith in
      ap (drop required) slots ∙ ids_drop 0 required (length losses) p.there
      ∙ ap (λ (k : ℕ). ids k (length losses - required)) z

  pub rank_call : Sorting (HasKey losses') (take (length ranked' - required) (drop required ranked'))
      (take (length work - required) (drop required work))
  rank_call =
      let n = length losses in
      let m : length losses' ≡ n = ap length t ∙ length-map losses turned in
      record {
        each =
            subst (λ (l : List ℕ). Each (λ i. i < length losses') l) (sym (part_is ∙ others))
            (subst (λ (k : ℕ). Each (λ i. i < k) (ids required (n - required))) (sym m)
            (ids_each n required (n - required) (omega (arith, p.there))));
        even =
            let a = length-drop required work in
            let b = length-take-le (length work - required) (drop required work) (omega arith) in
            let c = ap length part_is ∙ length-drop required ranked' in
            let d = slots_long in
            let e = p.in_remap in
            omega arith;
      }

  pub rank_done : ((i : ℕ) → i < length losses → get_or losses i 0 < 0x1_0000_0000_0000_0000) → {part : List ℕ}
      → part ≡ sort (by_key losses') (take (length ranked' - required) (drop required ranked'))
      → take required ranked' ++ (part ++ drop (length ranked' - required) (drop required ranked')) ≡ ranking losses required
  rank_done bits {part} e =
      ap (λ (l : List ℕ). take required ranked' ++ (part ++ l))
      (drop_of_length-le (drop required ranked') {i = length ranked' - required} (omega (arith, length-drop required ranked')))
      ∙ ap (λ (l : List ℕ). take required ranked' ++ l)
      (append-nil part ∙ e ∙ ap₂ (λ (k l : List ℕ). sort (by_key k) l) t part_is)
      ∙ ranked_is losses bits required p.there slots
