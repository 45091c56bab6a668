-- What document 01 says of the rounds, port order 11: "The count kept is pieces times `shrink_factor`, [..] then not below target. If
-- that is not below the piece count, training stops as stalled, over target. Below 1, each round loses at least one piece, and a
-- list over target ends at exactly target." Assumes nothing.
use mathlib.Core.Path.{◌≡◌, refl, sym, ap, ◌∙◌, subst}
use mathlib.Core.Bool.{Bool, true, false}
use mathlib.Core.List.{List}
use Prim.Native.Nat.{ℕ, ◌≤◌, ◌<◌}
use native.Mathlib.Decide.{dec_lt}
use native.Mathlib.Nat.{le_refl}
use native.Mathlib.Omega.{arith}
use lib.Dec.{T}
use lib.Ieee.{binary64, fits, le}
use lib.ListN.{length, take}
use borrow.Author.Tests.{ltb-true, ltb-false, le-ltb}
use Rattle.laws.specs.Tests.{Says}
use Rattle.lattice.specs.Pieces.{Distinct}
use Rattle.lattice.specs.Pruning.{gone}
use Rattle.keep.proofs.Below.{one}
use Rattle.keep.proofs.Theorems.{target_kept, fewer_kept}
use Rattle.model.specs.Model.{Model, Task, improved, pruned_to, keep_next, stops, rounds, trained, stalled}
use Rattle.model.specs.Nodes.{nodes}
use Rattle.model.specs.Loop.{Sound, rest, Reaches, Stalls}
use Rattle.model.proofs.Kept.{improved_pieces, improved_once_pieces, improved_sound, improved_distinct, improved_once_sound, pruned_many, stops_true, stopped, going_on}
use Rattle.model.proofs.Loop.{next_sound, next_fewer, next_target, next_distinct, next_front, next_nodes, unrolled, each_turn, rest_same, rounds_stops, last_stops, last_reached, reached_last}

module _ (t : Task) where
  improved_length : (m : Model) → length (improved t m).pieces ≡ length m.pieces
  improved_length m = ap length (improved_pieces t m)

  -- ---- where the rounds go on, the list is pruned to exactly as many as are to be kept: strictly fewer, and at least the target
  module _ (m : Model) (s : Sound t m) (e : stops t (length m.pieces) ≡ false) where
    pub exactly : length (pruned_to t (keep_next t (length m.pieces)) (improved t m)).pieces ≡ keep_next t (length m.pieces)
    exactly =
        let i = improved_sound t s in
        let n = improved_length m in
        let a = target_kept (length m.pieces) t.factor t.target in
        let b = s.asked in
        let c = going_on t (length m.pieces) e in
        pruned_many t (improved t m) i.there i.few (keep_next t (length m.pieces)) (omega arith) (omega arith)

    pub fewer : length (pruned_to t (keep_next t (length m.pieces)) (improved t m)).pieces < length m.pieces
    fewer = let a = exactly in let b = going_on t (length m.pieces) e in omega arith

    pub not_below_target : t.target ≤ length (pruned_to t (keep_next t (length m.pieces)) (improved t m)).pieces
    not_below_target = let a = exactly in let b = target_kept (length m.pieces) t.factor t.target in omega arith

  -- ---- a list that is not over target is kept whole
  pub kept_whole : (fuel : ℕ) (m : Model) → length m.pieces ≤ t.target → rounds t fuel m ≡ improved t m
  kept_whole fuel m h = rounds_stops t fuel m (let a = target_kept (length m.pieces) t.factor t.target in stops_true t (length m.pieces) (omega arith))

  -- ---- no list has more prunings than pieces: more change nothing
  pub enough_rounds : (m : Model) → Sound t m → (more : ℕ) → length m.pieces ≤ more → rounds t more m ≡ rounds t (length m.pieces) m
  enough_rounds m s more h =
      let n = improved_length m in
      unrolled t more m ∙ rest_same t more (length m.pieces) (improved t m) (improved_sound t s) (omega arith) (omega arith) ∙ sym (unrolled t (length m.pieces) m)

  -- ---- what the rounds keep
  pub rounds_sound : (fuel : ℕ) (m : Model) → Sound t m → Sound t (rounds t fuel m)
  rounds_sound fuel m s = subst (Sound t) (sym (unrolled t fuel m)) (each_turn t (Sound t) (λ n e p. next_sound t n p e) fuel (improved t m) (improved_sound t s))

  -- "One last EM follows."
  pub trained_pieces : (m : Model) → (trained t m).pieces ≡ (rounds t (length m.pieces) m).pieces
  trained_pieces m = improved_once_pieces t (rounds t (length m.pieces) m)

  pub trained_sound : (m : Model) → Sound t m → Sound t (trained t m)
  trained_sound m s = improved_once_sound t (rounds_sound (length m.pieces) m s)

  pub rounds_distinct : (fuel : ℕ) (m : Model) → Distinct m.pieces → Distinct (rounds t fuel m).pieces
  rounds_distinct fuel m d =
      subst (λ (x : Model). Distinct x.pieces) (sym (unrolled t fuel m))
      (each_turn t (λ x. Distinct x.pieces) (λ n e p. next_distinct t n p) fuel (improved t m) (improved_distinct t m d))

  -- "the required prefix always"
  pub rounds_front : (fuel : ℕ) (m : Model) → Sound t m → take t.required (rounds t fuel m).pieces ≡ take t.required m.pieces
  rounds_front fuel m s =
      subst Front (sym (unrolled t fuel m))
      (each_turn t (λ x. Sound t x × Front x) (λ n e p. (next_sound t n p.0 e, next_front t n p.0.there p.0.few ∙ p.1)) fuel (improved t m)
      (improved_sound t s, ap (take t.required) (improved_pieces t m))).1
    where
      Front : Model → Type 0
      Front x = take t.required x.pieces ≡ take t.required m.pieces

  pub rounds_nodes : (fuel : ℕ) (m : Model) → nodes (rounds t fuel m).pieces ≤ nodes m.pieces
  rounds_nodes fuel m =
      subst Few (sym (unrolled t fuel m))
      (each_turn t Few (λ n e p. let a = next_nodes t n in omega arith) fuel (improved t m)
      (subst (λ (ps : List (List ℕ)). nodes ps ≤ nodes m.pieces) (sym (improved_pieces t m)) (le_refl (nodes m.pieces))))
    where
      Few : Model → Type 0
      Few x = nodes x.pieces ≤ nodes m.pieces

  -- never fewer than the target
  pub rounds_target : (fuel : ℕ) (m : Model) → Sound t m → t.target ≤ length m.pieces → t.target ≤ length (rounds t fuel m).pieces
  rounds_target fuel m s h =
      subst (λ (x : Model). t.target ≤ length x.pieces) (sym (unrolled t fuel m))
      (each_turn t (λ x. Sound t x × (t.target ≤ length x.pieces)) (λ n e p. (next_sound t n p.0 e, next_target t n p.0 e)) fuel (improved t m)
      (improved_sound t s, let n = improved_length m in omega arith)).1

  -- ---- "Below 1, each round loses at least one piece": also at NaN, minus infinity and below zero, which are not 1 or more
  pub below_one_goes : T (fits binary64 t.factor) → (T (le one t.factor) → ⊥) → (pieces : ℕ) → t.target < pieces → pieces ≤ gone
      → keep_next t pieces < pieces
  below_one_goes f64 not-one pieces h few = fewer_kept pieces t.factor (omega arith) (omega arith) f64 not-one t.target h

  -- ---- where the rounds end, no fewer are to be kept than there are
  module _ (m : Model) (s : Sound t m) where
    final_stops : stops t (length (rounds t (length m.pieces) m).pieces) ≡ true
    final_stops =
        let n = improved_length m in
        subst (λ (x : Model). stops t (length x.pieces) ≡ true) (sym (unrolled t (length m.pieces) m))
        (last_stops t (length m.pieces) (improved t m) (improved_sound t s) (omega arith))

    pub final_kept : length (rounds t (length m.pieces) m).pieces ≤ keep_next t (length (rounds t (length m.pieces) m).pieces)
    final_kept = stopped t (length (rounds t (length m.pieces) m).pieces) final_stops

    -- the final list is over target exactly where a list is reached that is over target, of which no fewer are to be kept
    pub stalled_exactly : Says (stalled t (rounds t (length m.pieces) m)) (Stalls t m)
    stalled_exactly = go (stalled t (rounds t (length m.pieces) m)) refl
      where
        go : (b : Bool) → stalled t (rounds t (length m.pieces) m) ≡ b → Says b (Stalls t m)
        go true e =
            record {
              last = rounds t (length m.pieces) m;
              reached = subst (Reaches t (improved t m)) (sym (unrolled t (length m.pieces) m)) (last_reached t (length m.pieces) (improved t m) (improved_sound t s));
              over = ltb-true t.target (length (rounds t (length m.pieces) m).pieces) e;
              stuck = final_kept;
            }
        go false e = λ x.
            let n = improved_length m in
            let l = x.last in
            let a : rest t (length m.pieces) (improved t m) ≡ l = reached_last t x.reached (improved_sound t s) (length m.pieces) (omega arith) (stops_true t (length l.pieces) x.stuck) in
            let b : length (rounds t (length m.pieces) m).pieces ≡ length l.pieces = ap (λ (y : Model). length y.pieces) (unrolled t (length m.pieces) m ∙ a) in
            let c = ltb-false t.target (length (rounds t (length m.pieces) m).pieces) e in
            let d = x.over in
            omega arith

    -- ---- "Below 1, [..] a list over target ends at exactly target."
    module _ (f64 : T (fits binary64 t.factor)) (not-one : T (le one t.factor) → ⊥) where
      pub ends_at_target : t.target ≤ length m.pieces → length (rounds t (length m.pieces) m).pieces ≡ t.target
      ends_at_target h =
          let a = rounds_target (length m.pieces) m s h in
          let b = final_kept in
          let c = (rounds_sound (length m.pieces) m s).few in
          elim (dec_lt t.target (length (rounds t (length m.pieces) m).pieces)) [
            | yes l ↦ let d = below_one_goes f64 not-one (length (rounds t (length m.pieces) m).pieces) l c in absurd (omega arith)
            | no l ↦ omega arith
          ]

      pub never_stalls : stalled t (rounds t (length m.pieces) m) ≡ false
      never_stalls =
          let b = final_kept in
          let c = (rounds_sound (length m.pieces) m s).few in
          elim (dec_lt t.target (length (rounds t (length m.pieces) m).pieces)) [
            | yes l ↦ let d = below_one_goes f64 not-one (length (rounds t (length m.pieces) m).pieces) l c in absurd (omega arith)
            | no l ↦ le-ltb t.target (length (rounds t (length m.pieces) m).pieces) (omega arith)
          ]

-- ---- and no list becomes longer
pub rounds_fewer : (t : Task) (fuel : ℕ) (m : Model) → Sound t m → length (rounds t fuel m).pieces ≤ length m.pieces
rounds_fewer t fuel m s =
    let a = each_turn t (λ (x : Model). Sound t x × (length x.pieces ≤ length m.pieces))
    (λ x goes h. (next_sound t x h.0 goes, let b = next_fewer t x h.0 goes in let c = h.1 in omega arith)) fuel (improved t m)
    (improved_sound t s, let b = ap length (improved_pieces t m) in omega arith) in
    let e = ap (λ (x : Model). length x.pieces) (unrolled t fuel m) in
    let b = a.1 in
    omega arith
