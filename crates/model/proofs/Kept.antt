-- What EM and a pruning keep: how many scores and pieces there are, that pieces are distinct, and the required ones in front.
-- Assumes nothing.
use mathlib.Core.Path.{◌≡◌, refl, sym, ap, ◌∙◌, subst}
use mathlib.Core.Bool.{Bool, true, false, cond, ◌||◌}
use mathlib.Core.List.{List, [], ◌∷◌}
use Prim.Native.Nat.{ℕ, zero, suc, ◌+◌, ◌≤◌, ◌<◌}
use native.Mathlib.Omega.{arith}
use lib.Dec.{eqb, leb}
use lib.ListN.{length, get_or, take, length-map}
use lib.Ieee.{binary64, to_bits}
use borrow.Author.Tests.{ne_eqb, le-leb, lt-leb, leb-true, leb-false}
use Rattle.lattice.specs.Lattice.{cache}
use Rattle.lattice.specs.Pieces.{Distinct}
use Rattle.lattice.specs.Pruning.{gone, Remap, survivors, retained}
use Rattle.lattice.proofs.Survivors.{still_distinct}
use Rattle.lattice.proofs.Theorems.{in_step_once}
use Rattle.trie.proofs.Same.{length_first}
use Rattle.keep.proofs.Theorems.{target_kept}
use Rattle.em.specs.Em.{em, em_many}
use Rattle.em.proofs.Lengths.{em_long}
use Rattle.em.proofs.Theorems.{as_many}
use Rattle.uses.specs.Uses.{uses_of}
use Rattle.losses.specs.Losses.{loss_at, losses_of}
use Rattle.prune.specs.Prune.{lives, remap_from, kept}
use Rattle.prune.specs.Compact.{surviving}
use Rattle.prune.proofs.Theorems.{entries, is_remap, how_many, costliest_survive, same_survivors}
use Rattle.model.specs.Model.{Model, Task, lattices, improved, improved_once, loss_bits, remap_to, pruned_to, keep_next, stops}
use Rattle.model.specs.Loop.{Sound}

-- of two lists of one item a piece, as many are left
left_level : {A B : Type 0} (remap : List ℕ) (xs : List A) (ys : List B) → length xs ≡ length ys → length (surviving remap xs) ≡ length (surviving remap ys)
left_level [] xs ys e = refl
left_level (r ∷ rs) [] [] e = refl
left_level (r ∷ rs) [] (y ∷ ys) e = absurd (omega arith)
left_level (r ∷ rs) (x ∷ xs) [] e = absurd (omega arith)
left_level {A} {B} (r ∷ rs) (x ∷ xs) (y ∷ ys) e = go (eqb r gone) (left_level rs xs ys (omega arith))
  where
    go : (b : Bool) → length (surviving rs xs) ≡ length (surviving rs ys) → length (cond b (surviving rs xs) (x ∷ surviving rs xs)) ≡ length (cond b (surviving rs ys) (y ∷ surviving rs ys))
    go true i = i
    go false i = ap suc i

module _ (t : Task) where
  -- ---- EM
  pub improved_is : (m : Model) → improved t m ≡ record { pieces = m.pieces; scores = em_many (lattices t m) t.frequencies t.iterations m.scores }
  unfolding improved
  improved_is m = refl

  pub improved_once_is : (m : Model) → improved_once t m ≡ record { pieces = m.pieces; scores = em (lattices t m) t.frequencies m.scores }
  unfolding improved_once
  improved_once_is m = refl

  pub improved_pieces : (m : Model) → (improved t m).pieces ≡ m.pieces
  unfolding improved
  improved_pieces m = refl

  pub improved_once_pieces : (m : Model) → (improved_once t m).pieces ≡ m.pieces
  unfolding improved_once
  improved_once_pieces m = refl

  pub improved_scores : (m : Model) → length (improved t m).scores ≡ length m.scores
  unfolding improved
  improved_scores m = as_many (lattices t m) t.frequencies t.iterations m.scores

  pub improved_once_scores : (m : Model) → length (improved_once t m).scores ≡ length m.scores
  unfolding improved_once
  improved_once_scores m = em_long (lattices t m) t.frequencies m.scores

  pub improved_lattices : (m : Model) → lattices t (improved t m) ≡ lattices t m
  improved_lattices m = ap (λ (ps : List (List ℕ)). cache t.setting ps t.words) (improved_pieces m)

  pub improved_sound : {m : Model} → Sound t m → Sound t (improved t m)
  improved_sound {m} s =
      let p : length (improved t m).pieces ≡ length m.pieces = ap length (improved_pieces m) in
      let q = improved_scores m in
      let a = s.scored in
      let b = s.there in
      let c = s.few in
      record { scored = omega arith; there = omega arith; asked = s.asked; few = omega arith }

  pub improved_once_sound : {m : Model} → Sound t m → Sound t (improved_once t m)
  improved_once_sound {m} s =
      let p : length (improved_once t m).pieces ≡ length m.pieces = ap length (improved_once_pieces m) in
      let q = improved_once_scores m in
      let a = s.scored in
      let b = s.there in
      let c = s.few in
      record { scored = omega arith; there = omega arith; asked = s.asked; few = omega arith }

  -- ---- a pruning
  pub pruned_pieces : (keep : ℕ) (m : Model) → (pruned_to t keep m).pieces ≡ survivors (remap_to t keep m) m.pieces
  unfolding pruned_to
  pruned_pieces keep m = refl

  pub pruned_scores : (keep : ℕ) (m : Model) → (pruned_to t keep m).scores ≡ surviving (remap_to t keep m) m.scores
  unfolding pruned_to
  pruned_scores keep m = refl

  -- a loss for each piece
  pub losses_many : (m : Model) → length (loss_bits t m) ≡ length m.pieces
  losses_many m =
      let losses = losses_of t.setting m.pieces m.scores (uses_of (lattices t m) t.frequencies m.scores) in
      length-map losses (to_bits binary64)
      ∙ length_first (loss_at t.setting m.pieces m.scores (uses_of (lattices t m) t.frequencies m.scores)) (length m.pieces)

  module _ (m : Model) (there : t.required ≤ length m.pieces) where
    enough_losses : t.required ≤ length (loss_bits t m)
    enough_losses = let e = losses_many m in omega arith

    -- a remap entry for each piece
    pub remap_many : (keep : ℕ) → length (remap_to t keep m) ≡ length m.pieces
    remap_many keep = entries (loss_bits t m) t.required keep enough_losses ∙ losses_many m

    module _ (few : length m.pieces ≤ gone) (keep : ℕ) where
      few_losses : length (loss_bits t m) ≤ gone
      few_losses = let e = losses_many m in omega arith

      pub remap_sound : Remap 0 (remap_to t keep m)
      remap_sound = is_remap (loss_bits t m) t.required keep enough_losses few_losses

      -- of one item a piece: as many as are to be kept; or those required, where they are more; or all, where there are fewer
      left_many : {A : Type 0} (l : List A) → length l ≡ length m.pieces → length (surviving (remap_to t keep m) l) ≡ kept t.required keep (length m.pieces)
      left_many l e =
          how_many (loss_bits t m) t.required keep enough_losses few_losses l (e ∙ sym (losses_many m))
          ∙ ap (kept t.required keep) (losses_many m)

      pub pruned_kept : length (pruned_to t keep m).pieces ≡ kept t.required keep (length m.pieces)
      pruned_kept = ap length (pruned_pieces keep m ∙ sym (same_survivors (remap_to t keep m) m.pieces)) ∙ left_many m.pieces refl

      -- exactly as many as are to be kept, where no more are required
      pub pruned_many : t.required ≤ keep → keep ≤ length m.pieces → length (pruned_to t keep m).pieces ≡ keep
      pruned_many a b = let e = pruned_kept in omega arith

  -- a score for each piece, still
  pub pruned_scored : (keep : ℕ) (m : Model) → length m.scores ≡ length m.pieces → length (pruned_to t keep m).scores ≡ length (pruned_to t keep m).pieces
  pruned_scored keep m e =
      ap length (pruned_scores keep m)
      ∙ left_level (remap_to t keep m) m.scores m.pieces e
      ∙ ap length (same_survivors (remap_to t keep m) m.pieces ∙ sym (pruned_pieces keep m))

  pub pruned_sound : {m : Model} → Sound t m → (keep : ℕ) → Sound t (pruned_to t keep m)
  pruned_sound {m} s keep =
      let p = pruned_kept m s.there s.few keep in
      let a = s.there in
      let b = s.few in
      record { scored = pruned_scored keep m s.scored; there = omega arith; asked = s.asked; few = omega arith }

  -- ---- no spelling comes to stand twice
  pub improved_distinct : (m : Model) → Distinct m.pieces → Distinct (improved t m).pieces
  improved_distinct m d = subst Distinct (sym (improved_pieces m)) d

  pub pruned_distinct : (keep : ℕ) (m : Model) → Distinct m.pieces → Distinct (pruned_to t keep m).pieces
  pruned_distinct keep m d = subst Distinct (sym (pruned_pieces keep m)) (still_distinct (remap_to t keep m) d)

module _ (t : Task) (keep : ℕ) (m : Model) (s : Sound t m) (distinct : Distinct m.pieces) where
  -- the cache with every lattice pruned is the cache that is built afresh
  pub pruned_lattices : retained (remap_to t keep m) (lattices t m) ≡ lattices t (pruned_to t keep m)
  pruned_lattices =
      in_step_once t.setting (remap_sound t m s.there s.few keep) distinct (remap_many t m s.there keep) t.words
      ∙ ap (λ (ps : List (List ℕ)). cache t.setting ps t.words) (sym (pruned_pieces t keep m))

-- ---- "the required prefix always"
-- where the first r live, they are the first of those left
front_left : {A : Type 0} (next : ℕ) (l : List Bool) (xs : List A) (r : ℕ) → next + length l ≤ gone → r ≤ length l → length xs ≡ length l
    → ((id : ℕ) → id < r → get_or l id false ≡ true) → take r (surviving (remap_from next l) xs) ≡ take r xs
front_left next l xs zero h n e live = refl
front_left next [] xs (suc r) h n e live = absurd (omega arith)
front_left next (true ∷ l) [] (suc r) h n e live = absurd (omega arith)
front_left next (false ∷ l) xs (suc r) h n e live = absurd (apart (live 0 (omega arith)))
  where
    apart : false ≡ true → ⊥
    apart e = let z : ◌≡◌ {A = ℕ} 0 1 = cc in omega arith
front_left {A} next (true ∷ l) (x ∷ xs) (suc r) h n e live =
    ap (λ (b : Bool). take (suc r) (cond b (surviving (remap_from (suc next) l) xs) (x ∷ surviving (remap_from (suc next) l) xs))) (ne_eqb next gone (below next (length l) h))
    ∙ ap (λ (ys : List A). x ∷ ys) (front_left (suc next) l xs r (omega arith) (omega arith) (omega arith) (λ id i. live (suc id) (omega arith)))
  where
    below : (next n : ℕ) → next + suc n ≤ gone → next ≡ gone → ⊥
    below next n h e = omega arith

module _ (t : Task) (m : Model) (there : t.required ≤ length m.pieces) (few : length m.pieces ≤ gone) (keep : ℕ) where
  front_stays : {A : Type 0} (xs : List A) → length xs ≡ length m.pieces → take t.required (surviving (remap_to t keep m) xs) ≡ take t.required xs
  front_stays xs e =
      let n = losses_many t m in
      let s = costliest_survive (loss_bits t m) t.required keep (omega arith) in
      let k = s.each in
      front_left 0 (lives (loss_bits t m) t.required keep) xs t.required (omega arith) (omega arith) (omega arith) s.prefix

  pub required_stay : take t.required (pruned_to t keep m).pieces ≡ take t.required m.pieces
  required_stay = ap (take t.required) (pruned_pieces t keep m ∙ sym (same_survivors (remap_to t keep m) m.pieces)) ∙ front_stays m.pieces refl

  pub required_scores_stay : length m.scores ≡ length m.pieces → take t.required (pruned_to t keep m).scores ≡ take t.required m.scores
  required_scores_stay e = ap (take t.required) (pruned_scores t keep m) ∙ front_stays m.scores e

-- ---- when the rounds end
module _ (t : Task) where
  -- a list that is not over target is kept whole, so that one test is enough
  pub one_test : (pieces : ℕ) → stops t pieces ≡ leb pieces (keep_next t pieces)
  one_test pieces = go (leb pieces t.target) refl
    where
      go : (b : Bool) → leb pieces t.target ≡ b → (b || leb pieces (keep_next t pieces)) ≡ leb pieces (keep_next t pieces)
      go true e = let l = leb-true pieces t.target e in let k = target_kept pieces t.factor t.target in sym (le-leb pieces (keep_next t pieces) (omega arith))
      go false e = refl

  pub stops_true : (pieces : ℕ) → pieces ≤ keep_next t pieces → stops t pieces ≡ true
  stops_true pieces h = one_test pieces ∙ le-leb pieces (keep_next t pieces) h

  pub stops_false : (pieces : ℕ) → keep_next t pieces < pieces → stops t pieces ≡ false
  stops_false pieces h = one_test pieces ∙ lt-leb pieces (keep_next t pieces) h

  pub stopped : (pieces : ℕ) → stops t pieces ≡ true → pieces ≤ keep_next t pieces
  stopped pieces e = leb-true pieces (keep_next t pieces) (sym (one_test pieces) ∙ e)

  pub going_on : (pieces : ℕ) → stops t pieces ≡ false → keep_next t pieces < pieces
  going_on pieces e = leb-false pieces (keep_next t pieces) (sym (one_test pieces) ∙ e)
