-- The rounds as a loop has them, turn by turn. Assumes nothing.
use mathlib.Core.Path.{◌≡◌, refl, sym, ap, ◌∙◌, subst}
use mathlib.Core.Bool.{Bool, true, false, cond}
use mathlib.Core.List.{List}
use Prim.Native.Nat.{ℕ, zero, suc, ◌≤◌, ◌<◌}
use native.Mathlib.Omega.{arith}
use lib.ListN.{length, take}
use Rattle.laws.proofs.Choices.{cond_cases}
use Rattle.lattice.specs.Pieces.{Distinct}
use Rattle.lattice.specs.Pruning.{gone, survivors}
use Rattle.keep.proofs.Theorems.{target_kept}
use Rattle.model.specs.Model.{Model, Task, improved, remap_to, pruned_to, keep_next, stops, rounds}
use Rattle.model.specs.Nodes.{nodes}
use Rattle.model.specs.Loop.{Sound, next, rest, Reaches, here, further, Going}
use Rattle.model.proofs.Nodes.{fewer_nodes}
use Rattle.model.proofs.Kept.{improved_pieces, improved_sound, improved_distinct, pruned_pieces, pruned_many, pruned_sound, pruned_distinct, required_stay, stops_true, going_on}

module _ (t : Task) where
  -- ---- a pruning and EM, of a list that has not come to its end
  module _ (m : Model) (s : Sound t m) (e : stops t (length m.pieces) ≡ false) where
    keep_required : t.required ≤ keep_next t (length m.pieces)
    keep_required = let a = s.asked in let b = target_kept (length m.pieces) t.factor t.target in omega arith

    keep_there : keep_next t (length m.pieces) ≤ length m.pieces
    keep_there = let a = going_on t (length m.pieces) e in omega arith

    -- exactly as many as are to be kept
    pub kept_exactly : length (pruned_to t (keep_next t (length m.pieces)) m).pieces ≡ keep_next t (length m.pieces)
    kept_exactly = pruned_many t m s.there s.few (keep_next t (length m.pieces)) keep_required keep_there

    pub next_many : length (next t m).pieces ≡ keep_next t (length m.pieces)
    next_many = ap length (improved_pieces t (pruned_to t (keep_next t (length m.pieces)) m)) ∙ kept_exactly

    pub next_fewer : length (next t m).pieces < length m.pieces
    next_fewer = let a = going_on t (length m.pieces) e in let b = next_many in omega arith

    pub next_target : t.target ≤ length (next t m).pieces
    next_target = let a = target_kept (length m.pieces) t.factor t.target in let b = next_many in omega arith

    pub next_sound : Sound t (next t m)
    next_sound = improved_sound t (pruned_sound t s (keep_next t (length m.pieces)))

  pub next_pieces : (m : Model) → (next t m).pieces ≡ survivors (remap_to t (keep_next t (length m.pieces)) m) m.pieces
  next_pieces m = improved_pieces t (pruned_to t (keep_next t (length m.pieces)) m) ∙ pruned_pieces t (keep_next t (length m.pieces)) m

  pub next_distinct : (m : Model) → Distinct m.pieces → Distinct (next t m).pieces
  next_distinct m d = improved_distinct t (pruned_to t (keep_next t (length m.pieces)) m) (pruned_distinct t (keep_next t (length m.pieces)) m d)

  pub next_front : (m : Model) → t.required ≤ length m.pieces → length m.pieces ≤ gone → take t.required (next t m).pieces ≡ take t.required m.pieces
  next_front m there few =
      ap (take t.required) (improved_pieces t (pruned_to t (keep_next t (length m.pieces)) m))
      ∙ required_stay t m there few (keep_next t (length m.pieces))

  pub next_nodes : (m : Model) → nodes (next t m).pieces ≤ nodes m.pieces
  next_nodes m =
      subst (λ (ps : List (List ℕ)). nodes ps ≤ nodes m.pieces) (sym (next_pieces m))
      (fewer_nodes (remap_to t (keep_next t (length m.pieces)) m) m.pieces)

  -- ---- one turn of each form
  pub rest_none : (m : Model) → rest t 0 m ≡ m
  unfolding rest
  rest_none m = refl

  pub rest_more : (more : ℕ) (m : Model) → rest t (suc more) m ≡ cond (stops t (length m.pieces)) m (rest t more (next t m))
  unfolding rest
  rest_more more m = refl

  pub rest_stops : (fuel : ℕ) (m : Model) → stops t (length m.pieces) ≡ true → rest t fuel m ≡ m
  rest_stops zero m e = rest_none m
  rest_stops (suc more) m e = rest_more more m ∙ ap (λ (b : Bool). cond b m (rest t more (next t m))) e

  pub rest_goes : (more : ℕ) (m : Model) → stops t (length m.pieces) ≡ false → rest t (suc more) m ≡ rest t more (next t m)
  rest_goes more m e = rest_more more m ∙ ap (λ (b : Bool). cond b m (rest t more (next t m))) e

  pub rounds_none : (m : Model) → rounds t 0 m ≡ improved t m
  unfolding rounds
  rounds_none m = refl

  pub rounds_more : (more : ℕ) (m : Model)
      → rounds t (suc more) m ≡ cond (stops t (length m.pieces)) (improved t m) (rounds t more (pruned_to t (keep_next t (length m.pieces)) (improved t m)))
  unfolding rounds
  rounds_more more m = refl

  pub rounds_stops : (fuel : ℕ) (m : Model) → stops t (length m.pieces) ≡ true → rounds t fuel m ≡ improved t m
  rounds_stops zero m e = rounds_none m
  rounds_stops (suc more) m e =
      rounds_more more m ∙ ap (λ (b : Bool). cond b (improved t m) (rounds t more (pruned_to t (keep_next t (length m.pieces)) (improved t m)))) e

  pub rounds_goes : (more : ℕ) (m : Model) → stops t (length m.pieces) ≡ false
      → rounds t (suc more) m ≡ rounds t more (pruned_to t (keep_next t (length m.pieces)) (improved t m))
  rounds_goes more m e =
      rounds_more more m ∙ ap (λ (b : Bool). cond b (improved t m) (rounds t more (pruned_to t (keep_next t (length m.pieces)) (improved t m)))) e

  -- ---- the two forms are one: "EM; while .. a pruning, EM" is "EM, and then a pruning and the next round, or no more"
  pub unrolled : (fuel : ℕ) (m : Model) → rounds t fuel m ≡ rest t fuel (improved t m)
  unrolled zero m = rounds_none m ∙ sym (rest_none (improved t m))
  unrolled (suc more) m =
      rounds_more more m
      ∙ ap (λ (x : Model). cond (stops t (length m.pieces)) (improved t m) x) (unrolled more (pruned_to t (keep_next t (length m.pieces)) (improved t m)))
      ∙ ap (λ (ps : List (List ℕ)). cond (stops t (length ps)) (improved t m) (rest t more (improved t (pruned_to t (keep_next t (length ps)) (improved t m))))) (sym (improved_pieces t m))
      ∙ sym (rest_more more (improved t m))

  -- ---- what each turn keeps holds at the end
  pub each_turn : (P : Model → Type 0) → ((m : Model) → stops t (length m.pieces) ≡ false → P m → P (next t m)) → (fuel : ℕ) (m : Model) → P m → P (rest t fuel m)
  each_turn P f zero m p = subst P (sym (rest_none m)) p
  each_turn P f (suc more) m p =
      subst P (sym (rest_more more m))
      (cond_cases P (stops t (length m.pieces)) m (rest t more (next t m)) (λ e. p) (λ e. each_turn P f more (next t m) (f m e p)))

  -- ---- with as many prunings as pieces, or more, the last list is one of which no fewer are to be kept
  empty_stops : (m : Model) → length m.pieces ≤ 0 → stops t (length m.pieces) ≡ true
  empty_stops m l = stops_true t (length m.pieces) (omega arith)

  pub last_stops : (fuel : ℕ) (m : Model) → Sound t m → length m.pieces ≤ fuel → stops t (length (rest t fuel m).pieces) ≡ true
  last_stops zero m s l = subst (λ (x : Model). stops t (length x.pieces) ≡ true) (sym (rest_none m)) (empty_stops m l)
  last_stops (suc more) m s l =
      subst (λ (x : Model). stops t (length x.pieces) ≡ true) (sym (rest_more more m))
      (cond_cases (λ (x : Model). stops t (length x.pieces) ≡ true) (stops t (length m.pieces)) m (rest t more (next t m)) (λ e. e)
      (λ e. last_stops more (next t m) (next_sound m s e) (let a = next_fewer m s e in omega arith)))

  -- it is reached, and no other such is
  pub last_reached : (fuel : ℕ) (m : Model) → Sound t m → Reaches t m (rest t fuel m)
  last_reached zero m s = subst (Reaches t m) (sym (rest_none m)) here
  last_reached (suc more) m s =
      subst (Reaches t m) (sym (rest_more more m))
      (cond_cases (Reaches t m) (stops t (length m.pieces)) m (rest t more (next t m)) (λ e. here)
      (λ e. further e (last_reached more (next t m) (next_sound m s e))))

  pub reached_last : {m last : Model} → Reaches t m last → Sound t m → (fuel : ℕ) → length m.pieces ≤ fuel → stops t (length last.pieces) ≡ true → rest t fuel m ≡ last
  reached_last (here {m}) s fuel l e = rest_stops fuel m e
  reached_last (further {m} {last} n r) s zero l e = absurd (let a = going_on t (length m.pieces) n in omega arith)
  reached_last (further {m} {last} n r) s (suc more) l e =
      rest_goes more m n ∙ reached_last r (next_sound m s n) more (let a = next_fewer m s n in omega arith) e

  -- so more prunings change nothing
  pub rest_same : (a b : ℕ) (m : Model) → Sound t m → length m.pieces ≤ a → length m.pieces ≤ b → rest t a m ≡ rest t b m
  rest_same a b m s l h = sym (reached_last (last_reached a m s) s b h (last_stops a m s l))

  -- ---- the loop's invariant
  module _ (begin : Model) where
    pub begun : Sound t begin → Going t begin (improved t begin)
    begun s =
        let e : length (improved t begin).pieces ≡ length begin.pieces = ap length (improved_pieces t begin) in
        record { fuel = length begin.pieces; enough = omega arith; same = sym (unrolled (length begin.pieces) begin); sound = improved_sound t s }

    pub again : (m : Model) → Going t begin m → stops t (length m.pieces) ≡ false → Going t begin (next t m)
    again m g e = go g.fuel g.enough g.same
      where
        go : (fuel : ℕ) → length m.pieces ≤ fuel → rest t fuel m ≡ rounds t (length begin.pieces) begin → Going t begin (next t m)
        go zero l x = absurd (let a = going_on t (length m.pieces) e in omega arith)
        go (suc more) l x =
            record {
              fuel = more;
              enough = let a = next_fewer m g.sound e in omega arith;
              same = sym (rest_goes more m e) ∙ x;
              sound = next_sound m g.sound e;
            }

    pub finished : (m : Model) → Going t begin m → stops t (length m.pieces) ≡ true → m ≡ rounds t (length begin.pieces) begin
    finished m g e = sym (rest_stops g.fuel m e) ∙ g.same
