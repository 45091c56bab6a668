-- The lattices that the rounds carry stay in step with the pieces. Assumes nothing.
use mathlib.Core.Path.{◌≡◌, sym, ap, ◌∙◌, subst}
use mathlib.Core.List.{List}
use Prim.Native.Nat.{ℕ, ◌≤◌, max}
use native.Mathlib.Omega.{arith}
use lib.ListN.{length}
use Rattle.spans.specs.Spans.{many}
use Rattle.settings.proofs.Theorems.{target_bound, pool_bound}
use Rattle.lattice.specs.Lattice.{Edge, cache}
use Rattle.lattice.specs.Pieces.{Distinct}
use Rattle.lattice.specs.Pruning.{retained, gone}
use Rattle.listing.specs.Start as start
use Rattle.model.specs.Model.{Model, Task, lattices, improved, pruned_to, remap_to, keep_next, rounds}
use Rattle.model.specs.Loop.{Sound, next, Reaches, here as arrived, further as onward}
use Rattle.model.proofs.Kept.{improved_pieces, improved_sound, improved_distinct, pruned_lattices}
use Rattle.model.proofs.Loop.{next_sound, next_distinct, unrolled, last_reached}
use Rattle.begun.specs.First.{first_model, target_in, task_of}
use Rattle.begun.proofs.Distinct.{seeded_distinct}
use Rattle.begun.proofs.Pieces.{seeded_required, seeded_few, scores_long}
use Rattle.training.specs.Train.{Seeds}
use Rattle.demands.specs.Demands.{Carries, here, further}

module _ (t : Task) where
  -- EM leaves the pieces, and so the lattices
  improved_lattices : (m : Model) → lattices t (improved t m) ≡ lattices t m
  improved_lattices m = ap (λ (ps : List (List ℕ)). cache t.setting ps t.words) (improved_pieces t m)

  one_turn : (m : Model) → Sound t m → Distinct m.pieces → retained (remap_to t (keep_next t (length m.pieces)) m) (lattices t m) ≡ lattices t (next t m)
  one_turn m s d =
      pruned_lattices t (keep_next t (length m.pieces)) m s d ∙ sym (improved_lattices (pruned_to t (keep_next t (length m.pieces)) m))

  carried : {m last : Model} {kept left : List (List (List Edge))} → Carries t m kept last left → Sound t m → Distinct m.pieces → kept ≡ lattices t m → left ≡ lattices t last
  carried here s d k = k
  carried (further {m} e c) s d k =
      carried c (next_sound t m s e) (next_distinct t m d) (ap (retained (remap_to t (keep_next t (length m.pieces)) m)) k ∙ one_turn m s d)

  -- every list that the rounds reach has its lattices
  reached : {m last : Model} → Reaches t m last → (kept : List (List (List Edge))) → ((left : List (List (List Edge))) × Carries t m kept last left)
  reached arrived kept = (kept, here)
  reached (onward {m} e r) kept = let c = reached r (retained (remap_to t (keep_next t (length m.pieces)) m) kept) in (c.0, further e c.1)

-- ---- the seed list is one to begin with
few : {n a b : ℕ} → n ≤ max a b → a ≤ 65536 → b ≤ 1048576 → n ≤ gone
few h k l = omega arith

at_most : {a b c : ℕ} → a ≤ b → b ≤ c → a ≤ c
at_most h k = omega arith

module _ (x : start.Lent) (w : start.Work) (pieces : List (List ℕ)) (required : ℕ) (s : Seeds x w pieces required) (h : required ≤ target_in x) where
  pub first_sound : Sound (task_of x required) (first_model (start.corpus x) pieces)
  first_sound =
      record {
        scored = scores_long (start.corpus x) pieces;
        there = seeded_required s.seeded;
        asked = h;
        few =
            few (seeded_few s.seeded) (at_most h (target_bound x.settings x.texts x.specials s.fit.settings_fit (many x.specials)))
            (pool_bound x.settings x.texts x.specials s.fit.settings_fit (many x.specials));
      }

  pub in_step : {last : Model} {left : List (List (List Edge))}
      → Carries (task_of x required) (improved (task_of x required) (first_model (start.corpus x) pieces)) (lattices (task_of x required) (first_model (start.corpus x) pieces)) last left
      → left ≡ lattices (task_of x required) last
  in_step c =
      carried (task_of x required) c
      (improved_sound (task_of x required) first_sound)
      (improved_distinct (task_of x required) (first_model (start.corpus x) pieces) (seeded_distinct s.seeded))
      (sym (improved_lattices (task_of x required) (first_model (start.corpus x) pieces)))

  pub to_the_end : ((left : List (List (List Edge)))
      × Carries (task_of x required) (improved (task_of x required) (first_model (start.corpus x) pieces)) (lattices (task_of x required) (first_model (start.corpus x) pieces))
      (rounds (task_of x required) (length pieces) (first_model (start.corpus x) pieces)) left)
  to_the_end =
      let t = task_of x required in
      let m = first_model (start.corpus x) pieces in
      reached t
      (subst (Reaches t (improved t m)) (sym (unrolled t (length pieces) m)) (last_reached t (length pieces) (improved t m) (improved_sound t first_sound)))
      (lattices t m)
