-- What the best cut of a word leaves in front of a path. Assumes nothing.
use Rattle.std.proofs.Common.{◌≡◌, ℕ, ◌≤◌, List, [], ◌∷◌, ◌++◌, map, length, get_or, take, drop, sym, ap, ◌∙◌, subst, le_refl, arith, take_at}
use mathlib.Core.List.{reverse_aux}
use lib.Ieee.{Float}
use Rattle.scores.specs.Cuts.{Cut}
use Rattle.viterbi.specs.Slices.{lattice_of, WellFormed}
use Rattle.viterbi.specs.Path.{path}
use Rattle.viterbi.proofs.Shapes.{end_of}
use Rattle.viterbi.proofs.Paths.{path_cases}
use Rattle.uses.specs.Steps.{Named}

-- ---- ids that are read backwards
named_back : (pieces : ℕ) (xs acc : List ℕ) → Named pieces xs → Named pieces acc → Named pieces (reverse_aux xs acc)
named_back pieces [] acc n m = m
named_back pieces (x ∷ xs) acc n m = named_back pieces xs (x ∷ acc) n.1 (n.0, m)

module _ {offsets starts ids : List ℕ} {scores : List Float} {n : ℕ} (w : WellFormed offsets starts ids scores n) where
  -- the ids of a cut's edges
  cut_named : (ks : List ℕ) (p : ℕ) → p ≤ n → Cut (lattice_of offsets starts ids scores) p ks → Named (length scores) (map (λ k. get_or ids k 0) ks)
  cut_named [] p l c = tt
  cut_named (k ∷ ks) p l c =
      let f = (end_of w p l).each k c.0.0 c.0.1 in
      let b = f.before in
      (f.named, cut_named ks (get_or starts k 0) (omega arith) c.1)

  named : Named (length scores) (path offsets starts ids n scores)
  named = path_cases offsets starts ids scores n w (Named (length scores)) tt (λ cut c. named_back (length scores) (map (λ k. get_or ids k 0) cut) [] (cut_named cut n (le_refl n) c) tt)

  module _ (before after : List ℕ) (count : ℕ) (count_is : count ≡ length (path offsets starts ids n scores)) (written : after ≡ path offsets starts ids n scores ++ drop count before) where
    -- they are the path
    front_is : take count after ≡ path offsets starts ids n scores
    front_is = ap (take count) written ∙ take_at (path offsets starts ids n scores) (drop count before) count (sym count_is)

    -- and each is a piece's
    pub path_named : (uses : List Float) → length uses ≡ length scores → Named (length uses) (take count after)
    path_named uses e = subst (λ (m : ℕ). Named m (take count after)) (sym e) (subst (Named (length scores)) (sym front_is) named)
