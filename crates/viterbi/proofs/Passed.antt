-- What the forward pass leaves: the greatest sums, the edges that give them, and what stands behind. Assumes nothing.
use mathlib.Core.Path.{◌≡◌, ap, ◌∙◌}
use mathlib.Core.List.{List, ◌++◌}
use Prim.Native.Nat.{ℕ, ◌+◌, ◌≤◌}
use native.Mathlib.Omega.{arith}
use lib.ListN.{length, get_or, drop, get_or-append}
use lib.Seq.{drop_at}
use lib.Ieee.{Float, nan}
use Rattle.scores.specs.Cuts.{Lattice}
use Rattle.scores.specs.Table.{table, best, edge, edges_to}
use Rattle.scores.specs.Floats.{f64s}
use Rattle.scores.proofs.Table.{long_table, long_edges, edges_at}
use Rattle.viterbi.specs.Slices.{lattice_of, without}
use Rattle.viterbi.specs.Answers.{Behind}
use Rattle.viterbi.proofs.Offers.{without_none}

-- ---- what stands behind is kept
pub behind : {A : Type 0} (front before after : List A) (n : ℕ) → length front ≡ n + 1 → after ≡ front ++ drop (n + 1) before → Behind n before after
behind front before after n h e = ap (drop (n + 1)) e ∙ drop_at front (drop (n + 1) before) (n + 1) h

-- the greatest sum at n, from what the pass leaves in `best`
pub top_is : (l : Lattice Float) (n : ℕ) (rest b : List Float) → b ≡ table f64s l n ++ rest → get_or b n nan ≡ best f64s l n
top_is l n rest b e = ap (λ (t : List Float). get_or t n nan) e ∙ get_or-append (table f64s l n) rest nan n (let t = long_table f64s l n in omega arith)

-- and the edge at each position, from what it leaves in `back`
pub back_is : (l : Lattice Float) (n : ℕ) (rest b : List ℕ) → b ≡ edges_to f64s l n ++ rest → (q : ℕ) → q ≤ n → get_or b q 0 ≡ edge f64s l q
back_is l n rest b e q h = ap (λ (t : List ℕ). get_or t q 0) e ∙ get_or-append (edges_to f64s l n) rest 0 q (let t = long_edges f64s l n in omega arith) ∙ edges_at f64s l n q h

-- ---- after a pass in which every piece counts
pub record Passed (l : Lattice Float) (n : ℕ) (sums best : List Float) (edges back : List ℕ) : Type 0 where
  pub best_is : best ≡ table f64s l n ++ drop (n + 1) sums
  pub back_is : back ≡ edges_to f64s l n ++ drop (n + 1) edges

pub passed : (offsets starts ids : List ℕ) (scores : List Float) (n : ℕ) (sums best : List Float) (edges back : List ℕ) → best ≡ table f64s (lattice_of offsets starts ids (without (length scores) scores)) n ++ drop (n + 1) sums
    → back ≡ edges_to f64s (lattice_of offsets starts ids (without (length scores) scores)) n ++ drop (n + 1) edges → Passed (lattice_of offsets starts ids scores) n sums best edges back
passed offsets starts ids scores n sums best edges back e f =
    record {
      best_is = e ∙ ap (λ (s : List Float). table f64s (lattice_of offsets starts ids s) n ++ drop (n + 1) sums) (without_none scores);
      back_is = f ∙ ap (λ (s : List Float). edges_to f64s (lattice_of offsets starts ids s) n ++ drop (n + 1) edges) (without_none scores);
    }

pub both_behind : (l : Lattice Float) (n : ℕ) (sums best : List Float) (edges back : List ℕ) → Passed l n sums best edges back → Behind n sums best × Behind n edges back
both_behind l n sums best edges back a = (behind (table f64s l n) sums best n (long_table f64s l n) a.best_is, behind (edges_to f64s l n) edges back n (long_edges f64s l n) a.back_is)
