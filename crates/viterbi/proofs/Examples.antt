-- Document 01's examples of cuts, a and b as 97 and 98: each comes to one outcome. Assumes nothing.
use mathlib.Core.Path.{◌≡◌, refl, sym, ◌∙◌}
use mathlib.Core.Bool.{Bool, true, false, ◌&&◌}
use mathlib.Core.Logic.{◌↔◌}
use mathlib.Core.List.{List, [], ◌∷◌, map}
use Prim.Native.Nat.{ℕ, zero, suc}
use native.Mathlib.Nat.{not-suc-le-zero, le_of_suc-le-suc}
use lib.Dec.{T}
use lib.IntN.{pos}
use lib.ListN.{length}
use lib.Ieee.{Float, nan, inf, fin, binary64, add, lt, of_bits}
use lib.Ieee.Fits.{and_l, and_r}
use Rattle.std.specs.Prelude.{Some, None}
use Rattle.lattice.specs.Lattice.{lattice}
use Rattle.lattice.specs.Layout.{joined, offsets}
use Rattle.scores.specs.Cuts.{Lattice}
use Rattle.scores.specs.Floats.{zero_or_below}
use Rattle.viterbi.specs.Slices.{lattice_of, Scored}
use Rattle.viterbi.specs.Path.{path}
use Rattle.viterbi.specs.Outcome.{Outcome, outcome}
use Rattle.viterbi.specs.Answers.{Answers}
use native.Mathlib.Omega.{arith}
use Rattle.viterbi.proofs.Exact.{built_exact}
use Rattle.viterbi.proofs.Theorems.{answers_exactly}

-- ---- what a best cut of a word over pieces with scores comes to
module _ (pieces : List (List ℕ)) (word : List ℕ) (scores : List Float) where
  abbrev starts : List ℕ
  starts = map (λ e. e.start) (joined (lattice 16 pieces word))

  abbrev ids : List ℕ
  ids = map (λ e. e.id) (joined (lattice 16 pieces word))

  abbrev lattice_with : Lattice Float
  lattice_with = lattice_of (offsets (lattice 16 pieces word)) starts ids scores

  -- r is the only outcome that the promise of `viterbi_core` fits, for path slots that held `before`
  abbrev pub Comes : List ℕ → Outcome → Type 0
  Comes before r = (s : Outcome) → Answers lattice_with ids (length word) before s.slots s.best s.count ↔ (s ≡ r)

  comes : length scores ≡ length pieces → Scored scores → (before : List ℕ) (r : Outcome) → outcome lattice_with ids (length word) before ≡ r → Comes before r
  comes many scored before r e s =
      let x = answers_exactly (offsets (lattice 16 pieces word)) starts ids scores (length word) (built_exact 16 pieces word scores (omega arith)) scored before s in
      (λ p. x.0 p ∙ e, λ p. x.1 (p ∙ sym e))

abbrev all_below : List Float → Bool
all_below [] = true
all_below (x ∷ xs) = zero_or_below x && all_below xs

all_scored : (scores : List Float) → T (all_below scores) → Scored scores
all_scored [] t id h = absurd (not-suc-le-zero h)
all_scored (x ∷ xs) t zero h = and_l (zero_or_below x) (all_below xs) t
all_scored (x ∷ xs) t (suc id) h = all_scored xs (and_r (zero_or_below x) (all_below xs) t) id (le_of_suc-le-suc h)

abbrev a : List ℕ
a = 97 ∷ []

abbrev b : List ℕ
b = 98 ∷ []

abbrev ab : List ℕ
ab = 97 ∷ 98 ∷ []

abbrev ba : List ℕ
ba = 98 ∷ 97 ∷ []

abbrev minus : ℕ → Float
minus m = fin true m (pos 0)

-- -2, whose significand is odd
abbrev minus_two : Float
minus_two = fin true 1 (pos 1)

-- ---- "scores -1 -1 -2 -2: aba gives 0, 3 and -3"
abbrev four : List Float
four = minus 1 ∷ minus 1 ∷ minus_two ∷ minus_two ∷ []

pub example_aba : (x y z : ℕ) → Comes (a ∷ b ∷ ab ∷ ba ∷ []) (97 ∷ 98 ∷ 97 ∷ []) four (x ∷ y ∷ z ∷ []) (record { best = Some (minus 3); count = 2; slots = 0 ∷ 3 ∷ z ∷ [] })
unfolding add lt
example_aba x y z = comes (a ∷ b ∷ ab ∷ ba ∷ []) (97 ∷ 98 ∷ 97 ∷ []) four refl (all_scored four tt) (x ∷ y ∷ z ∷ []) _ refl

-- ---- "word ab, only a and b, each -1.7e308: NoPath"
abbrev steep : Float
steep = of_bits binary64 0xffee_42d1_3077_3b76

pub example_no_path : (x y : ℕ) → Comes (a ∷ b ∷ []) ab (steep ∷ steep ∷ []) (x ∷ y ∷ []) (record { best = None; count = 0; slots = x ∷ y ∷ [] })
unfolding of_bits add lt
example_no_path x y = comes (a ∷ b ∷ []) ab (steep ∷ steep ∷ []) refl (all_scored (steep ∷ steep ∷ []) tt) (x ∷ y ∷ []) _ refl

-- "with ab at -3: that piece"
pub example_that_piece : (x y : ℕ) → Comes (a ∷ b ∷ ab ∷ []) ab (steep ∷ steep ∷ minus 3 ∷ []) (x ∷ y ∷ []) (record { best = Some (minus 3); count = 1; slots = 2 ∷ y ∷ [] })
unfolding of_bits add lt
example_that_piece x y = comes (a ∷ b ∷ ab ∷ []) ab (steep ∷ steep ∷ minus 3 ∷ []) refl (all_scored (steep ∷ steep ∷ minus 3 ∷ []) tt) (x ∷ y ∷ []) _ refl

-- ---- "empty word: no pieces, score 0, accepted", whatever the pieces and the scores
pub example_empty : (pieces : List (List ℕ)) (scores : List Float) → length scores ≡ length pieces → Scored scores → (before : List ℕ)
    → Comes pieces [] scores before (record { best = Some (fin false 0 (pos 0)); count = 0; slots = before })
example_empty pieces scores many scored before = comes pieces [] scores many scored before _ refl

-- ---- other scores, for `path_core`. Word ab: a piece of NaN is above nothing, and so is not used
abbrev path_of : List (List ℕ) → List ℕ → List Float → List ℕ
path_of pieces word scores = path (offsets (lattice 16 pieces word)) (starts pieces word scores) (ids pieces word scores) (length word) scores

pub example_nan : path_of (a ∷ b ∷ ab ∷ []) ab (fin false 1 (pos 0) ∷ minus 1 ∷ nan ∷ []) ≡ 0 ∷ 1 ∷ []
unfolding path add lt
example_nan = refl

-- a sum of plus infinity is not finite, and plus and minus infinity sum to NaN: no path
pub example_infinite : path_of (a ∷ b ∷ []) ab (inf false ∷ minus 1 ∷ []) ≡ []
unfolding path add lt
example_infinite = refl

pub example_both_infinities : path_of (a ∷ b ∷ []) ab (inf false ∷ inf true ∷ []) ≡ []
unfolding path add lt
example_both_infinities = refl
