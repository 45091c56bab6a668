-- Document 01's small examples that are marked P, as one table under one theorem: a and b are 97 and 98, the length setting is 16.
-- Assumes nothing.
use mathlib.Core.Path.{◌≡◌}
use mathlib.Core.Bool.{false, true}
use mathlib.Core.List.{List, [], ◌∷◌}
use Prim.Native.Nat.{ℕ, ◌≤◌}
use lib.IntN.{pos}
use lib.ListN.{length}
use lib.Ieee.{Float, nan, fin, binary64, of_bits}
use Rattle.std.specs.Prelude.{Some, None}
use Rattle.utf8.specs.Decode.{character, decoded}
use Rattle.utf8.proofs.Theorems.{examples}
use Rattle.lattice.specs.Lattice.{cache}
use Rattle.lattice.specs.Layout.{flat}
use Rattle.lattice.specs.Pruning.{gone, retained}
use Rattle.lattice.proofs.Theorems as lattice
use Rattle.viterbi.specs.Slices.{Scored}
use Rattle.viterbi.proofs.Examples as viterbi
use Rattle.ranking.specs.Seed.{Seeded}
use Rattle.ranking.proofs.Examples as ranking
use Rattle.keep.specs.Keep.{keep_of}
use Rattle.keep.proofs.Theorems as keep

abbrev a : List ℕ
a = 97 ∷ []

abbrev b : List ℕ
b = 98 ∷ []

abbrev ab : List ℕ
ab = 97 ∷ 98 ∷ []

abbrev ba : List ℕ
ba = 98 ∷ 97 ∷ []

abbrev aba : List ℕ
aba = 97 ∷ 98 ∷ 97 ∷ []

abbrev four : List (List ℕ)
four = a ∷ b ∷ ab ∷ ba ∷ []

-- -1, -2, -3, and -1.7e308
abbrev minus_one : Float
minus_one = fin true 1 (pos 0)

abbrev minus_two : Float
minus_two = fin true 1 (pos 1)

abbrev minus_three : Float
minus_three = fin true 3 (pos 0)

abbrev steep : Float
steep = of_bits binary64 0xffee_42d1_3077_3b76

-- 0.75
abbrev three_quarters : Float
three_quarters = of_bits binary64 0x3fe8_0000_0000_0000

pub record Examples : Type 0 where
  -- "pieces a, b, ab, ba; word aba: edges (start,end,id) 0,1,0; 0,2,2; 1,2,1; 1,3,3; 2,3,0; offsets 0 0 1 3 5"
  pub built : flat (cache 16 four (aba ∷ [])) ≡ record { starts = 0 ∷ 0 ∷ 1 ∷ 1 ∷ 2 ∷ []; ids = 0 ∷ 2 ∷ 1 ∷ 3 ∷ 0 ∷ []; ends = 0 ∷ 0 ∷ 1 ∷ 3 ∷ 5 ∷ []; spans = 0 ∷ 5 ∷ 0 ∷ 3 ∷ [] }
  -- "b pruned: 0,1,0; 0,2,1; 1,3,2; 2,3,0; offsets 0 0 1 2 4"
  pub pruned : flat (retained (0 ∷ gone ∷ 1 ∷ 2 ∷ []) (cache 16 four (aba ∷ []))) ≡ record { starts = 0 ∷ 0 ∷ 1 ∷ 2 ∷ []; ids = 0 ∷ 1 ∷ 2 ∷ 0 ∷ []; ends = 0 ∷ 0 ∷ 1 ∷ 2 ∷ 4 ∷ []; spans = 0 ∷ 4 ∷ 0 ∷ 3 ∷ [] }
  -- "scores -1 -1 -2 -2: aba gives 0, 3 and -3"
  pub best : (x y z : ℕ) → viterbi.Comes four aba (minus_one ∷ minus_one ∷ minus_two ∷ minus_two ∷ []) (x ∷ y ∷ z ∷ []) (record { best = Some minus_three; count = 2; slots = 0 ∷ 3 ∷ z ∷ [] })
  -- "word ab, only a and b, each -1.7e308: NoPath"
  pub no_path : (x y : ℕ) → viterbi.Comes (a ∷ b ∷ []) ab (steep ∷ steep ∷ []) (x ∷ y ∷ []) (record { best = None; count = 0; slots = x ∷ y ∷ [] })
  -- "with ab at -3: that piece"
  pub that_piece : (x y : ℕ) → viterbi.Comes (a ∷ b ∷ ab ∷ []) ab (steep ∷ steep ∷ minus_three ∷ []) (x ∷ y ∷ []) (record { best = Some minus_three; count = 1; slots = 2 ∷ y ∷ [] })
  -- "empty word: no pieces, score 0, accepted"
  pub empty : (pieces : List (List ℕ)) (scores : List Float) → length scores ≡ length pieces → Scored scores → (before : List ℕ)
      → viterbi.Comes pieces [] scores before (record { best = Some (fin false 0 (pos 0)); count = 0; slots = before })
  -- "aba of frequency 2, minimum 2: a, b, aba, ab, ba; minimum 3: a, b"
  pub minimum_2 : (pool : ℕ) → 5 ≤ pool → Seeded ((aba, 2) ∷ []) 16 2 pool (a ∷ b ∷ aba ∷ ab ∷ ba ∷ []) 2
  pub minimum_3 : (pool : ℕ) → Seeded ((aba, 2) ∷ []) 16 3 pool (a ∷ b ∷ []) 2
  -- "keep of 10 at 0.75: 7; with target 8: 8; NaN, target 8: 8"
  pub ten : keep_of 10 three_quarters 0 ≡ 7
  pub ten_to_eight : keep_of 10 three_quarters 8 ≡ 8
  pub ten_nan : keep_of 10 nan 8 ≡ 8
  -- "ED A0 80, C0 80, F4 90 80 80 refused; F4 8F BF BF accepted"
  pub surrogate : decoded (0xED ∷ 0xA0 ∷ 0x80 ∷ []) ≡ None
  pub overlong : decoded (0xC0 ∷ 0x80 ∷ []) ≡ None
  pub too_high : decoded (0xF4 ∷ 0x90 ∷ 0x80 ∷ 0x80 ∷ []) ≡ None
  pub highest : decoded (0xF4 ∷ 0x8F ∷ 0xBF ∷ 0xBF ∷ []) ≡ character 0x10FFFF 4

-- All of them hold.
pub table : Examples
table =
    record {
      built = lattice.example_built;
      pruned = lattice.example_pruned;
      best = viterbi.example_aba;
      no_path = viterbi.example_no_path;
      that_piece = viterbi.example_that_piece;
      empty = viterbi.example_empty;
      minimum_2 = ranking.minimum_2;
      minimum_3 = ranking.minimum_3;
      ten = keep.ten;
      ten_to_eight = keep.ten_to_eight;
      ten_nan = keep.ten_nan;
      surrogate = examples.0;
      overlong = examples.1;
      too_high = examples.2;
      highest = examples.3;
    }
