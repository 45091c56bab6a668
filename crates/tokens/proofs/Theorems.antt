-- One outcome, and an example. Assumes nothing.
use mathlib.Core.Path.{◌≡◌, refl, ap}
use mathlib.Core.Bool.{false}
use mathlib.Core.List.{List, [], ◌∷◌}
use Prim.Native.Nat.{ℕ}
use native.Mathlib.Omega.{arith}
use lib.IntN.{pos}
use lib.Ieee.{Float, fin}
use Rattle.laws.proofs.Outcome.{one_outcome}
use Rattle.lattice.specs.Layout.{joined}
use Rattle.copied.specs.Put.{spans_from}
use Rattle.tokens.specs.Tokens.{tokens_of, scores_of, Room, Answers}
use Rattle.std.specs.Prelude.{Option, Some, None}

-- ---- two calls with the same lists lent answer alike, and leave the same
pub record Same (r s : Option ℕ) (bytes tokens bytes' tokens' : List ℕ) (slots slots' : List Float) : Type 0 where
  pub answer : r ≡ s
  pub bytes_same : bytes ≡ bytes'
  pub spans_same : tokens ≡ tokens'
  pub scores_same : slots ≡ slots'

pub no_second : (list : List (List ℕ)) (scores : List Float) (bytes tokens : List ℕ) (slots : List Float)
    (bytes₁ tokens₁ : List ℕ) (slots₁ : List Float) (bytes₂ tokens₂ : List ℕ) (slots₂ : List Float) (r s : Option ℕ)
    → Answers list scores bytes tokens slots bytes₁ tokens₁ slots₁ r → Answers list scores bytes tokens slots bytes₂ tokens₂ slots₂ s
    → Same r s bytes₁ tokens₁ bytes₂ tokens₂ slots₁ slots₂
no_second list scores bytes tokens slots bytes₁ tokens₁ slots₁ bytes₂ tokens₂ slots₂ (Some n) (Some m) p q =
    record {
      answer = ap Some (one_outcome p.count q.count);
      bytes_same = one_outcome p.bytes_are q.bytes_are;
      spans_same = one_outcome p.spans_are q.spans_are;
      scores_same = one_outcome p.scores_are q.scores_are;
    }
no_second list scores bytes tokens slots bytes₁ tokens₁ slots₁ bytes₂ tokens₂ slots₂ (Some n) None p q = absurd (q.no_room p.room)
no_second list scores bytes tokens slots bytes₁ tokens₁ slots₁ bytes₂ tokens₂ slots₂ None (Some m) p q = absurd (p.no_room q.room)
no_second list scores bytes tokens slots bytes₁ tokens₁ slots₁ bytes₂ tokens₂ slots₂ None None p q =
    record {
      answer = refl;
      bytes_same = one_outcome p.same_bytes q.same_bytes;
      spans_same = one_outcome p.same_spans q.same_spans;
      scores_same = one_outcome p.same_scores q.same_scores;
    }

-- ---- the special "é", and the pieces "a" and "ab" of the text "ab" with the scores x and y
abbrev list : List (List ℕ)
list = tokens_of (0xC3 ∷ 0xA9 ∷ []) (0 ∷ 2 ∷ []) (0x61 ∷ 0x62 ∷ []) (0 ∷ 1 ∷ 0 ∷ 2 ∷ [])

pub example_bytes : joined list ≡ 0xC3 ∷ 0xA9 ∷ 0x61 ∷ 0x61 ∷ 0x62 ∷ []
example_bytes = refl

pub example_spans : spans_from 0 list ≡ 0 ∷ 2 ∷ 2 ∷ 1 ∷ 3 ∷ 2 ∷ []
example_spans = refl

pub example_scores : (x y : Float) → scores_of (0 ∷ 2 ∷ []) (x ∷ y ∷ []) ≡ fin false 0 (pos 0) ∷ x ∷ y ∷ []
example_scores x y = refl

-- five bytes are needed, the special's two among them: four are no room
pub example_no_room : (a b c d : ℕ) (tokens : List ℕ) (slots : List Float) → Room list (a ∷ b ∷ c ∷ d ∷ []) tokens slots → ⊥
example_no_room a b c d tokens slots r = let f = r.bytes_fit in omega arith
