-- How far the loops have come. Assumes nothing.
use Rattle.std.proofs.Common.{◌≡◌, ℕ, ◌+◌, ◌-◌, ◌*◌, ◌<◌, ◌≤◌, List, length, get_or, take, set, sym, refl, ap, ◌∙◌, subst, add-one, arith, length-set, get_or-set_other, take-suc, get_or-set_same}
use native.Mathlib.Decide.{dec_lt}
use lib.Ieee.{Float}
use Rattle.positions.specs.Positions.{at}
use Rattle.spans.specs.Spans.{many, from, bytes}
use Rattle.math.specs.Steps.{◌⊕◌, zero}
use Rattle.ranking.specs.Scores.{float, seed_total}
use Rattle.ranking.proofs.Scores.{sum_more}
use Rattle.listed.specs.Spelled.{end_of, position_of, length_of, Ending, Cutting, Spelling, Cut, Spelled}

-- ---- the first k pieces are written
pub record Upto (words places : List ℕ) (n : ℕ) (before : List ℕ) (k : ℕ) (pieces : List ℕ) : Type 0 where
  pub call : Spelling words places n before
  pub long : length pieces ≡ length before
  pub froms : (i : ℕ) → i < k → from pieces i ≡ at places (position_of before i)
  pub lengths : (i : ℕ) → i < k
      → bytes pieces i ≡ end_of words places n (position_of before i) (length_of before i) - at places (position_of before i)
  pub rest : (j : ℕ) → 2 * k ≤ j → get_or pieces j 0 ≡ get_or before j 0

pub upto_none : {words places : List ℕ} {n : ℕ} {pieces : List ℕ} → Spelling words places n pieces → Upto words places n pieces 0 pieces
upto_none s = record {
  call = s;
  long = refl;
  froms = λ i h. absurd (nothing i h);
  lengths = λ i h. absurd (nothing i h);
  rest = λ j h. refl;
}
  where
    nothing : (i : ℕ) → i < 0 → ⊥
    nothing i h = omega arith

module _ {words places : List ℕ} {n : ℕ} {before : List ℕ} {k : ℕ} {pieces : List ℕ} (u : Upto words places n before k pieces) where
  module _ (h : k < many before) where
    same_position : position_of pieces k ≡ position_of before k
    same_position = u.rest (2 * k) (omega arith)

    same_length : length_of pieces k ≡ length_of before k
    same_length = u.rest (2 * k + 1) (omega arith)

    pub upto_cutting : Cutting words places n pieces k
    upto_cutting =
        let c = u.call.each k h in
        let e = same_position in
        let f = same_length in
        record {
          in_pieces = omega (arith, u.long, c.in_pieces);
          ending = subst (λ (p : ℕ). Ending words places n p (length_of pieces k)) (sym e)
              (subst (Ending words places n (position_of before k)) (sym f) c.ending);
          forward = rw (e, f) c.forward;
          small = rw (e, f) c.small;
        }

    pub upto_more : {pieces' : List ℕ} → Cut words places n pieces k pieces' → Upto words places n before (k + 1) pieces'
    upto_more {pieces'} d =
        let a = at places (position_of pieces k) in
        let b = end_of words places n (position_of pieces k) (length_of pieces k) - a in
        let one = set pieces (2 * k) a in
        let room : 2 * k + 1 < length pieces = upto_cutting.in_pieces in
        let long-one : length one ≡ length pieces = length-set pieces (2 * k) a in
        let other : (j : ℕ) → (j ≡ 2 * k → ⊥) → (j ≡ 2 * k + 1 → ⊥) → get_or pieces' j 0 ≡ get_or pieces j 0 = λ j f g.
        ap (λ (x : List ℕ). get_or x j 0) d.is ∙ get_or-set_other one (2 * k + 1) j b 0 g ∙ get_or-set_other pieces (2 * k) j a 0 f in
        let here : from pieces' k ≡ a =
        ap (λ (x : List ℕ). get_or x (2 * k) 0) d.is ∙ get_or-set_other one (2 * k + 1) (2 * k) b 0 (λ e. omega arith)
        ∙ get_or-set_same pieces (2 * k) a 0 (omega arith) in
        let next : bytes pieces' k ≡ b =
        ap (λ (x : List ℕ). get_or x (2 * k + 1) 0) d.is ∙ get_or-set_same one (2 * k + 1) b 0 (omega arith) in
        record {
          call = u.call;
          long = ap length d.is ∙ length-set one (2 * k + 1) b ∙ long-one ∙ u.long;
          froms = λ i g. elim (dec_lt i k) [
            | yes l ↦ other (2 * i) (λ e. omega arith) (λ e. omega arith) ∙ u.froms i l
            | no l ↦ let e : k ≡ i = omega arith in
                subst (λ (m : ℕ). from pieces' m ≡ at places (position_of before m)) e (here ∙ ap (at places) same_position)
          ];
          lengths = λ i g. elim (dec_lt i k) [
            | yes l ↦ other (2 * i + 1) (λ e. omega arith) (λ e. omega arith) ∙ u.lengths i l
            | no l ↦ let e : k ≡ i = omega arith in
                subst
                (λ (m : ℕ). bytes pieces' m ≡ end_of words places n (position_of before m) (length_of before m) - at places (position_of before m))
                e (rw (← same_position, ← same_length) next)
          ];
          rest = λ j g. other j (λ e. omega arith) (λ e. omega arith) ∙ u.rest j (omega arith);
        }

  pub upto_all : many before ≤ k → Spelled words places n before pieces
  upto_all h = record { froms = λ i g. u.froms i (omega arith); lengths = λ i g. u.lengths i (omega arith) }

-- ---- the total of the first k counts
pub total_more : (counts : List ℕ) (k : ℕ) (sum : Float) → k < length counts → sum ≡ seed_total (take k counts)
    → sum ⊕ float (get_or counts k 0) ≡ seed_total (take (k + 1) counts)
total_more counts k sum h e =
    ap (λ (s : Float). s ⊕ float (get_or counts k 0)) e
    ∙ sym (sum_more zero (take k counts) (get_or counts k 0))
    ∙ ap seed_total (sym (take-suc counts k 0 h) ∙ ap (λ (m : ℕ). take m counts) (sym (add-one k)))
