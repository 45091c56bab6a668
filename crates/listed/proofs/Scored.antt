-- How far the scores are written. Assumes nothing.
use Rattle.std.proofs.Common.{◌≡◌, ℕ, ◌+◌, ◌<◌, ◌≤◌, List, ◌++◌, map, length, get_or, drop, set, refl, ap, ◌∙◌, ap₂, arith}
use lib.Ieee.{Float, nan}
use Rattle.ranking.specs.Scores.{seed_total, seed_score, seed_scores}
use Rattle.ranks.proofs.Made.{Made, made_more, along}

-- those of the first k counts
pub record Scored (counts : List ℕ) (before : List Float) (sum : Float) (k : ℕ) (scores : List Float) : Type 0 where
  pub total : sum ≡ seed_total counts
  pub room : length counts ≤ length before
  pub upto : k ≤ length counts
  pub made : Made (λ (i : ℕ). seed_score sum (get_or counts i 0)) before k scores

pub scored_none : (counts : List ℕ) (scores : List Float) (sum : Float) → sum ≡ seed_total counts → length counts ≤ length scores
    → Scored counts scores sum 0 scores
scored_none counts scores sum e h =
    record { total = e; room = h; upto = omega arith; made = record { is = refl; long = refl; near = omega arith } }

module _ {counts : List ℕ} {before : List Float} {sum : Float} {k : ℕ} {scores : List Float} (s : Scored counts before sum k scores) where
  pub scored_room : k < length counts → k < length scores
  scored_room h = omega (arith, s.room, s.made.long)

  pub scored_more : {v : Float} → v ≡ seed_score sum (get_or counts k 0) → k < length counts
      → Scored counts before sum (k + 1) (set scores k v)
  scored_more e h = record {
    total = s.total;
    room = s.room;
    upto = omega arith;
    made = made_more nan e (scored_room h) s.made;
  }

  pub scored_all : length counts ≤ k → scores ≡ seed_scores counts ++ drop (length counts) before
  scored_all h =
      let e : k ≡ length counts = omega (arith, s.upto) in
      s.made.is
      ∙ ap₂ (λ (x : List Float) (y : List Float). x ++ y)
      (along (seed_score sum) counts 0 k e ∙ ap (λ (t : Float). map (seed_score t) counts) s.total)
      (ap (λ (m : ℕ). drop m before) e)
