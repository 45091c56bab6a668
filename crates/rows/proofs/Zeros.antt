-- Zeros from one place of a list up to another. Assumes nothing.
use Rattle.std.proofs.Common.{◌≡◌, ℕ, ◌-◌, ◌≤◌, ◌<◌, List, length, get_or, replicate, rules, ap, ◌∙◌}
use Rattle.std.proofs.lemmas.List.{length-replicate, places}
use borrow.Rule.Slice.PartMut.{put_mid, mid_of}

-- zeros from one place up to another, and all else as it was
pub record Zeroed (grid : List ℕ) (from to : ℕ) (grid' : List ℕ) : Type 0 where
  pub long : length grid' ≡ length grid
  pub before : (k : ℕ) → k < from → get_or grid' k 0 ≡ get_or grid k 0
  pub zeros : (k : ℕ) → from ≤ k → k < to → get_or grid' k 0 ≡ 0
  pub behind : (k : ℕ) → to ≤ k → get_or grid' k 0 ≡ get_or grid k 0

-- what a part that was filled with zeros leaves
pub zeroed : (grid part : List ℕ) (from to : ℕ) → from ≤ to → to ≤ length grid → part ≡ replicate (length (mid_of from (to - from) grid)) 0 → Zeroed grid from to (put_mid from (to - from) grid part)
zeroed grid part from to h l e =
    let n : length (mid_of from (to - from) grid) ≡ to - from = search (rules, places) in
    let f : part ≡ replicate (to - from) 0 = e ∙ ap (λ (k : ℕ). replicate k 0) n in
    let m : length part ≡ to - from = ap length f ∙ length-replicate (to - from) 0 in
    record {
      long = search (rules, places);
      before = λ k b. search (rules, places);
      zeros = λ k a b. search (rules, places);
      behind = λ k b. search (rules, places);
    }
