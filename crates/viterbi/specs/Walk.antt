-- The walk back: which edges it meets, and the ids that it writes. Definitions only.
use Rattle.std.specs.Prelude.{◌≡◌, List, [], ◌∷◌, map, reverse, ℕ, ◌<◌, length, get_or}

-- the edge k that `back` has at position p can be read, and leads to an earlier position
pub record Leads (back starts ids : List ℕ) (p k : ℕ) : Type 0 where
  pub above : 0 < p
  pub is : get_or back p 0 ≡ k
  pub in_starts : k < length starts
  pub in_ids : k < length ids
  pub lower : get_or starts k 0 < p

-- from position p back to 0 by the edges ks, the last first
abbrev pub Walk : List ℕ → List ℕ → List ℕ → ℕ → List ℕ → Type 0
Walk back starts ids p [] = p ≡ 0
Walk back starts ids p (k ∷ ks) = Leads back starts ids p k × Walk back starts ids (get_or starts k 0) ks

-- the ids of a cut's edges, the first edge's first
abbrev pub spell : List ℕ → List ℕ → List ℕ
spell ids cut = reverse (map (λ k. get_or ids k 0) cut)
