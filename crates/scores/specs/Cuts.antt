-- A lattice by numbers, its cuts and their sums. Document 01, port order 4: "A cut is a chain of edges from position 0 to n; the empty word has one, with no edges and sum 0". Definitions only.
use Rattle.std.specs.Prelude.{◌≡◌, List, [], ◌∷◌, ℕ, ◌≤◌, ◌<◌}
use Rattle.scores.specs.Domain.{Domain}

-- where edge k starts, and its piece's score
pub record Edges (S : Type 0) : Type 0 where
  pub start : ℕ → ℕ
  pub score : ℕ → S

-- the edges that end at p are numbered from `low p` up to, not with, `high p`
pub record Lattice (S : Type 0) : Type 0 where
  pub edges : Edges S
  pub low : ℕ → ℕ
  pub high : ℕ → ℕ

-- edge k ends at p
abbrev pub Ends : {S : Type 0} → Lattice S → ℕ → ℕ → Type 0
Ends l p k = (l.low p ≤ k) × (k < l.high p)

-- a cut of the first p characters, as the numbers of its edges from the last to the first
abbrev pub Cut : {S : Type 0} → Lattice S → ℕ → List ℕ → Type 0
Cut l p [] = p ≡ 0
Cut l p (k ∷ ks) = Ends l p k × Cut l (l.edges.start k) ks

-- its scores, added from left to right: from the first edge to the last
abbrev pub sum : {S : Type 0} → Domain S → Lattice S → List ℕ → S
sum D l [] = D.zero
sum D l (k ∷ ks) = D.add (sum D l ks) (l.edges.score k)

-- what the theorem asks of a lattice of n characters: "start < end; starts strictly rise at each end", and scores that are admitted
pub record Sound {S : Type 0} (Score : S → Type 0) (l : Lattice S) (n : ℕ) : Type 0 where
  pub before : (p k : ℕ) → p ≤ n → Ends l p k → l.edges.start k < p
  pub rising : (p j k : ℕ) → p ≤ n → Ends l p j → Ends l p k → j < k → l.edges.start j < l.edges.start k
  pub scored : (p k : ℕ) → p ≤ n → Ends l p k → Score (l.edges.score k)
