-- Cuts of a word: document 01, "A cut is a chain of edges from position 0 to n; the empty word has one". Definitions only.
use Rattle.std.specs.Prelude.{◌≡◌, List, [], ◌∷◌, ℕ, ◌≤◌, ◌<◌, get_or}
use Rattle.connected.specs.Word.{low, high}

-- a chain from position 0 to p, as its edges' numbers from the last to the first
abbrev pub Cut : List ℕ → List ℕ → ℕ → List ℕ → Type 0
Cut offsets starts p [] = p ≡ 0
Cut offsets starts p (k ∷ ks) = (low offsets p ≤ k) × (k < high offsets p) × Cut offsets starts (get_or starts k 0) ks

-- there is one
pub record Connected (offsets starts : List ℕ) (p : ℕ) : Type 0 where
  pub edges : List ℕ
  pub cut : Cut offsets starts p edges
