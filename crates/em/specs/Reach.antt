-- Whether a word has a cut, as a test: position by position. That it says so is in proofs/Theorems.antt. Definitions only.
use Rattle.std.specs.Prelude.{ℕ, zero, suc, Bool, true, false, ◌||◌, List, [], ◌∷◌, ◌++◌, slice_index, slice_index_or}
use Rattle.connected.specs.Word.{low, high}
use Rattle.expectations.specs.Edges.{over}

module _ (offsets starts : List ℕ) where
  -- of each position from 0 to p, whether a chain of edges reaches it: position 0, and where an edge from a reached position ends
  abbrev pub reached : ℕ → List Bool
  reached zero = true ∷ []
  reached (suc p) = reached p ++ (over (λ found k. found || slice_index_or (reached p) (slice_index starts k) false) false (low offsets (suc p)) (high offsets (suc p)) ∷ [])

  -- the word of n characters has a cut
  unfoldable pub connects : ℕ → Bool
  connects n = slice_index_or (reached n) n false
