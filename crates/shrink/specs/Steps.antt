-- What the steps of a pruning are given, and what they leave. Definitions only.
use Rattle.std.specs.Prelude.{◌≡◌, List, ℕ, ◌+◌, ◌*◌, ◌/◌, ◌≤◌, ◌<◌, length}
use Rattle.fresh.specs.Build.{smaller}
use Rattle.model.specs.Model.{Model, Task, loss_bits, pruned_to}
use Rattle.model.specs.Nodes.{nodes}
use Rattle.shrink.specs.declared.Shrunk.{Shrunk}
use Rattle.shrink.specs.At.{Slices, At, Fixed, Room}

-- slices that are cut to the pieces and the edges there are
pub record Exact (s : Slices) : Type 0 where
  pub two_a_piece : length s.pieces ≡ 2 * length s.scores
  pub equally_many : length s.starts ≡ length s.ids

abbrev pub AtExactly : Task → List ℕ → Model → Slices → Type 0
AtExactly t text m s = At t text m s (length s.scores) (length s.ids)

-- ---- the losses
pub record Weighing (setting : ℕ) (text : List ℕ) (words : ℕ) (frequencies : List ℕ) (s : Slices) (used bits keys ends : ℕ) : Type 0 where
  pub t : Task
  pub m : Model
  pub fixed : Fixed t setting words frequencies
  pub at : AtExactly t text m s
  pub exact : Exact s
  pub in_used : used ≡ length s.scores
  pub in_bits : bits ≡ length s.scores
  pub few : length s.scores < 4294967295
  pub trie_room : nodes m.pieces + 1 ≤ smaller (smaller keys ends) 4294967295 / 2

abbrev pub Weighed : ℕ → List ℕ → ℕ → List ℕ → Slices → List ℕ → Type 0
Weighed setting text words frequencies s bits = (t : Task) (m : Model) → Fixed t setting words frequencies → AtExactly t text m s → bits ≡ loss_bits t m

-- ---- the survivors, where the bits are those of the losses
pub record Narrowing (text : List ℕ) (words required : ℕ) (s : Slices) (bits : List ℕ) (ranked remap : ℕ) : Type 0 where
  pub t : Task
  pub m : Model
  pub at : AtExactly t text m s
  pub exact : Exact s
  pub words_are : length t.words ≡ words
  pub in_bits : length bits ≡ length s.scores
  pub in_ranked : ranked ≡ length s.scores
  pub in_remap : remap ≡ length s.scores
  pub few : length s.scores < 4294967295
  pub there : required ≤ length s.scores

abbrev pub Narrowed : List ℕ → ℕ → ℕ → ℕ → Slices → List ℕ → Slices → Shrunk → Type 0
Narrowed text words required keep s bits s' r =
    (t : Task) (m : Model) → length t.words ≡ words → t.required ≡ required → AtExactly t text m s → bits ≡ loss_bits t m → At t text (pruned_to t keep m) s' r.pieces r.edges

-- ---- both
pub record Shrinking (setting : ℕ) (text : List ℕ) (words : ℕ) (frequencies : List ℕ) (required count edges : ℕ) (s : Slices) (used bits ranked remap keys ends : ℕ) : Type 0 where
  pub t : Task
  pub m : Model
  pub fixed : Fixed t setting words frequencies
  pub required_are : t.required ≡ required
  pub at : At t text m s count edges
  pub room : Room m.pieces count used bits ranked remap keys ends
  pub there : required ≤ count

abbrev pub Shrinks : ℕ → List ℕ → ℕ → List ℕ → ℕ → ℕ → ℕ → ℕ → Slices → Slices → Shrunk → Type 0
Shrinks setting text words frequencies required keep count edges s s' r =
    (t : Task) (m : Model) → Fixed t setting words frequencies → t.required ≡ required → At t text m s count edges → At t text (pruned_to t keep m) s' r.pieces r.edges
