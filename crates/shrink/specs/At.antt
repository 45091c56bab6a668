-- What the slices hold at the head of a round: pieces with scores, and the lattices of all words over these pieces. Definitions only.
use Rattle.std.specs.Prelude.{◌≡◌, List, [], ℕ, ◌+◌, ◌*◌, ◌/◌, ◌≤◌, ◌<◌, length, get_or, take, Float}
use Rattle.spans.specs.Spans.{listed}
use Rattle.spans.specs.Check.{AllGood}
use Rattle.lattice.specs.Pieces.{Distinct}
use Rattle.lattice.specs.Layout.{flat}
use Rattle.lattice.specs.Written.{Begins}
use Rattle.fresh.specs.Build.{smaller}
use Rattle.model.specs.Model.{Model, Task, lattices}
use Rattle.model.specs.Nodes.{nodes}

-- the slices that rounds hand on
pub record Slices : Type 0 where
  pub pieces : List ℕ
  pub scores : List Float
  pub offsets : List ℕ
  pub starts : List ℕ
  pub ids : List ℕ
  pub spans : List ℕ

-- `count` pieces and scores stand in front, the pieces as spans of the text; and the cache is the one built afresh from them
pub record At (t : Task) (text : List ℕ) (m : Model) (s : Slices) (count edges : ℕ) : Type 0 where
  pub pieces_are : listed text (take (2 * count) s.pieces) ≡ m.pieces
  pub scores_are : take count s.scores ≡ m.scores
  pub in_pieces : 2 * count ≤ length s.pieces
  pub in_scores : count ≤ length s.scores
  pub good : AllGood text (take (2 * count) s.pieces) 255 count
  pub once : Distinct m.pieces
  pub begins : Begins (lattices t m) s.offsets s.starts s.ids s.spans
  pub edges_are : edges ≡ length (flat (lattices t m)).ids

-- what is asked of the words and settings of a task, as its slices have them
pub record Fixed (t : Task) (setting words : ℕ) (frequencies : List ℕ) : Type 0 where
  pub setting_is : t.setting ≡ setting
  pub narrow : setting ≤ 32
  pub words_are : length t.words ≡ words
  pub short : (k : ℕ) → k < length t.words → length (get_or t.words k []) ≤ 255
  pub frequencies_are : t.frequencies ≡ frequencies
  pub frequent : words ≤ length frequencies

-- slots for `count` pieces in the work slices, and trie places for all their prefixes
pub record Room (pieces : List (List ℕ)) (count used bits ranked remap keys ends : ℕ) : Type 0 where
  pub in_used : count ≤ used
  pub in_bits : count ≤ bits
  pub in_ranked : count ≤ ranked
  pub in_remap : count ≤ remap
  pub few : count < 4294967295
  pub trie_room : nodes pieces + 1 ≤ smaller (smaller keys ends) 4294967295 / 2
