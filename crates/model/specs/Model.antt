-- What training does to a list of pieces with scores: document 01, port order 9 to 11. Definitions only.
use Rattle.std.specs.Prelude.{Bool, cond, ◌||◌, List, ℕ, zero, suc, leb, ltb, length, Float}
use Rattle.keep.specs.Keep.{keep_of}
use Rattle.lattice.specs.Lattice.{Edge, cache}
use Rattle.lattice.specs.Pruning.{survivors}
use Rattle.em.specs.Em.{em, em_many}
use Rattle.uses.specs.Uses.{uses_of}
use Rattle.losses.specs.Losses.{losses_of, bits_of}
use Rattle.prune.specs.Prune.{remap_of}
use Rattle.prune.specs.Compact.{surviving}

-- pieces by their characters, and a score for each
pub record Model : Type 0 where
  pub pieces : List (List ℕ)
  pub scores : List Float

-- what stays the same through all rounds: the settings, the pieces that are asked for, and the UTF-8 words with their frequencies
pub record Task : Type 0 where
  pub setting : ℕ
  pub iterations : ℕ
  pub factor : Float
  pub target : ℕ
  pub required : ℕ
  pub words : List (List ℕ)
  pub frequencies : List ℕ

module _ (t : Task) where
  -- every word's lattice over the pieces there are, built afresh
  abbrev pub lattices : Model → List (List (List Edge))
  lattices m = cache t.setting m.pieces t.words

  -- "EM runs max(1, iterations) a round."
  unfoldable pub improved : Model → Model
  improved m = record { pieces = m.pieces; scores = em_many (lattices m) t.frequencies t.iterations m.scores }

  -- "One last EM follows."
  unfoldable pub improved_once : Model → Model
  improved_once m = record { pieces = m.pieces; scores = em (lattices m) t.frequencies m.scores }

  -- what removing each piece would cost, by the bits of it, which order as the losses do
  abbrev pub loss_bits : Model → List ℕ
  loss_bits m = bits_of (losses_of t.setting m.pieces m.scores (uses_of (lattices m) t.frequencies m.scores))

  -- "Costliest survive, lower id on ties, the required prefix always."
  abbrev pub remap_to : ℕ → Model → List ℕ
  remap_to keep m = remap_of (loss_bits m) t.required keep

  unfoldable pub pruned_to : ℕ → Model → Model
  pruned_to keep m = record { pieces = survivors (remap_to keep m) m.pieces; scores = surviving (remap_to keep m) m.scores }

  -- "The count kept is pieces times `shrink_factor`, [..] then not below target."
  abbrev pub keep_next : ℕ → ℕ
  keep_next pieces = keep_of pieces t.factor t.target

  -- a list that is not over target is done; "If that is not below the piece count, training stops as stalled, over target."
  abbrev pub stops : ℕ → Bool
  stops pieces = leb pieces t.target || leb pieces (keep_next pieces)

  -- EM, and then a pruning and the next round, or no more; so many prunings at most
  unfoldable pub rounds : ℕ → Model → Model
  rounds zero m = improved m
  rounds (suc more) m = cond (stops (length m.pieces)) (improved m) (rounds more (pruned_to (keep_next (length m.pieces)) (improved m)))

  -- a pruning loses a piece at least, so that no list has more prunings than pieces
  abbrev pub trained : Model → Model
  trained m = improved_once (rounds (length m.pieces) m)

-- "stalled, over target"
abbrev pub stalled : Task → Model → Bool
stalled t m = ltb t.target (length m.pieces)
