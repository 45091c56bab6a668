-- What the rounds begin with: the task, the seed list with its scores, and what the first lattices are built of. Definitions only.
use Rattle.std.specs.Prelude.{List, ℕ, ◌+◌, ◌*◌, ◌/◌, ◌≤◌, length, take}
use Rattle.refusal.specs.declared.Refusal.{Refusal}
use Rattle.refusal.specs.declared.Refusal.TheVariants.{NoRoom}
use Rattle.spans.specs.Spans.{many, listed}
use Rattle.settings.specs.Settings.{target_of}
use Rattle.ranking.specs.Corpus.{Corpus}
use Rattle.ranking.specs.Seed.{counts}
use Rattle.ranking.specs.Scores.{seed_scores}
use Rattle.listing.specs.Start.{Lent, Left, corpus}
use Rattle.fresh.specs.Build as fresh
use Rattle.model.specs.Model.{Model, Task, lattices}
use Rattle.model.specs.Nodes.{nodes}
use Rattle.begun.specs.Words.{words_in, frequencies_in}

-- the seed list: "Score: ln(count/total)"
abbrev pub first_model : Corpus → List (List ℕ) → Model
first_model corpus texts = record { pieces = texts; scores = seed_scores (counts corpus texts) }

-- "`vocab_size` less specials, not below 0"
abbrev pub target_in : Lent → ℕ
target_in x = target_of x.settings (many x.specials)

-- what stays the same through all rounds
abbrev pub task_of : Lent → ℕ → Task
task_of x required =
    record {
      setting = x.settings.max_piece_chars;
      iterations = x.settings.em_iterations;
      factor = x.settings.shrink_factor;
      target = target_in x;
      required = required;
      words = words_in (corpus x);
      frequencies = frequencies_in (corpus x);
    }

-- the pieces of the seed list, by their characters
abbrev pub seed_texts : List ℕ → List ℕ → ℕ → List (List ℕ)
seed_texts text pieces count = listed text (take (2 * count) pieces)

-- what the first lattices are built of: the UTF-8 words and the seed list, both spans of the text
abbrev pub built_of : Lent → Left → ℕ → ℕ → fresh.Lent
built_of x y r count =
    record {
      setting = x.settings.max_piece_chars;
      text = x.text;
      words = take (2 * r) y.kept;
      spellings = x.text;
      pieces = take (2 * count) y.pieces;
    }

-- "distinct non-empty prefixes plus the root exceed half the lent trie places", or not
abbrev pub TrieFits : List (List ℕ) → List ℕ → List ℕ → Type 0
TrieFits pieces keys ends = nodes pieces + 1 ≤ fresh.smaller (fresh.smaller (length keys) (length ends)) 4294967295 / 2

-- the first lattices have no room: 7 at 2, then 7 at 3
pub data Unlaid (t : Task) (m : Model) (keys ends : List ℕ) (z : fresh.Results) : Refusal → Type 0 where
  no_trie : (TrieFits m.pieces keys ends → ⊥) → Unlaid t m keys ends z (NoRoom 2)
  no_cache : TrieFits m.pieces keys ends → (fresh.CacheRoom (lattices t m) z → ⊥) → Unlaid t m keys ends z (NoRoom 3)
