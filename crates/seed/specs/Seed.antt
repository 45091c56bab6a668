-- What seeding promises, in document 01's words: port order 8, and NoRoom at place 1. Definitions only.
use Rattle.std.specs.Prelude.{◌≡◌, List, ℕ, ◌*◌, ◌/◌, ◌≤◌, ◌<◌, ◌^◌, min, max, length, get_or, take, Float, Option, Some, None}
use Rattle.spans.specs.Spans.{many, chars_at, first, listed}
use Rattle.spans.specs.Check.{AllGood}
use Rattle.positions.specs.Gathered.{bytes_before, Gathering}
use Rattle.ranking.specs.Corpus.{Corpus, weight}
use Rattle.ranking.specs.Seed.{Uncut, Seeded, counts}
use Rattle.ranking.specs.Scores.{seed_scores}
use Rattle.seed.specs.declared.Listed.{Listed}

-- the words of a text with their frequencies
abbrev pub corpus_of : List ℕ → List ℕ → List ℕ → Corpus
corpus_of text words frequencies = first (λ k. (chars_at text words k, get_or frequencies k 0)) (many words)

-- "the piece slots (the shortest per-piece slice)"; a piece has two numbers in `pieces`
abbrev pub slots_of : List ℕ → List ℕ → List Float → List ℕ → List ℕ → List ℕ → ℕ
slots_of pieces tallies scores order work keys =
    min (length pieces / 2) (min (length tallies) (min (length scores) (min (length order) (min (length work) (length keys)))))

-- what is asked for: words that are checked, W at most 2^48, a length setting of at most 32, and room for each position
pub record Asked (text words frequencies : List ℕ) (setting : ℕ) (chars places order work keys : List ℕ) : Type 0 where
  pub words_good : Gathering text words (max 1 setting) chars places
  pub frequent : many words ≤ length frequencies
  pub light : weight (corpus_of text words frequencies) ≤ 2 ^ 48
  pub short : setting ≤ 32
  pub order_room : bytes_before words (many words) ≤ length order
  pub work_room : bytes_before words (many words) ≤ length work
  pub keys_room : bytes_before words (many words) ≤ length keys

-- the list: its pieces as spans of the text, their counts and scores
pub record Lists (text : List ℕ) (corpus : Corpus) (setting least pool slots : ℕ) (pieces tallies : List ℕ) (scores : List Float) (required many : ℕ) : Type 0 where
  pub seeded : Seeded corpus setting least pool (listed text (take (2 * many) pieces)) required
  pub many_is : many ≡ length (listed text (take (2 * many) pieces))
  pub good : AllGood text (take (2 * many) pieces) 255 many
  pub counts_are : take many tallies ≡ counts corpus (listed text (take (2 * many) pieces))
  pub scores_are : take many scores ≡ seed_scores (take many tallies)
  pub size : ℕ
  pub uncut : Uncut corpus setting least size
  pub fits : size ≤ slots

-- "the seed list before its cut exceeds the piece slots"
pub record Exceeds (corpus : Corpus) (setting least slots : ℕ) : Type 0 where
  pub size : ℕ
  pub uncut : Uncut corpus setting least size
  pub over : slots < size

abbrev pub Answers : List ℕ → Corpus → ℕ → ℕ → ℕ → ℕ → List ℕ → List ℕ → List Float → Option Listed → Type 0
Answers text corpus setting least pool slots pieces tallies scores (Some l) =
    Lists text corpus setting least pool slots pieces tallies scores l.required l.many
Answers text corpus setting least pool slots pieces tallies scores None = Exceeds corpus setting least slots
