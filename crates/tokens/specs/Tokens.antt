-- The tokens that training answers, and the three slices that it writes them to. Document 01: "Specials come first, score 0.";
-- NoRoom 4 is "result slots or bytes too few"; "A refusal changes no result slice"; "An accepted call keeps result and path
-- slots it doesn't fill." Definitions only.
use Rattle.std.specs.Prelude.{◌≡◌, false, List, ◌++◌, ℕ, ◌/◌, ◌≤◌, length, drop, replicate, pos, Float, Option, Some, None}
use Rattle.std.specs.Float.{fin}
use Rattle.spans.specs.Spans.{many, octets, first}
use Rattle.spans.specs.Check.{AllGood}
use Rattle.lattice.specs.Layout.{joined}
use Rattle.lattice.specs.Written.{over}
use Rattle.copied.specs.Put.{spans_from}

-- ---- what a call asks: specials and pieces within document 01's bounds, and a score for each piece
pub record Given (texts specials text pieces : List ℕ) (scores : List Float) : Type 0 where
  pub specials_good : AllGood texts specials 255 (many specials)
  pub few_specials : many specials ≤ 256
  pub pieces_good : AllGood text pieces 255 (many pieces)
  pub few_pieces : many pieces ≤ 1048576
  pub scored : length scores ≡ many pieces

-- ---- the tokens
-- the bytes of each span, in order
abbrev pub texts_of : List ℕ → List ℕ → List (List ℕ)
texts_of text spans = first (octets text spans) (many spans)

-- "Specials come first": the bytes of each token
abbrev pub tokens_of : List ℕ → List ℕ → List ℕ → List ℕ → List (List ℕ)
tokens_of texts specials text pieces = texts_of texts specials ++ texts_of text pieces

-- "score 0", which is +0; then the scores of the pieces
abbrev pub scores_of : List ℕ → List Float → List Float
scores_of specials scores = replicate (many specials) (fin false 0 (pos 0)) ++ scores

-- ---- the room that tokens need, "specials included": two numbers and a score for each, and their bytes
pub record Room (list : List (List ℕ)) (bytes tokens : List ℕ) (slots : List Float) : Type 0 where
  pub spans_fit : length list ≤ length tokens / 2
  pub scores_fit : length list ≤ length slots
  pub bytes_fit : length (joined list) ≤ length bytes

-- ---- n tokens and their scores are written over the fronts of the slices, and what stands behind is as it was
pub record Filled (list : List (List ℕ)) (scores : List Float) (bytes tokens : List ℕ) (slots : List Float) (bytes' tokens' : List ℕ) (slots' : List Float) (n : ℕ) : Type 0 where
  pub room : Room list bytes tokens slots
  pub count : n ≡ length list
  pub bytes_are : bytes' ≡ over (joined list) bytes
  pub spans_are : tokens' ≡ over (spans_from 0 list) tokens
  pub scores_are : slots' ≡ scores ++ drop (length scores) slots

-- or there is no room, and the slices are as they were
pub record Untouched (list : List (List ℕ)) (bytes tokens : List ℕ) (slots : List Float) (bytes' tokens' : List ℕ) (slots' : List Float) : Type 0 where
  pub no_room : Room list bytes tokens slots → ⊥
  pub same_bytes : bytes' ≡ bytes
  pub same_spans : tokens' ≡ tokens
  pub same_scores : slots' ≡ slots

abbrev pub Answers : List (List ℕ) → List Float → List ℕ → List ℕ → List Float → List ℕ → List ℕ → List Float → Option ℕ → Type 0
Answers list scores bytes tokens slots bytes' tokens' slots' (Some n) = Filled list scores bytes tokens slots bytes' tokens' slots' n
Answers list scores bytes tokens slots bytes' tokens' slots' None = Untouched list bytes tokens slots bytes' tokens' slots'
