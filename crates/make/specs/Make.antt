-- The tokens of a seed list, or why there are none: document 01's refusals 8, then 7 at 2, 3 and 4. Definitions only.
use Rattle.std.specs.Prelude.{◌≡◌, Bool, List, ◌++◌, map, ℕ, ◌+◌, ◌≤◌, ◌<◌, Float}
use Rattle.refusal.specs.declared.Refusal.{Refusal}
use Rattle.refusal.specs.declared.Refusal.TheVariants.{NoRoom, VocabTooSmall}
use Rattle.utf8.specs.Encode.{spelling}
use Rattle.spans.specs.Spans.{many}
use Rattle.listing.specs.Start as start
use Rattle.fresh.specs.Build as fresh
use Rattle.model.specs.Model.{Model, lattices, trained, stalled}
use Rattle.begun.specs.First.{first_model, target_in, task_of, TrieFits, Unlaid}
use Rattle.tokens.specs.Tokens as tokens

-- ---- the slices that results are written to
pub record Results : Type 0 where
  pub bytes : List ℕ
  pub tokens : List ℕ
  pub scores : List Float

-- ---- the tokens
-- the pieces with scores that all rounds and the last EM leave of a seed list
abbrev pub final : start.Lent → List (List ℕ) → ℕ → Model
final x pieces required = trained (task_of x required) (first_model (start.corpus x) pieces)

-- "Specials come first, score 0": the bytes of each token, and its score
abbrev pub token_bytes : start.Lent → Model → List (List ℕ)
token_bytes x m = tokens.texts_of x.texts x.specials ++ map spelling m.pieces

abbrev pub token_scores : start.Lent → Model → List Float
token_scores x m = tokens.scores_of x.specials m.scores

abbrev pub TokenRoom : start.Lent → Model → Results → Type 0
TokenRoom x m y = tokens.Room (token_bytes x m) y.bytes y.tokens y.scores

-- ---- 8, then 7 at 2, 3 and 4, for a seed list
pub data Late (x : start.Lent) (keys ends : List ℕ) (z : fresh.Results) (y : Results) (pieces : List (List ℕ)) (required : ℕ) : Refusal → Type 0 where
  too_small : target_in x < required → Late x keys ends z y pieces required (VocabTooSmall (required + many x.specials))
  unlaid : {refusal : Refusal} → required ≤ target_in x → Unlaid (task_of x required) (first_model (start.corpus x) pieces) keys ends z refusal → Late x keys ends z y pieces required refusal
  no_results : required ≤ target_in x → TrieFits pieces keys ends → fresh.CacheRoom (lattices (task_of x required) (first_model (start.corpus x) pieces)) z
      → (TokenRoom x (final x pieces required) y → ⊥) → Late x keys ends z y pieces required (NoRoom 4)

-- or the tokens
pub record Made (x : start.Lent) (keys ends : List ℕ) (z : fresh.Results) (y y' : Results) (pieces : List (List ℕ)) (required count : ℕ) (over : Bool) : Type 0 where
  pub asked : required ≤ target_in x
  pub trie_fits : TrieFits pieces keys ends
  pub cache_fits : fresh.CacheRoom (lattices (task_of x required) (first_model (start.corpus x) pieces)) z
  pub filled : tokens.Filled (token_bytes x (final x pieces required)) (token_scores x (final x pieces required)) y.bytes y.tokens y.scores y'.bytes y'.tokens y'.scores count
  pub over_is : over ≡ stalled (task_of x required) (final x pieces required)
